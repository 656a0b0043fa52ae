-- What a change at a decimal place does to a remainder by 97: facts on numbers, once over the place.
use mathlib.Core.Path.{◌≡◌, refl, subst}
use mathlib.Core.Bool.{Bool, true, ◌&&◌}
use Prim.Native.Nat.{ℕ, zero, suc, ◌+◌, ◌*◌, ◌%◌, ◌^◌, ◌<◌, ◌≤◌}
use native.Mathlib.Nat.{not-suc-le-zero}
use native.Mathlib.Decide.{dec_lt}
use native.Mathlib.Omega.{arith}
use lib.Dec.{T, eqb, eqb→eq}
use Rattle.text.proofs.Ranges.{both_parts}
use Rattle.checkdigit.proofs.Mod.{cancel, cancel_pow, cancel_add}

-- a test that passes at every number below a bound
abbrev every_below : (ℕ → Bool) → ℕ → Bool
every_below f zero = true
every_below f (suc n) = f n && every_below f n

at_below : (f : ℕ → Bool) (n : ℕ) → T (every_below f n) → (k : ℕ) → k < n → T (f k)
at_below f zero t k h = absurd (not-suc-le-zero h)
at_below f (suc n) t k h = let p = both_parts (f n) (every_below f n) t in last (dec_lt k n) (at_below f n p.1 k) p.0
  where
    last : Dec (k < n) → (k < n → T (f k)) → T (f n) → T (f k)
    last (yes l) before here = before l
    last (no l) before here = subst (λ (m : ℕ). T (f m)) (omega arith) here

-- 10^k + 96, which leaves what 10^k - 1 leaves, has an inverse by 97 for k from 1 to 95 (10^96 leaves 1)
abbrev less_one : ℕ → ℕ
less_one k = 10 ^ suc k + 96

test : ℕ → Bool
test k = eqb (less_one k ^ 95 * less_one k % 97) 1

inverse : (k : ℕ) → k < 95 → less_one k ^ 95 * less_one k % 97 ≡ 1
unfolding test
inverse k h = eqb→eq _ _ (at_below test 95 tt k h)

-- a weight 10^k and what is added are cancelled: 68 is the inverse of 10
weight : (k x y r : ℕ) → (x * 10 ^ k + r) % 97 ≡ (y * 10 ^ k + r) % 97 → x % 97 ≡ y % 97
weight k x y r p = cancel_pow 97 10 68 refl k x y (cancel_add r (x * 10 ^ k) (y * 10 ^ k) p)

-- one value at place k
pub place : (k a b r : ℕ) → a < 97 → b < 97 → (a * 10 ^ k + r) % 97 ≡ (b * 10 ^ k + r) % 97 → a ≡ b
place k a b r ha hb p = let q = weight k a b r p in omega arith

-- two values, n places apart
pub swap : (n k a b r : ℕ) → 1 ≤ n → n ≤ 95 → a < 97 → b < 97
    → ((a * 10 ^ n + b) * 10 ^ k + r) % 97 ≡ ((b * 10 ^ n + a) * 10 ^ k + r) % 97 → a ≡ b
swap zero k a b r l h ha hb p = absurd (not-suc-le-zero l)
swap (suc j) k a b r l h ha hb p =
    let q = weight k (a * 10 ^ suc j + b) (b * 10 ^ suc j + a) r p in
    let s : (a * less_one j) % 97 ≡ (b * less_one j) % 97 = omega arith in
    let u = cancel 97 (less_one j) (less_one j ^ 95) a b (inverse j h) s in
    omega arith
