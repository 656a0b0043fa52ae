-- Laws of decimal digits, once over the length: digits in two parts, one digit more, the least and the most that digits write, the limit.
use Prim.Native.Nat.{ℕ, ◌+◌, ◌*◌, ◌^◌, ◌≤◌, ◌<◌}
use mathlib.Core.Path.{◌≡◌, refl}
use mathlib.Core.Bool.{Bool, true, false, cond}
use mathlib.Core.List.{List, [], ◌∷◌, ◌++◌, map, map-append}
use native.Mathlib.Nat.{one-le-pow, mul-le-mul_left, mul-le-mul_right, pow-suc}
use native.Mathlib.Numerals.{add-one}
use native.Mathlib.Omega.{arith}
use borrow.Author.Tests.{lt-ltb, le-ltb, ltb-true, ltb-false}
use lib.Dec.{T, leb, ltb, leb→le}
use lib.Pow.{pow-add}
use lib.ListN.{length, take, drop, get_or, length-append, length-map, take-append-drop}
use lib.Seq.{take-suc}
use Rattle.text.specs.Decimal.{decimal, digit_of, number_written, fitted}
use Rattle.std.specs.Prelude.{Option, Some, None}
use Rattle.std.specs.Option.{SomeIff}
use Rattle.text.proofs.Ranges.{both_parts, every}

pub decimal-append : (x y : List ℕ) → decimal (x ++ y) ≡ decimal x * 10 ^ length y + decimal y
unfolding decimal
decimal-append [] y = omega arith
decimal-append (d ∷ x) y = rw (decimal-append x y, length-append x y, pow-add 10 (length x) (length y)) (omega arith)

-- digits below 10 write less than the power of ten for their count
pub decimal-most : (ds : List ℕ) → T (every (λ d. leb d 9) ds) → decimal ds < 10 ^ length ds
unfolding decimal
decimal-most [] t = omega arith
decimal-most (d ∷ ds) t =
    let p = both_parts (leb d 9) (every (λ d. leb d 9) ds) t in
    let h = leb→le d 9 p.0 in
    let k = decimal-most ds p.1 in
    let m : d * 10 ^ length ds ≤ 9 * 10 ^ length ds = mul-le-mul_right (10 ^ length ds) h in
    rw (pow-suc 10 (length ds)) (omega arith)

pub number_append : (s t : List ℕ) → number_written (s ++ t) ≡ number_written s * 10 ^ length t + number_written t
unfolding number_written
number_append s t = rw (map-append digit_of s t, decimal-append (map digit_of s) (map digit_of t), length-map t digit_of)

-- one digit
number_one : (b : ℕ) → number_written (b ∷ []) ≡ digit_of b
unfolding number_written decimal
number_one b = omega arith

-- one digit more
pub number_more : (t : List ℕ) (i : ℕ) → i < length t → number_written (take (i + 1) t) ≡ number_written (take i t) * 10 + digit_of (get_or t i 0)
number_more t i h =
    rw (add-one i, take-suc t i 0 h, number_append (take i t) (get_or t i 0 ∷ []), number_one (get_or t i 0))

-- digits that follow make a number no smaller
pub number_grows : (i : ℕ) (t : List ℕ) → number_written (take i t) ≤ number_written t
number_grows i t =
    let n = number_written (take i t) in
    let k = length (drop i t) in
    let e : number_written t ≡ n * 10 ^ k + number_written (drop i t) = rw (take-append-drop i t) at (number_append (take i t) (drop i t)) in
    let m : n * 1 ≤ n * 10 ^ k = mul-le-mul_left n (one-le-pow k 10 (omega arith)) in
    omega arith

pub number-none : number_written [] ≡ 0
unfolding number_written decimal
number-none = refl

-- the 64-bit limit: a number that fits, one that does not, and what each answer has shown
pub fits : (n : ℕ) → n < 2 ^ 64 → Some n ≡ fitted n
unfolding fitted
fits n h = rw (lt-ltb n (2 ^ 64) h)

pub over : (n : ℕ) → 2 ^ 64 ≤ n → None ≡ fitted n
unfolding fitted
over n h = rw (le-ltb n (2 ^ 64) h)

by_test : (n m : ℕ) (t : Bool) → ltb n (2 ^ 64) ≡ t → cond t (Some n) None ≡ Some m → (m ≡ n) × (n < 2 ^ 64)
by_test n m true h e = (cc, ltb-true n (2 ^ 64) h)
by_test n m false h e = let z : ◌≡◌ {A = ℕ} 0 1 = cc in absurd (omega arith)

pub fitted-is : (n m : ℕ) → fitted n ≡ Some m → (m ≡ n) × (n < 2 ^ 64)
unfolding fitted
fitted-is n m e = by_test n m (ltb n (2 ^ 64)) refl e

over_test : (t : Bool) (n : ℕ) → cond t (Some n) None ≡ None → t ≡ false
over_test true n e = let z : ◌≡◌ {A = ℕ} 0 1 = cc in absurd (omega arith)
over_test false n e = refl

pub over-is : (n : ℕ) → fitted n ≡ None → 2 ^ 64 ≤ n
unfolding fitted
over-is n e = ltb-false n (2 ^ 64) (over_test (ltb n (2 ^ 64)) n e)

-- what a checked sum or product says
pub checked_fits : (n : ℕ) (r : Option ℕ) → SomeIff r (n < 2 ^ 64) n → r ≡ fitted n
checked_fits n None h = over n (omega (arith, h))
checked_fits n (Some x) h = rw h.1 (fits n h.0)

pub past_fits : (n d : ℕ) → (n < 2 ^ 64 → ⊥) → None ≡ fitted (n + d)
past_fits n d h = over (n + d) (omega (arith, h))
