-- Laws of a number's digits: below 10 there is one, from 10 on the last follows those of the tenth part; how many there are, and what writes them.
use Prim.Native.Nat.{ℕ, zero, suc, ◌+◌, ◌*◌, ◌/◌, ◌%◌, ◌^◌, ◌≤◌, ◌<◌}
use mathlib.Core.Path.{◌≡◌, refl, sym, ap, ◌∙◌}
use mathlib.Core.Bool.{Bool, true, false}
use mathlib.Core.List.{[], ◌∷◌, ◌++◌}
use native.Mathlib.Nat.{pow-suc}
use native.Mathlib.Omega.{arith}
use borrow.Author.Tests.{lt-ltb, le-ltb, ltb-true, ltb-false}
use lib.Dec.{ltb}
use lib.ListN.{length, length-append}
use Rattle.std.specs.Fmt.{decimal}
use Rattle.std.proofs.lemmas.Fmt.{decimal_by_steps}
use Rattle.report.specs.Digits.{decimal_digits_in, decimal_digits}

-- the bound on the steps does not matter once it is enough
same : (k j x : ℕ) → x ≤ k → x ≤ j → decimal_digits_in k (ltb x 10) x ≡ decimal_digits_in j (ltb x 10) x
unfolding decimal_digits_in
same zero zero x p q = refl
same zero (suc j) x p q = rw (lt-ltb x 10 (omega arith))
same (suc k) zero x p q = rw (lt-ltb x 10 (omega arith))
same (suc k) (suc j) x p q = go (ltb x 10) refl (same k j (x / 10))
  where
    go : (b : Bool) → ltb x 10 ≡ b → (x / 10 ≤ k → x / 10 ≤ j → decimal_digits_in k (ltb (x / 10) 10) (x / 10) ≡ decimal_digits_in j (ltb (x / 10) 10) (x / 10))
        → decimal_digits_in (suc k) b x ≡ decimal_digits_in (suc j) b x
    go true e ih = refl
    go false e ih = let h = ltb-false x 10 e in rw (ih (omega arith) (omega arith))

pub small : (x : ℕ) → x < 10 → decimal_digits x ≡ (48 + x) ∷ []
unfolding decimal_digits decimal_digits_in
small x h = same x (suc x) x (omega arith) (omega arith) ∙ rw (lt-ltb x 10 h)

pub more : (x : ℕ) → 10 ≤ x → decimal_digits x ≡ decimal_digits (x / 10) ++ ((48 + x % 10) ∷ [])
unfolding decimal_digits decimal_digits_in
more x h =
    same x (suc x) x (omega arith) (omega arith) ∙ rw (le-ltb x 10 h, same x (x / 10) (x / 10) (omega arith) (omega arith))

-- a statement of every number holds if it does below 10, and from 10 on where it does of the tenth part
pub by_tens : (P : ℕ → Type 0) → ((x : ℕ) → x < 10 → P x) → ((x : ℕ) → 10 ≤ x → P (x / 10) → P x) → (x : ℕ) → P x
by_tens P one ten x = go x x (omega arith)
  where
    go : (k x : ℕ) → x ≤ k → P x
    go zero x h = one x (omega arith)
    go (suc k) x h = on (ltb x 10) refl (go k (x / 10))
      where
        on : (b : Bool) → ltb x 10 ≡ b → (x / 10 ≤ k → P (x / 10)) → P x
        on true e ih = one x (ltb-true x 10 e)
        on false e ih = let l = ltb-false x 10 e in ten x l (ih (omega arith))

pub one : (x : ℕ) → x < 10 → length (decimal_digits x) ≡ 1
one x h = ap length (small x h)

pub one_more : (x : ℕ) → 10 ≤ x → length (decimal_digits x) ≡ length (decimal_digits (x / 10)) + 1
one_more x h = rw (more x h) (length-append (decimal_digits (x / 10)) ((48 + x % 10) ∷ []))

pub least : (x : ℕ) → 1 ≤ length (decimal_digits x)
least =
    by_tens (λ x. 1 ≤ length (decimal_digits x)) (λ x h. rw (one x h) (omega arith)) (λ x h i. rw (one_more x h) (omega arith))

-- a number below a power of ten has no more digits than that
pub most : (k x : ℕ) → x < 10 ^ suc k → length (decimal_digits x) ≤ suc k
most zero x h = rw (one x (omega arith)) (omega arith)
most (suc k) x h =
    let p : 10 ^ suc (suc k) ≡ 10 ^ suc k * 10 = pow-suc 10 (suc k) in
    go (most k (x / 10) (omega arith)) (ltb x 10) refl
  where
    go : length (decimal_digits (x / 10)) ≤ suc k → (b : Bool) → ltb x 10 ≡ b → length (decimal_digits x) ≤ suc (suc k)
    go i true e = rw (one x (ltb-true x 10 e)) (omega arith)
    go i false e = rw (one_more x (ltb-false x 10 e)) (omega arith)

-- and one from that power on has more
pub more_than : (k x : ℕ) → 10 ^ k ≤ x → suc k ≤ length (decimal_digits x)
more_than zero x h = least x
more_than (suc k) x h =
    let p : 10 ^ suc k ≡ 10 ^ k * 10 = pow-suc 10 k in
    let q : 1 ≤ 10 ^ k = pow-pos k in
    omega (arith, more_than k (x / 10) (omega arith), one_more x (omega arith))
  where
    pow-pos : (k : ℕ) → 1 ≤ 10 ^ k
    pow-pos zero = omega arith
    pow-pos (suc k) = omega (arith, pow-pos k, pow-suc 10 k)

-- how many digits there are, by the powers of ten between which the number stands
pub count : (k x : ℕ) → 10 ^ k ≤ x → x < 10 * 10 ^ k → k + 1 ≡ length (decimal_digits x)
count k x h l = omega (arith, more_than k x h, most k x (omega (arith, pow-suc 10 k)))

-- what the kit writes of a number
pub written : (x : ℕ) → x < 2 ^ 64 → decimal x ≡ decimal_digits x
written =
    decimal_by_steps (λ x ds. ds ≡ decimal_digits x) (λ x h. sym (small x h)) (λ x ds h e. rw e (sym (more x h)))
