-- An amount in cents that is accepted, strictly or leniently, is ASCII.
use Prim.Native.Nat.{ℕ, ◌+◌}
use mathlib.Core.Path.{◌≡◌, refl}
use mathlib.Core.Bool.{Bool, true, false, ◌&&◌, cond}
use mathlib.Core.List.{List}
use native.Mathlib.Omega.{arith}
use borrow.Author.Tests.{ltb-true, ltb-false}
use lib.Dec.{T, eqb, ltb, eqb→eq}
use lib.ListN.{length, get_or}
use Rattle.answer.specs.Result.{Accepted, Pass}
use Rattle.answer.proofs.Laws.{both_pass, accepted_pass}
use Rattle.text.specs.declared.Set.TheVariants.{Digits}
use Rattle.text.proofs.Ranges.{both_parts}
use Rattle.text.proofs.Low.{Low, low-none, low_one, low-place, low_join, low-then, low_first}
use Rattle.text.specs.Field.{dot}
use Rattle.common.specs.Cents.{digits_at, digits, whole, past, fraction, cents, parts, parse_amount_cents, parse_amount_cents_lenient}

module _ (s : List ℕ) where
  plus-low : (from to : ℕ) → Low s from (digits_at s from to)
  unfolding digits_at
  plus-low from to = go (ltb from to && eqb (get_or s from 0) 43) (λ t. t)
    where
      go : (u : Bool) → (T u → T (ltb from to && eqb (get_or s from 0) 43)) → Low s from (cond u (from + 1) from)
      go true f = low_one s from (omega (arith, eqb→eq (get_or s from 0) 43 (both_parts (ltb from to) (eqb (get_or s from 0) 43) (f tt)).1))
      go false f = low-none s from from (omega arith)

  whole-low : (from to k : ℕ) → whole s from to k ≡ Pass → Low s from to
  unfolding whole digits
  whole-low from to k =
      low-then s _ _ from (digits_at s from to) to (λ e. plus-low from to)
      (λ e. low_first s Digits (digits_at s from to) to (k + 1) (both_pass _ _ e).0)

  past-low : Low s (dot s) (past s (dot s))
  unfolding past
  past-low = go (ltb (dot s) (length s)) refl
    where
      go : (u : Bool) → ltb (dot s) (length s) ≡ u → Low s (dot s) (cond u (dot s + 1) (length s))
      go true e = low-place s 46 (omega arith) (ltb-true (dot s) (length s) e)
      go false e = low-none s (dot s) (length s) (ltb-false (dot s) (length s) e)

  fraction-low : (least from k : ℕ) → fraction least s from k ≡ Pass → Low s from (length s)
  unfolding fraction
  fraction-low least from k =
      low-then s _ _ from from (length s) (λ e. low-none s from from (omega arith)) (go (ltb from (length s)) refl)
    where
      go : (u : Bool) → ltb from (length s) ≡ u → cond u (whole s from (length s) (k + 1)) Pass ≡ Pass → Low s from (length s)
      go true h e = whole-low from (length s) (k + 1) e
      go false h e = low-none s from (length s) (ltb-false from (length s) h)

  parts_low : (least k : ℕ) → parts least s k ≡ Pass → Low s 0 (length s)
  unfolding parts
  parts_low least k e =
      low-then s _ _ 0 (dot s) (length s) (whole-low 0 (dot s) (k + 2))
      (λ h. low_join s (dot s) (past s (dot s)) (past s (dot s)) (length s) (omega arith) past-low (fraction-low least (past s (dot s)) (k + 5) h))
      (both_pass _ _ e).0

  pub cents-low : (n : ℕ) → parse_amount_cents s ≡ Accepted n → Low s 0 (length s)
  unfolding parse_amount_cents
  cents-low n e = parts_low 2 900 (both_pass _ _ (accepted_pass _ (cents s) n e)).1

  pub lenient_low : (n : ℕ) → parse_amount_cents_lenient s ≡ Accepted n → Low s 0 (length s)
  unfolding parse_amount_cents_lenient
  lenient_low n e = parts_low 0 1000 (accepted_pass _ (cents s) n e)
