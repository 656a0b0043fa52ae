-- An amount that is accepted is ASCII.
use Prim.Native.Nat.{ℕ, ◌+◌}
use mathlib.Core.Path.{◌≡◌, refl}
use mathlib.Core.Bool.{Bool, true, false, cond}
use mathlib.Core.List.{List}
use native.Mathlib.Omega.{arith}
use borrow.Author.Tests.{ltb-true, ltb-false, eqb-true}
use lib.Dec.{eqb, ltb}
use lib.ListN.{length, get_or}
use Rattle.answer.specs.Result.{Accepted, Pass}
use Rattle.answer.proofs.Laws.{both_pass, accepted_pass}
use Rattle.text.specs.declared.Set.TheVariants.{Digits}
use Rattle.text.proofs.Low.{Low, low-none, low_one, low-place, low_join, low-then, low_first}
use Rattle.text.specs.Field.{dot}
use Rattle.amount.specs.Amount.{start, part, fraction, validate_amount}

module _ (s : List ℕ) where
  start-low : Low s 0 (start s)
  unfolding start
  start-low = go (eqb (get_or s 0 0) 43) refl
    where
      go : (u : Bool) → eqb (get_or s 0 0) 43 ≡ u → Low s 0 (cond u 1 0)
      go true e = low_one s 0 (omega (arith, eqb-true (get_or s 0 0) 43 e))
      go false e = low-none s 0 0 (omega arith)

  part_low : (from to most k : ℕ) → part s from to most k ≡ Pass → Low s from to
  unfolding part
  part_low from to most k e = low_first s Digits from to (k + 1) (both_pass _ _ (both_pass _ _ e).0).1

  fraction-low : fraction s (dot s) ≡ Pass → Low s (dot s) (length s)
  unfolding fraction
  fraction-low = go (ltb (dot s) (length s)) refl
    where
      go : (u : Bool) → ltb (dot s) (length s) ≡ u → cond u (part s (dot s + 1) (length s) 5 606) Pass ≡ Pass → Low s (dot s) (length s)
      go true h e =
          low_join s (dot s) (dot s + 1) (dot s + 1) (length s) (omega arith) (low-place s 46 (omega arith) (ltb-true (dot s) (length s) h))
          (part_low (dot s + 1) (length s) 5 606 e)
      go false h e = low-none s (dot s) (length s) (ltb-false (dot s) (length s) h)

  pub amount_low : (n : ℕ) → validate_amount s ≡ Accepted n → Low s 0 (length s)
  unfolding validate_amount
  amount_low n e =
      low-then s _ _ 0 (dot s) (length s)
      (low-then s _ _ 0 (start s) (dot s) (λ h. start-low) (part_low (start s) (dot s) 18 603))
      fraction-low
      (both_pass _ _ (accepted_pass _ 0 n e)).0
