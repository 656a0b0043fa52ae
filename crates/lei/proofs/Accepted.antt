-- An LEI that is accepted is ASCII.
use Prim.Native.Nat.{ℕ}
use mathlib.Core.Path.{◌≡◌}
use mathlib.Core.List.{List}
use native.Mathlib.Omega.{arith}
use lib.ListN.{length}
use Rattle.answer.specs.Result.{Accepted}
use Rattle.answer.proofs.Laws.{both_pass, accepted_pass}
use Rattle.text.specs.declared.Set.TheVariants.{CapitalsDigits}
use Rattle.text.proofs.Low.{Low, low_part, low_first, length-held}
use Rattle.lei.specs.Lei.{lei_characters, lei_answer}

pub lei_low : (s : List ℕ) (n : ℕ) → lei_answer s ≡ Accepted n → Low s 0 (length s)
unfolding lei_answer lei_characters
lei_low s n e =
    let h = both_pass _ _ (both_pass _ _ (both_pass _ _ (accepted_pass _ 1 n e)).0).0 in
    low_part s 0 20 0 (length s) (omega arith) (omega (arith, length-held 20 s 201 h.0)) (low_first s CapitalsDigits 0 20 202 h.1)
