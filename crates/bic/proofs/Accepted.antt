-- A BIC that is accepted is ASCII.
use Prim.Native.Nat.{ℕ}
use mathlib.Core.Path.{◌≡◌}
use mathlib.Core.List.{List}
use native.Mathlib.Omega.{arith}
use lib.ListN.{length}
use Rattle.answer.specs.Result.{Accepted}
use Rattle.answer.proofs.Laws.{accepted_pass}
use Rattle.text.specs.declared.Set.TheVariants.{Capitals, CapitalsDigits}
use Rattle.text.proofs.Low.{Low, low-none, low-then, low_first}
use Rattle.bic.specs.Bic.{bic_answer}

pub bic_low : (s : List ℕ) (n : ℕ) → bic_answer s ≡ Accepted n → Low s 0 (length s)
unfolding bic_answer
bic_low s n e =
    low-then s _ _ 0 6 (length s) (low-then s _ _ 0 0 6 (λ h. low-none s 0 0 (omega arith)) (low_first s Capitals 0 6 302))
    (low_first s CapitalsDigits 6 (length s) 303)
    (accepted_pass _ 0 n e)
