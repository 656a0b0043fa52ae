-- A remainder that a rule tells fits a verdict: it is below 97.
use Prim.Native.Nat.{ℕ}
use mathlib.Core.List.{List}
use native.Mathlib.Omega.{arith}
use lib.Dec.{eqb}
use Rattle.answer.specs.declared.Reason.TheVariants.{Remainder}
use Rattle.text.proofs.Near.{Near, near_must}
use Rattle.checkdigit.specs.Sum.{remainder_of, iban_remainder}
use Rattle.checkdigit.specs.RemainderStep.{remainder_step}

pub remainder_near : (t : List ℕ) (k : ℕ) → Near (remainder_step (remainder_of t) k)
unfolding remainder_step remainder_of
remainder_near t k = near_must (eqb (remainder_of t) 1) (Remainder (remainder_of t)) k (omega arith) (omega arith)

pub iban_remainder_near : (t : List ℕ) (k : ℕ) → Near (remainder_step (iban_remainder t) k)
unfolding iban_remainder
iban_remainder_near t k = remainder_near _ k
