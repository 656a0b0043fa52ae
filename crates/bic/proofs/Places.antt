-- What the rule of a BIC says fits a verdict.
use Prim.Native.Nat.{ℕ}
use mathlib.Core.List.{List}
use Rattle.text.proofs.Near.{Small, Short, nears}
use Rattle.bic.specs.Bic.{bic_length, bic_answer}

pub bic_small : (s : List ℕ) → Short s → Small (bic_answer s)
unfolding bic_answer bic_length
bic_small s h = search nears depth 9
