-- What the rule of an LEI says fits a verdict.
use Prim.Native.Nat.{ℕ}
use mathlib.Core.List.{List}
use Rattle.text.proofs.Near.{Small, Short, nears}
use Rattle.checkdigit.proofs.Places.{remainder_near}
use Rattle.lei.specs.Lei.{lei_characters, lei_answer}

pub lei_small : (s : List ℕ) → Short s → Small (lei_answer s)
unfolding lei_answer lei_characters
lei_small s h = search (nears, remainder_near) depth 9
