-- What the rule of a code says fits a verdict.
use Prim.Native.Nat.{ℕ, ◌<◌, ◌^◌}
use mathlib.Core.List.{List}
use Rattle.text.proofs.Near.{Small, Short, nears}
use Rattle.codes.specs.Codes.{on_list, well_spelt, code_rule}

pub code_small : (kind n : ℕ) (codes : List (List ℕ)) (s : List ℕ) → n < 2 ^ 16 → Short s → Small (code_rule kind n codes s)
unfolding code_rule well_spelt on_list
code_small kind n codes s f h = search nears depth 9
