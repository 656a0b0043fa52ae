-- The library's word for a search that finds no digit from 1 to 9.
use Prim.Native.Nat.{ℕ}
use mathlib.Core.Path.{◌≡◌, refl}
use mathlib.Core.Bool.{Bool, true, false, not, cond, ◌||◌}
use mathlib.Core.List.{List, [], ◌∷◌}
use Rattle.std.specs.List.{list_any}
use Rattle.text.specs.Ranges.{within}
use Rattle.amount.specs.Amount.{all_zero}

not_or : (t u : Bool) → not (t || u) ≡ cond t false (not u)
not_or true u = refl
not_or false u = refl

same : (s : List ℕ) → not (list_any (within 49 57) s) ≡ all_zero s
unfolding all_zero
same [] = refl
same (b ∷ s) = rw (← same s) (not_or (within 49 57 b) (list_any (within 49 57) s))

pub zeros : {r : Bool} (s : List ℕ) → r ≡ list_any (within 49 57) s → not r ≡ all_zero s
zeros s e = rw e (same s)
