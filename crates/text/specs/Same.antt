-- The same text, byte for byte.
use Rattle.std.specs.Prelude.{ℕ, Bool, true, false, ◌&&◌, List, [], ◌∷◌, eqb}

unfoldable pub same_text : List ℕ → List ℕ → Bool
same_text [] [] = true
same_text [] (b ∷ u) = false
same_text (a ∷ t) [] = false
same_text (a ∷ t) (b ∷ u) = eqb a b && same_text t u
