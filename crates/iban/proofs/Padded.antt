-- Laws of a text in n bytes, zeros past its last: a byte more, the length, and the text as the front.
use Prim.Native.Nat.{ℕ, zero, suc, ◌≤◌}
use mathlib.Core.Path.{◌≡◌, refl, ap}
use mathlib.Core.List.{List, [], ◌∷◌, ◌++◌}
use native.Mathlib.Omega.{arith}
use lib.ListN.{length, set, take}
use Rattle.iban.specs.Format.{padded}

pub padded-more : (n : ℕ) (t : List ℕ) (b : ℕ) → set (padded n t) (length t) b ≡ padded n (t ++ (b ∷ []))
unfolding padded
padded-more zero t b = refl
padded-more (suc n) [] b = refl
padded-more (suc n) (a ∷ t) b = ap (λ (l : List ℕ). a ∷ l) (padded-more n t b)

pub length-padded : (n : ℕ) (t : List ℕ) → length (padded n t) ≡ n
unfolding padded
length-padded zero t = refl
length-padded (suc n) [] = ap suc (length-padded n [])
length-padded (suc n) (b ∷ t) = ap suc (length-padded n t)

pub padded-front : (n : ℕ) (t : List ℕ) → length t ≤ n → take (length t) (padded n t) ≡ t
unfolding padded
padded-front n [] h = refl
padded-front zero (b ∷ t) h = absurd (omega arith)
padded-front (suc n) (b ∷ t) h = ap (λ (l : List ℕ). b ∷ l) (padded-front n t (omega arith))
