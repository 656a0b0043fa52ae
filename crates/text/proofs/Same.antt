-- Laws of the comparison of two texts: it says whether they are equal.
use Prim.Native.Nat.{ℕ}
use mathlib.Core.Path.{◌≡◌, refl}
use mathlib.Core.Bool.{true}
use mathlib.Core.List.{List, [], ◌∷◌}
use native.Mathlib.Omega.{arith}
use borrow.Author.Tests.{eq-eqb}
use lib.Dec.{eqb, eqb→eq}
use Rattle.text.specs.Same.{same_text}
use Rattle.text.proofs.Ranges.{is_true, both_parts}

pub same_text_lem : (t u : List ℕ) → same_text t u ≡ true → t ≡ u
unfolding same_text
same_text_lem [] [] e = refl
same_text_lem [] (b ∷ u) e = let z : ◌≡◌ {A = ℕ} 0 1 = cc in absurd (omega arith)
same_text_lem (a ∷ t) [] e = let z : ◌≡◌ {A = ℕ} 0 1 = cc in absurd (omega arith)
same_text_lem (a ∷ t) (b ∷ u) e =
    let p = both_parts (eqb a b) (same_text t u) (rw e tt) in
    rw (eqb→eq a b p.0, same_text_lem t u (is_true (same_text t u) p.1))

pub text_same : (t : List ℕ) → same_text t t ≡ true
unfolding same_text
text_same [] = refl
text_same (a ∷ t) = rw (eq-eqb a a refl) (text_same t)
