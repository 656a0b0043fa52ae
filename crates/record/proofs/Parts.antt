-- Laws of the part of a slice that goes to its end, as `&l[w..]` gives it.
use Prim.Native.Nat.{ℕ, ◌-◌}
use mathlib.Core.Path.{◌≡◌, ap}
use mathlib.Core.List.{List, [], ◌++◌, append-nil}
use native.Mathlib.Omega.{arith}
use lib.ListN.{length, take, drop, length-drop, drop_of_length-le}
use lib.Seq.{take_all}

pub to_end : (w : ℕ) (l : List ℕ) → take (length l - w) (drop w l) ≡ drop w l
to_end w l = take_all (length l - w) (drop w l) (omega (arith, length-drop w l))

pub past_end : (w : ℕ) (l : List ℕ) → drop (length l - w) (drop w l) ≡ []
past_end w l = drop_of_length-le (drop w l) {i = length l - w} (omega (arith, length-drop w l))

-- the whole once such a part, lent as `&mut l[w..]`, is back
pub put_back : (w : ℕ) (l last x : List ℕ) → last ≡ x → take w l ++ (last ++ drop (length l - w) (drop w l)) ≡ take w l ++ x
put_back w l last x e = simp (past_end, append-nil) (ap (λ (k : List ℕ). take w l ++ k) e)
