-- Lists written part by part: three elements stored at the front, and the four parts of a sheet.
use Prim.Native.Nat.{ℕ, ◌≤◌}
use mathlib.Core.Path.{◌≡◌, refl, ap}
use mathlib.Core.List.{List, [], ◌∷◌, ◌++◌}
use native.Mathlib.Omega.{arith}
use borrow.Rule.Slice.PartMut.{put_mid}
use lib.ListN.{length, set, drop}
use lib.Seq.{drop-drop}
use Rattle.record.specs.Number.{to_bytes}
use Rattle.stitchbarrow.specs.Sheets.{sheet_size, sheet_bytes}
use Rattle.sheet.specs.declared.Sheet.{Sheet}

pub three : (l : List ℕ) (a b c : ℕ) → 3 ≤ length l → set (set (set l 0 a) 1 b) 2 c ≡ (a ∷ b ∷ c ∷ []) ++ drop 3 l
three [] a b c h = absurd (omega arith)
three (x ∷ []) a b c h = absurd (omega arith)
three (x ∷ y ∷ []) a b c h = absurd (omega arith)
three (x ∷ y ∷ z ∷ l) a b c h = refl

-- a sheet's parts, each in its place
pub laid : (s : Sheet) (b p q r t : List ℕ) → p ≡ to_bytes 2 s.kind → q ≡ to_bytes 2 s.length → r ≡ to_bytes 8 s.remainder → t ≡ s.text
    → put_mid 12 34 (put_mid 4 8 (put_mid 2 2 (p ++ drop 2 b) q) r) t ≡ sheet_bytes s ++ drop sheet_size b
unfolding sheet_bytes
laid s b p q r t kind size rest text =
    let past : drop 34 (drop 8 (drop 2 (drop 2 b))) ≡ drop sheet_size b = simp drop-drop in
    rw (kind, size, rest, text) (ap (λ (l : List ℕ). sheet_bytes s ++ l) past)
