-- Laws of a sheet in bytes: it reads back where it stands, and bytes come back as lent from the sheet that they write.
use Prim.Native.Nat.{ℕ, ◌+◌, ◌≤◌, ◌<◌}
use mathlib.Core.Path.{◌≡◌, sym, ap, ◌∙◌}
use mathlib.Core.Bool.{Bool, true, false, cond}
use mathlib.Core.List.{List, ◌++◌}
use native.Mathlib.Omega.{arith}
use lib.Dec.{eqb}
use lib.ListN.{length, take, drop, take-append-drop}
use lib.Seq.{take_at, take-add, drop-drop}
use Rattle.text.proofs.Ranges.{within-ends}
use Rattle.checkdigit.specs.Sum.{remainder_of, iban_remainder}
use Rattle.checkdigit.proofs.Digits.{remainder_low}
use Rattle.checkdigit.proofs.Iban.{iban_low}
use Rattle.iban.proofs.Padded.{length-padded}
use Rattle.record.specs.Number.{to_bytes, little_at, Bytes}
use Rattle.record.proofs.Numbers.{read_back, number_back}
use Rattle.sheet.specs.Sheets.{remainder_by, sheet_of, held}
use Rattle.sheet.specs.declared.Sheet.{Sheet}
use Rattle.sheet.proofs.Sheets.{Stood, stood_few, stood_text}
use Rattle.stitchbarrow.specs.Sheets.{sheet_size, sheet_at, sheet_bytes}

-- what a sheet that stands fits in
low : (kind : ℕ) (t : List ℕ) → remainder_by kind t < 97
unfolding remainder_by
low kind t = go (eqb kind 1)
  where
    go : (b : Bool) → cond b (iban_remainder t) (remainder_of t) < 97
    go true = iban_low t
    go false = remainder_low t

rest_low : (s : Sheet) → Stood s → s.remainder < 97
unfolding sheet_of
rest_low s o = omega (arith, ap (λ (u : Sheet). u.remainder) o.is, low s.kind (held s))

text_long : (s : Sheet) → Stood s → length s.text ≡ 34
text_long s o = rw (stood_text s o) (length-padded 34 (held s))

same : (s : Sheet) (k n r : ℕ) (t : List ℕ) → k ≡ s.kind → n ≡ s.length → r ≡ s.remainder → t ≡ s.text
    → ◌≡◌ {A = Sheet} (record { kind = k; length = n; remainder = r; text = t }) s
same s k n r t a b c d = rw (a, b, c, d)

module _ (s : Sheet) (o : Stood s) (more : List ℕ) where
  pub sheet_back : sheet_at (sheet_bytes s ++ more) ≡ s
  unfolding sheet_at sheet_bytes
  sheet_back =
      let k = within-ends 1 2 s.kind o.fit.known in
      let l = stood_few s o in
      let b = sheet_bytes s ++ more in
      same s (little_at b 0 2) (little_at b 2 2) (little_at b 4 8) (take 34 (drop 12 b))
      (read_back 2 s.kind (omega arith))
      (read_back 2 s.length (omega arith))
      (read_back 8 s.remainder (omega (arith, rest_low s o)))
      (take_at s.text more 34 (text_long s o))

pub sheet_long : (s : Sheet) → Stood s → length (sheet_bytes s) ≡ sheet_size
unfolding sheet_bytes
sheet_long s o = omega (arith, text_long s o)

-- two parts that follow each other
join : (b : List ℕ) (a n m : ℕ) → take n (drop a b) ++ take m (drop (a + n) b) ≡ take (n + m) (drop a b)
join b a n m = sym (take-add n m (drop a b) ∙ ap (λ (l : List ℕ). take n (drop a b) ++ take m l) (drop-drop n a b))

parts : (p p' q q' r r' t more : List ℕ) → p ≡ p' → q ≡ q' → r ≡ r' → (p ++ (q ++ (r ++ t))) ++ more ≡ (p' ++ (q' ++ (r' ++ t))) ++ more
parts p p' q q' r r' t more x y z = cc

pub lent_back : (b : List ℕ) → Bytes b → sheet_size ≤ length b → sheet_bytes (sheet_at b) ++ drop sheet_size b ≡ b
unfolding sheet_at sheet_bytes
lent_back b h l =
    let whole : take 2 (drop 0 b) ++ (take 2 (drop 2 b) ++ (take 8 (drop 4 b) ++ take 34 (drop 12 b))) ≡ take 46 b =
    ap (λ (x : List ℕ). take 2 (drop 0 b) ++ (take 2 (drop 2 b) ++ x)) (join b 4 8 34)
    ∙ ap (λ (x : List ℕ). take 2 (drop 0 b) ++ x) (join b 2 2 42)
    ∙ join b 0 2 44 in
    parts (to_bytes 2 (little_at b 0 2)) (take 2 (drop 0 b)) (to_bytes 2 (little_at b 2 2)) (take 2 (drop 2 b)) (to_bytes 8 (little_at b 4 8)) (take 8 (drop 4 b)) (take 34 (drop 12 b)) (drop sheet_size b)
    (number_back b h 0 2 (omega arith)) (number_back b h 2 2 (omega arith)) (number_back b h 4 8 (omega arith))
    ∙ ap (λ (x : List ℕ). x ++ drop sheet_size b) whole
    ∙ take-append-drop sheet_size b
