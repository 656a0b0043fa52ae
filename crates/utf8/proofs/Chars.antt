-- Laws of characters: where one stands in a text, how wide it is, and what follows it.
use Prim.Native.Nat.{ℕ, zero, suc, ◌+◌, ◌≤◌, ◌<◌}
use mathlib.Core.Path.{◌≡◌, refl, sym, ap, ◌∙◌}
use mathlib.Core.Bool.{Bool, true, false, ◌&&◌, ◌||◌, cond}
use mathlib.Core.List.{List, [], ◌∷◌}
use mathlib.Core.Logic.{◌⊎◌, inl, inr, ⊎_elim}
use native.Mathlib.Omega.{arith}
use lib.Dec.{T, leb, ltb, leb→le, ltb→lt, eqb}
use lib.ListN.{length, get_or, drop, length-drop, drop_of_length-le}
use lib.Seq.{drop-cons, get_or-drop, drop-nil, drop-drop}
use Rattle.text.specs.Ranges.{within}
use Rattle.text.proofs.Ranges.{even, on, evenly, within-ends, both_parts, either_parts, find-all}
use Rattle.std.specs.Prelude.{Option, Some, None}
use Rattle.utf8.specs.Rfc3629.{leads, lead_of, needed, well_formed, scalar_of, ch, by_row, char_of, front}
use Rattle.utf8.specs.Chars.{chars_past, chars}
use Rattle.utf8.specs.declared.Lead.{Lead}
use Rattle.utf8.specs.declared.Char.{Char}

-- what is said of a first byte in a range that no row splits
pub led : (l h a : ℕ) → l ≤ a → a ≤ h → T (even [] l h leads) → lead_of a ≡ on None l h leads
unfolding lead_of
led l h a from to t = evenly [] l h a (λ e. e) from to None leads t

-- the character at a place, by the bytes there
front_at : (s : List ℕ) (at : ℕ) → at < length s
    → front (drop at s) ≡ char_of (get_or s at 0) (get_or s (at + 1) 0) (get_or s (at + 2) 0) (get_or s (at + 3) 0)
unfolding front
front_at s at h =
    let one : suc at + 0 ≡ at + 1 = omega arith in
    let two : suc at + 1 ≡ at + 2 = omega arith in
    let three : suc at + 2 ≡ at + 3 = omega arith in
    rw (drop-cons s at 0 h) (simp (get_or-drop, one, two, three))

-- what was read at a place decides, where it was read as `front` reads it
module _ (s : List ℕ) (at : ℕ) (h : at < length s) where
  pub row_none : None ≡ lead_of (get_or s at 0) → None ≡ front (drop at s)
  unfolding char_of
  row_none el = rw (front_at s at h, ← el)

  module _ (l : Lead) (b c d : ℕ) (eb : b ≡ get_or s (at + 1) 0) (ec : c ≡ get_or s (at + 2) 0) (ed : d ≡ get_or s (at + 3) 0)
      (el : Some l ≡ lead_of (get_or s at 0)) where
    pub row_bad : false ≡ well_formed l b c d → None ≡ front (drop at s)
    unfolding char_of
    row_bad t = rw (front_at s at h, ← eb, ← ec, ← ed, ← el, ← t)

    pub row_char : true ≡ well_formed l b c d → (v : ℕ) → v ≡ scalar_of l.width (get_or s at 0) b c d → Some (ch v l.width) ≡ front (drop at s)
    unfolding char_of
    row_char t v ev = rw (front_at s at h, ← eb, ← ec, ← ed, ← el, ← t, ev)

-- a byte below 128 is a character
pub ascii-at : (s : List ℕ) (at a v : ℕ) → at < length s → a ≡ get_or s at 0 → a < 128 → v ≡ a → Some (ch v 1) ≡ front (drop at s)
unfolding char_of well_formed scalar_of needed
ascii-at s at a v h e small ev = rw (front_at s at h, ← e, led 0x00 0x7F a (omega arith) (omega arith) tt, ev)

abbrev width_of : Option Char → ℕ
width_of None = 0
width_of (Some c) = c.width

-- a character that was found: its bytes are well formed, and its width is the row's
pub found : (t : Bool) (x v c w : ℕ) → cond t (Some (ch x v)) None ≡ Some (ch c w) → T t × (v ≡ w)
found true x v c w e = (tt, ap width_of e)
found false x v c w e = let z : ◌≡◌ {A = ℕ} 0 1 = cc in absurd (omega arith)

within_text : (s : List ℕ) (i : ℕ) → 0 < get_or s i 0 → i < length s
within_text [] i h = omega arith
within_text (a ∷ s) zero h = omega arith
within_text (a ∷ s) (suc i) h = let k = within_text s i h in omega arith

-- a row's character has one to four bytes; a row of more than one asks of the second that it is not 0
sound : Lead → Bool
sound l = within 1 4 l.width && (ltb l.width 2 || leb 1 l.low)

abbrev sound_if : Option Lead → Bool
sound_if None = true
sound_if (Some l) = sound l

bounds : (a : ℕ) → T (sound_if (lead_of a))
unfolding lead_of sound
bounds a = find-all sound_if None leads a tt tt

needs_byte : (s : List ℕ) (k w lo hi i : ℕ) → 1 ≤ lo → T (needed k w lo hi (get_or s i 0)) → (w < k) ⊎ (i < length s)
unfolding needed
needs_byte s k w lo hi i h t =
    ⊎_elim (λ u. inl (ltb→lt w k u)) (λ u. inr (within_text s i (let e = within-ends lo hi (get_or s i 0) u in omega arith)))
    (either_parts (ltb w k) (within lo hi (get_or s i 0)) t)

asked : (t u : Bool) → T (cond t false u) → (t ≡ false) × T u
asked true u t = absurd t
asked false u t = (refl, t)

-- the bytes that the width asks for are there
wide : (s : List ℕ) (l : Lead) → T (sound l) → T (well_formed l (get_or s 0 0) (get_or s 1 0) (get_or s 2 0)) → (1 ≤ l.width) × (l.width ≤ suc (length s))
unfolding well_formed sound
wide s l b t =
    let w = l.width in
    let second = needed 2 w l.low l.high (get_or s 0 0) in
    let third = needed 3 w 0x80 0xBF (get_or s 1 0) in
    let fourth = needed 4 w 0x80 0xBF (get_or s 2 0) in
    let p = asked (eqb w 0) (second && (third && fourth)) t in
    let q = both_parts second (third && fourth) p.1 in
    let r = both_parts third fourth q.1 in
    let m = both_parts (within 1 4 w) (ltb w 2 || leb 1 l.low) b in
    let ends = within-ends 1 4 w m.0 in (
      ends.0,
      ⊎_elim (λ (k₄ : w < 4). ⊎_elim (λ (k₃ : w < 3). ⊎_elim (λ (k₂ : w < 2). omega arith) (λ (h : 1 ≤ l.low).
          ⊎_elim (λ (k₂ : w < 2). omega arith) (λ (k : 0 < length s). omega arith) (needs_byte s 2 w l.low l.high 0 h q.0))
          (⊎_elim (λ u. inl (ltb→lt w 2 u)) (λ u. inr (leb→le 1 l.low u)) (either_parts (ltb w 2) (leb 1 l.low) m.1)))
          (λ (k : 1 < length s). omega arith) (needs_byte s 3 w 0x80 0xBF 1 (omega arith) r.0))
          (λ (k : 2 < length s). omega arith) (needs_byte s 4 w 0x80 0xBF 2 (omega arith) r.1),
    )

-- a character has at least one byte, and all of its bytes are there
row_width : (r : Option Lead) (a : ℕ) (s : List ℕ) (c w : ℕ) → T (sound_if r)
    → by_row r a (get_or s 0 0) (get_or s 1 0) (get_or s 2 0) ≡ Some (ch c w) → (1 ≤ w) × (w ≤ suc (length s))
row_width None a s c w b e = let z : ◌≡◌ {A = ℕ} 0 1 = cc in absurd (omega arith)
row_width (Some l) a s c w b e =
    let f = found (well_formed l (get_or s 0 0) (get_or s 1 0) (get_or s 2 0)) (scalar_of l.width a (get_or s 0 0) (get_or s 1 0) (get_or s 2 0)) l.width c w e in
    rw (← f.1) (wide s l b f.0)

pub front-width : (s : List ℕ) (c w : ℕ) → front s ≡ Some (ch c w) → (1 ≤ w) × (w ≤ length s)
unfolding front char_of
front-width [] c w e = let z : ◌≡◌ {A = ℕ} 0 1 = cc in absurd (omega arith)
front-width (a ∷ s) c w e = row_width (lead_of a) a s c w (bounds a) e

past : (k : ℕ) (s : List ℕ) → chars_past k s ≡ chars (drop k s)
unfolding chars_past
past k [] = rw (drop-nil k)
past zero (a ∷ s) = refl
past (suc k) (a ∷ s) = past k s

-- the characters of a text: the first, and those past it
pub chars_char : (s : List ℕ) (c w : ℕ) → front s ≡ Some (ch c w) → chars s ≡ ch c w ∷ chars (drop w s)
unfolding chars_past front
chars_char [] c w e = let z : ◌≡◌ {A = ℕ} 0 1 = cc in absurd (omega arith)
chars_char (a ∷ s) c zero e = let p = front-width (a ∷ s) c zero e in absurd (omega arith)
chars_char (a ∷ s) c (suc k) e = rw (e, past k s)

pub chars_bad : (s : List ℕ) → front s ≡ None → chars s ≡ []
unfolding chars_past
chars_bad [] e = refl
chars_bad (a ∷ s) e = rw e

pub chars-end : (s : List ℕ) (at : ℕ) → length s ≤ at → chars (drop at s) ≡ []
unfolding chars_past
chars-end s at h = rw (drop_of_length-le s h)

-- a character of scalar value c and width w stands at a place of a text
pub record Stands (s : List ℕ) (at c w : ℕ) : Type 0 where
  pub some : 1 ≤ w
  pub inside : at + w ≤ length s
  pub first : chars (drop at s) ≡ ch c w ∷ chars (drop (at + w) s)

pub stands : (s : List ℕ) (at c w : ℕ) → at ≤ length s → front (drop at s) ≡ Some (ch c w) → Stands s at c w
stands s at c w h e =
    let p = front-width (drop at s) c w e in
    record {
      some = p.0;
      inside = omega (arith, length-drop at s);
      first = chars_char (drop at s) c w e ∙ ap (λ (l : List ℕ). ch c w ∷ chars l) (drop-drop w at s);
    }

-- past the end none does
pub no_front : (s : List ℕ) (at : ℕ) → length s ≤ at → None ≡ front (drop at s)
unfolding front
no_front s at h = rw (drop_of_length-le s h)

-- a byte below 128 stands for itself
pub ascii_stands : (s : List ℕ) (at : ℕ) → at < length s → get_or s at 0 < 128 → Stands s at (get_or s at 0) 1
ascii_stands s at h small = stands s at (get_or s at 0) 1 (omega arith) (sym (ascii-at s at (get_or s at 0) (get_or s at 0) h refl small refl))

-- the same, as `decode` meets it
pub ascii_front : (s : List ℕ) (at v : ℕ) → at < length s → get_or s at 0 < 128 → v ≡ get_or s at 0 → Some (ch v 1) ≡ front (drop at s)
ascii_front s at v h small e = ascii-at s at (get_or s at 0) v h refl small e
