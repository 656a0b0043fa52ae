-- Sheets: equal in all four parts means equal, the 34 bytes of a held text, and a sheet stands exactly where it holds a text that fits.
use Prim.Native.Nat.{ℕ, zero, suc, min, ◌≤◌}
use mathlib.Core.Path.{◌≡◌, refl, sym, ◌∙◌, ap}
use mathlib.Core.Bool.{Bool, true, false, ◌&&◌, cond, not}
use mathlib.Core.List.{List, [], ◌∷◌, ◌++◌}
use native.Mathlib.Omega.{arith}
use borrow.Author.Tests.{eq-eqb, ne_eqb}
use lib.Dec.{T, eqb, eqb→eq}
use lib.ListN.{length, take, drop, length-take}
use lib.Pointwise.{pointwise}
use Rattle.std.proofs.lemmas.List.{take_min}
use Rattle.text.specs.Same.{same_text}
use Rattle.text.proofs.Ranges.{within-ends, is_true, both_parts}
use Rattle.text.proofs.Same.{same_text_lem, text_same}
use Rattle.iban.specs.Format.{padded}
use Rattle.iban.proofs.Padded.{padded-front}
use Rattle.field.specs.Field.{check_field}
use Rattle.sheet.specs.Sheets.{sheet_kind, held_text, sheet_of, empty_sheet, held, same_sheet}
use Rattle.sheet.specs.Load.{summed, load_of, standing}
use Rattle.sheet.specs.declared.Sheet.{Sheet}
use Rattle.sheet.specs.declared.Repaired.{Repaired}
use Rattle.sheet.proofs.Fits.{Fit, fit_few}
use Rattle.sheet.proofs.Loads.{load_other, load_refused, load_taken, taken_fit, load_fit}

pub same-sheet : (a b : Sheet) → same_sheet a b ≡ true → a ≡ b
unfolding same_sheet
same-sheet a b e =
    let p = both_parts (eqb a.kind b.kind) _ (rw e tt) in
    let q = both_parts (eqb a.length b.length) _ p.1 in
    let r = both_parts (eqb a.remainder b.remainder) (same_text a.text b.text) q.1 in
    parts a.kind b.kind a.length b.length a.remainder b.remainder a.text b.text
    (eqb→eq a.kind b.kind p.0) (eqb→eq a.length b.length q.0) (eqb→eq a.remainder b.remainder r.0)
    (same_text_lem a.text b.text (is_true (same_text a.text b.text) r.1))
  where
    parts : (k k' n n' r r' : ℕ) (t t' : List ℕ) → k ≡ k' → n ≡ n' → r ≡ r' → t ≡ t'
        → ◌≡◌ {A = Sheet} (record { kind = k; length = n; remainder = r; text = t }) (record { kind = k'; length = n'; remainder = r'; text = t' })
    parts k k' n n' r r' t t' p q x y = cc

pub sheet-same : (a : Sheet) → same_sheet a a ≡ true
unfolding same_sheet
sheet-same a = rw (eq-eqb a.kind a.kind refl, eq-eqb a.length a.length refl, eq-eqb a.remainder a.remainder refl) (text_same a.text)

-- the library's `==` compares the same four parts
pointwise-same : (t u : List ℕ) → pointwise eqb t u ≡ same_text t u
unfolding same_text
pointwise-same [] [] = refl
pointwise-same [] (b ∷ u) = refl
pointwise-same (a ∷ t) [] = refl
pointwise-same (a ∷ t) (b ∷ u) = ap (λ (x : Bool). eqb a b && x) (pointwise-same t u)

abbrev pub derived : Sheet → Sheet → Bool
derived a b = eqb a.kind b.kind && (eqb a.length b.length && (eqb a.remainder b.remainder && pointwise eqb a.text b.text))

derived-same : (a b : Sheet) → derived a b ≡ same_sheet a b
unfolding same_sheet
derived-same a b = rw (pointwise-same a.text b.text)

pub same_to : (a b x : Sheet) (r : Bool) → r ≡ derived a b → a ≡ x → r ≡ same_sheet x b
same_to a b x r e f = e ∙ derived-same a b ∙ ap (λ (u : Sheet). same_sheet u b) f

-- a text copied over zeros
padded-past : (n : ℕ) (t : List ℕ) → length t ≤ n → padded n t ≡ t ++ drop (length t) (padded n [])
unfolding padded
padded-past zero [] h = refl
padded-past zero (b ∷ t) h = absurd (omega arith)
padded-past (suc n) [] h = refl
padded-past (suc n) (b ∷ t) h = ap (λ (l : List ℕ). b ∷ l) (padded-past n t (omega arith))

pub copied_text : (t zeros out : List ℕ) (n : ℕ) → zeros ≡ padded 34 [] → n ≡ min (length t) 34 → out ≡ take n t → out ++ drop n zeros ≡ padded 34 (take 34 t)
copied_text t zeros out n z f e =
    let few : length (take 34 t) ≤ 34 = omega (arith, length-take 34 t) in
    let size : n ≡ length (take 34 t) = omega (arith, f, length-take 34 t) in
    let least : n ≡ min 34 (length t) = omega (arith, f) in
    let front : out ≡ take 34 t = e ∙ ap (λ (k : ℕ). take k t) least ∙ take_min 34 t in
    rw (front, z, size) (sym (padded-past 34 (take 34 t) few))

pub held_of : (kind : ℕ) (t : List ℕ) → length t ≤ 34 → held (sheet_of kind t) ≡ t
unfolding sheet_of
held_of kind t h = padded-front 34 t h

-- a sheet that holds a text that fits
pub record Stood (s : Sheet) : Type 0 where
  pub fit : Fit s.kind (held s)
  pub is : s ≡ sheet_of s.kind (held s)

module _ (s : Sheet) (o : Stood s) where
  pub stood_size : s.length ≡ length (held s)
  unfolding sheet_of
  stood_size = ap (λ (u : Sheet). u.length) o.is

  pub stood_text : s.text ≡ padded 34 (held s)
  unfolding sheet_of
  stood_text = ap (λ (u : Sheet). u.text) o.is

  pub stood_few : (5 ≤ s.length) × (s.length ≤ 34)
  stood_few = let l = fit_few s.kind (held s) o.fit in (omega (arith, stood_size), omega (arith, stood_size))

pub sheet_stood : (kind : ℕ) (t : List ℕ) → Fit kind t → Stood (sheet_of kind t)
unfolding sheet_of
sheet_stood kind t f =
    let e = padded-front 34 t (fit_few kind t f).1 in
    record { fit = rw e f; is = rw e }

-- what stands is such a sheet
not_empty : (s : Sheet) → T (sheet_kind s.kind) → same_sheet s empty_sheet ≡ false
unfolding same_sheet empty_sheet
not_empty s k = let w = within-ends 1 2 s.kind k in rw (ne_eqb s.kind 0 (λ e. omega arith))

is_empty : (s t : Sheet) → t ≡ empty_sheet → same_sheet t s ≡ true → same_sheet s empty_sheet ≡ true
is_empty s t e f = rw (← e, ← same-sheet t s f) (sheet-same t)

holds_itself : (s : Sheet) (kind : ℕ) (t : List ℕ) → Fit kind t → sheet_of kind t ≡ s → Stood s
holds_itself s kind t f e = rw e at (sheet_stood kind t f)

pub stood : (s : Sheet) → standing s ≡ true → Stood s
unfolding standing
stood s e = by (same_sheet s empty_sheet) refl (sheet_kind s.kind) refl (summed (check_field s.kind (held s))) refl e
  where
    own : Repaired
    own = load_of s.kind (held s) empty_sheet

    by : (a : Bool) → same_sheet s empty_sheet ≡ a → (b : Bool) → sheet_kind s.kind ≡ b → (c : Bool) → summed (check_field s.kind (held s)) ≡ c
        → cond a false (same_sheet own.sheet s) ≡ true → Stood s
    by true p b q c r f = let z : ◌≡◌ {A = ℕ} 0 1 = cc in absurd (omega arith)
    by false p false q c r f =
        let g = is_empty s own.sheet (ap (λ (x : Repaired). x.sheet) (load_other s.kind (held s) empty_sheet q)) f in
        let z : ◌≡◌ {A = ℕ} 0 1 = cc in absurd (omega arith)
    by false p true q false r f =
        let g = is_empty s own.sheet (ap (λ (x : Repaired). x.sheet) (load_refused s.kind (held s) empty_sheet q r)) f in
        let z : ◌≡◌ {A = ℕ} 0 1 = cc in absurd (omega arith)
    by false p true q true r f =
        holds_itself s s.kind (held_text s.kind (held s)) (taken_fit s.kind (held s) (rw q tt) r)
        (sym (ap (λ (x : Repaired). x.sheet) (load_taken s.kind (held s) empty_sheet q r)) ∙ same-sheet own.sheet s f)

-- and such a sheet stands
pub stands : (s : Sheet) → Stood s → standing s ≡ true
unfolding standing
stands s o =
    let own : (load_of s.kind (held s) empty_sheet).sheet ≡ s = ap (λ (x : Repaired). x.sheet) (load_fit s.kind (held s) empty_sheet o.fit) ∙ sym o.is in
    rw (not_empty s o.fit.known, own) (sheet-same s)

-- the two tests of the code
pub empty_falls : (s : Sheet) → same_sheet s empty_sheet ≡ true → standing s ≡ false
unfolding standing
empty_falls s e = rw e

pub by_own : (s : Sheet) → same_sheet s empty_sheet ≡ false → standing s ≡ same_sheet (load_of s.kind (held s) empty_sheet).sheet s
unfolding standing
by_own s e = rw e

pub differs : (s e : Sheet) (ne : Bool) → e ≡ empty_sheet → ne ≡ not (derived s e) → same_sheet s empty_sheet ≡ not ne
differs s e ne z n = rw (n, z, derived-same s empty_sheet) (go (same_sheet s empty_sheet))
  where
    go : (b : Bool) → b ≡ not (not b)
    go true = refl
    go false = refl
