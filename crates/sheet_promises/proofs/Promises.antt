-- Demand 3: what is promised of a sheet over any list of calls, of errors that a repair of an accepted text makes, of a fill, and of refusals.
use Prim.Native.Nat.{ℕ, ◌+◌, ◌/◌, ◌%◌, ◌≤◌, ◌<◌}
use mathlib.Core.Path.{◌≡◌, refl, sym, ◌∙◌, ap}
use mathlib.Core.Bool.{Bool, true, false, cond}
use mathlib.Core.List.{List, [], ◌∷◌}
use mathlib.Core.Logic.{◌≢◌}
use native.Mathlib.Omega.{arith}
use borrow.Author.Tests.{lt-ltb}
use lib.Dec.{T}
use lib.ListN.{length, set, get_or, length-set}
use lib.Seq.{get_or-set_other, set-get_or}
use Rattle.answer.specs.Steps.{◌and_then◌}
use Rattle.answer.specs.Table.{number_of, value_of}
use Rattle.std.specs.Prelude.{Err}
use Rattle.answer.specs.Result.{Accepted, Step, Pass, Stop}
use Rattle.answer.specs.declared.Reason.{Reason}
use Rattle.answer.specs.declared.Reason.TheVariants.{UnknownKind, NoSheet}
use Rattle.answer.proofs.Laws.{both_pass}
use Rattle.text.proofs.Ranges.{is_true, is_false}
use Rattle.checkdigit.specs.Letter.{Slip}
use Rattle.checkdigit.specs.Sum.{exchanged}
use Rattle.checkdigit.specs.Fill.{check_digits, stamped}
use Rattle.checkdigit.proofs.Fill.{check-digits-ends}
use Rattle.field.specs.Field.{admission, check_field}
use Rattle.sheet.specs.Sheets.{sheet_kind, held_text, characters, remainder_by, sheet_of, empty_sheet, held, same_sheet}
use Rattle.sheet.specs.Load.{refusal, summed, load_of, standing}
use Rattle.repairs.specs.declared.Request.{Request}
use Rattle.sheet.specs.Sheets.{digits_place}
use Rattle.repairs.specs.Repairs.{filled, asked, place_step, given_steps, request_steps, sheet_step, repair_by, repair_of}
use Rattle.repairs.specs.declared.Request.TheVariants.{Replace, Exchange, Fill}
use Rattle.sheet_promises.specs.Calls.{calls_after, Checked, freshly, checked_by, texts_after, held_back, Elsewhere}
use Rattle.sheet.specs.declared.Sheet.{Sheet}
use Rattle.sheet.specs.declared.Repaired.{Repaired}
use Rattle.sheet.proofs.Fits.{Fit, fit_few}
use Rattle.sheet.proofs.Loads.{load_fit, summed_passes, passes_summed, fresh_summed}
use Rattle.sheet.proofs.Sheets.{Stood, stood, stands, empty_falls, by_own, stood_size, sheet_stood, same-sheet, sheet-same}
use Rattle.repairs.proofs.Repairs.{asked_fit, by_request, fit_filled, text_passes, sheet-passed}
use Rattle.sheet_promises.proofs.Calls.{took, fresh_value, call-is, told_fit, not_twenty, accepted_one, one_accepted, slipped, traded, filled_remainder}

-- A load answers 0 or 5 exactly where the field is admitted and passes every step of its rule but the remainder.
pub takes_what_passes : (kind : ℕ) (s : List ℕ) → T (sheet_kind kind)
    → (summed (check_field kind s) ≡ true → (admission kind s ≡ Pass) × (characters kind s ≡ Pass))
    × ((admission kind s ≡ Pass) × (characters kind s ≡ Pass) → summed (check_field kind s) ≡ true)
takes_what_passes kind s k = (summed_passes kind s k, λ p. passes_summed kind s k p.0 p.1)

-- A sheet stands exactly where it is not empty and loading its own text into an empty sheet gives it.
pub stands_means : (s : Sheet)
    → (standing s ≡ true → (s ≢ empty_sheet) × ((load_of s.kind (held s) empty_sheet).sheet ≡ s))
    × ((s ≢ empty_sheet) × ((load_of s.kind (held s) empty_sheet).sheet ≡ s) → standing s ≡ true)
stands_means s = (from s, λ p. by_own s (is_false (same_sheet s empty_sheet) (λ t. p.0 (same-sheet s empty_sheet (is_true (same_sheet s empty_sheet) t)))) ∙ rw p.1 (sheet-same s))
  where
    from : (s : Sheet) → standing s ≡ true → (s ≢ empty_sheet) × ((load_of s.kind (held s) empty_sheet).sheet ≡ s)
    from s e =
        let o = stood s e in (
          λ q. let z : ◌≡◌ {A = ℕ} 0 1 = cc (empty_falls s (rw (← q) (sheet-same s))) in omega arith,
          ap (λ (x : Repaired). x.sheet) (load_fit s.kind (held s) empty_sheet o.fit) ∙ sym o.is,
        )

-- The fold over any list of calls, after a load that was not refused, is the fold over the text: the sheet holds the text with each request
-- that was not refused made as asked, and the answer is that of the refusing step or of a fresh check of this text.
pub record Kept (kind : ℕ) (r : Repaired) (t : Checked) : Type 0 where
  pub is : r ≡ held_back kind t
  pub remainder : r.sheet.remainder ≡ value_of (check_field kind t.text)
  pub stands : standing r.sheet ≡ true

fit_kept : (kind : ℕ) (t : Checked) → Fit kind t.text → Kept kind (held_back kind t) t
unfolding sheet_of
fit_kept kind t f =
    record { is = refl; remainder = sym (fresh_value kind t.text f); stands = stands (sheet_of kind t.text) (sheet_stood kind t.text f) }

fold_fit : (kind : ℕ) (t : Checked) (qs : List Request) → Fit kind t.text → Fit kind (texts_after kind t qs).text
unfolding texts_after
fold_fit kind t [] f = f
fold_fit kind t (q ∷ qs) f =
    let u = t.text in
    fold_fit kind (checked_by kind (request_steps kind u q) (asked kind u q) u) qs (told_fit kind u q f (request_steps kind u q) refl)

fold_is : (kind : ℕ) (t : Checked) (qs : List Request) → Fit kind t.text → calls_after (held_back kind t) qs ≡ held_back kind (texts_after kind t qs)
unfolding calls_after texts_after
fold_is kind t [] f = refl
fold_is kind t (q ∷ qs) f =
    let u = t.text in
    rw (call-is kind u q f)
    (fold_is kind (checked_by kind (request_steps kind u q) (asked kind u q) u) qs (told_fit kind u q f (request_steps kind u q) refl))

module _ (kind : ℕ) (s : List ℕ) (old : Sheet) (qs : List Request) (e : summed (load_of kind s old).answer ≡ true) where
  abbrev pub last_told : Checked
  last_told = texts_after kind (freshly kind (held_text kind s)) qs

  last_fit : Fit kind last_told.text
  last_fit = fold_fit kind (freshly kind (held_text kind s)) qs (took kind s old e).fit

  last-is : calls_after (load_of kind s old) qs ≡ held_back kind last_told
  last-is = let t = took kind s old e in rw t.is (fold_is kind (freshly kind (held_text kind s)) qs t.fit)

  pub after_any_calls : Kept kind (calls_after (load_of kind s old) qs) last_told
  after_any_calls = rw last-is (fit_kept kind last_told last_fit)

  -- .. and so for one call more: refused, it changes nothing; done, sheet and answer are those of a fresh check of the changed text
  pub next-call : (q : Request) → repair_of (calls_after (load_of kind s old) qs).sheet q
      ≡ held_back kind (checked_by kind (request_steps kind last_told.text q) (asked kind last_told.text q) last_told.text)
  next-call q = rw last-is (call-is kind last_told.text q last_fit)

-- A request changes the characters of its places and no other.
pub no_other : (kind : ℕ) (t : List ℕ) (q : Request) (k : ℕ) → Elsewhere kind q k → get_or (asked kind t q) k 0 ≡ get_or t k 0
unfolding asked filled
no_other kind t (Replace p b) k n = get_or-set_other t p k b 0 n
no_other kind t (Exchange i j) k n = get_or-set_other (set t i (get_or t j 0)) j k (get_or t i 0) 0 n.1 ∙ get_or-set_other t i k (get_or t j 0) 0 n.0
no_other kind t Fill k n =
    let p = digits_place kind in
    let d = check_digits (remainder_by kind (stamped t p 0)) in
    get_or-set_other (set t p (48 + d / 10)) (p + 1) k (48 + d % 10) 0 n.1 ∙ get_or-set_other t p k (48 + d / 10) 0 n.0

pub same_length : (kind : ℕ) (t : List ℕ) (q : Request) → length (asked kind t q) ≡ length t
unfolding asked filled
same_length kind t (Replace p b) = length-set t p b
same_length kind t (Exchange i j) = length-set (set t i (get_or t j 0)) j (get_or t i 0) ∙ length-set t i (get_or t j 0)
same_length kind t Fill =
    let p = digits_place kind in
    let d = check_digits (remainder_by kind (stamped t p 0)) in
    length-set (set t p (48 + d / 10)) (p + 1) (48 + d % 10) ∙ length-set t p (48 + d / 10)

-- Errors in an accepted text are never accepted: another digit for a digit, another letter for a letter, two unequal digits or two unequal
-- letters exchanged; at every place, for both kinds, at every length.
caught : (s : Sheet) (q : Request) (m : ℕ) → Stood s → remainder_by s.kind (asked s.kind (held s) q) ≢ 1 → (repair_of s q).answer ≢ Accepted m
unfolding repair_by
caught s q m o n = rw (by_request s q o) (go (request_steps s.kind (held s) q) refl)
  where
    go : (x : Step) → request_steps s.kind (held s) q ≡ x → (repair_by x s (asked s.kind (held s) q)).answer ≢ Accepted m
    go Pass e a = n (accepted_one s.kind (asked s.kind (held s) q) m (asked_fit s.kind (held s) q o.fit e) a)
    go (Err x) e a = let z : ◌≡◌ {A = ℕ} 0 1 = cc in absurd (omega arith)

module _ (s : Sheet) (e : standing s ≡ true) (n : ℕ) (accepted : check_field s.kind (held s) ≡ Accepted n) (m : ℕ) where
  one : remainder_by s.kind (held s) ≡ 1
  one = accepted_one s.kind (held s) n (stood s e).fit accepted

  pub replace_caught : (p b : ℕ) → p < s.length → Slip (get_or (held s) p 0) b → (repair_of s (Replace p b)).answer ≢ Accepted m
  unfolding asked
  replace_caught p b h w =
      let o = stood s e in
      caught s (Replace p b) m o (slipped s.kind (held s) p b (omega (arith, stood_size s o)) w one)

  pub exchange_caught : (i j : ℕ) → i < s.length → j < s.length → Slip (get_or (held s) i 0) (get_or (held s) j 0) → (repair_of s (Exchange i j)).answer ≢ Accepted m
  unfolding asked
  exchange_caught i j h k w =
      let o = stood s e in
      let size = stood_size s o in
      caught s (Exchange i j) m o (traded s.kind (held s) i j (omega arith) (omega arith) (fit_few s.kind (held s) o.fit).1 w one)

-- A fill of a sheet that stands is accepted with 1; the digits are 02 to 98; only 20 can refuse it.
fill_passes : (kind : ℕ) (t : List ℕ) → Fit kind t → request_steps kind t Fill ≡ Pass
unfolding request_steps given_steps asked ◌and_then◌
fill_passes kind t f = text_passes kind (filled kind t) (fit_filled kind t f)

pub fill_accepted : (s : Sheet) → standing s ≡ true → repair_of s Fill ≡ record { answer = Accepted 1; sheet = sheet_of s.kind (filled s.kind (held s)) }
unfolding asked repair_by
fill_accepted s e =
    let o = stood s e in
    let t = filled s.kind (held s) in
    by_request s Fill o ∙ rw (fill_passes s.kind (held s) o.fit, one_accepted s.kind t (fit_filled s.kind (held s) o.fit) (filled_remainder s.kind (held s) o.fit))

pub fill_digits : (kind : ℕ) (t : List ℕ) → (2 ≤ check_digits (remainder_by kind (stamped t (digits_place kind) 0))) × (check_digits (remainder_by kind (stamped t (digits_place kind) 0)) ≤ 98)
fill_digits kind t = check-digits-ends (remainder_by kind (stamped t (digits_place kind) 0))

-- 20 is given exactly where the sheet does not stand; a loaded sheet stands, and what a call on a sheet that stands returns stands again.
pub twenty : (s : Sheet) (q : Request) → standing s ≡ false → repair_of s q ≡ refusal s NoSheet 20
unfolding repair_of repair_by sheet_step ◌and_then◌
twenty s q e = rw e

pub never_twenty : (s : Sheet) (q : Request) → standing s ≡ true → number_of (repair_of s q).answer ≢ 20
never_twenty s q e =
    let o = stood s e in
    rw (by_request s q o) (not_twenty s q o.fit (request_steps s.kind (held s) q) refl)

pub loaded_stands : (kind : ℕ) (s : List ℕ) (old : Sheet) → summed (load_of kind s old).answer ≡ true → standing (load_of kind s old).sheet ≡ true
loaded_stands kind s old e =
    let t = took kind s old e in
    rw t.is (stands (sheet_of kind (held_text kind s)) (sheet_stood kind (held_text kind s) t.fit))

pub repaired_stands : (s : Sheet) (q : Request) → standing s ≡ true → standing (repair_of s q).sheet ≡ true
unfolding repair_by
repaired_stands s q e = rw (by_request s q (stood s e)) (go (request_steps s.kind (held s) q) refl)
  where
    go : (x : Step) → request_steps s.kind (held s) q ≡ x → standing (repair_by x s (asked s.kind (held s) q)).sheet ≡ true
    go Pass f =
        let t = asked s.kind (held s) q in
        stands (sheet_of s.kind t) (sheet_stood s.kind t (asked_fit s.kind (held s) q (stood s e).fit f))
    go (Err x) f = e

-- A call that a step refuses returns the sheet that went in.
pub refused_keeps : (s : Sheet) (q : Request) (r : Reason) (k : ℕ) → sheet_step s and_then request_steps s.kind (held s) q ≡ Stop r k → repair_of s q ≡ refusal s r k
unfolding repair_of repair_by
refused_keeps s q r k e = rw e

-- A load or a repair that answers other than 0 and 5 returns the sheet that went in.
pub load_keeps : (kind : ℕ) (s : List ℕ) (old : Sheet) → summed (load_of kind s old).answer ≡ false → (load_of kind s old).sheet ≡ old
unfolding load_of
load_keeps kind s old = go (sheet_kind kind) (summed (check_field kind s)) refl
  where
    taken : Bool → Bool → Repaired
    taken k b = cond k (record { answer = check_field kind s; sheet = cond b (sheet_of kind (held_text kind s)) old }) (refusal old (UnknownKind kind) 24)

    go : (k b : Bool) → summed (check_field kind s) ≡ b → summed (taken k b).answer ≡ false → (taken k b).sheet ≡ old
    go false b e f = refl
    go true false e f = refl
    go true true e f = let z : ◌≡◌ {A = ℕ} 0 1 = cc in absurd (omega arith)

pub repair_keeps : (s : Sheet) (q : Request) → summed (repair_of s q).answer ≡ false → (repair_of s q).sheet ≡ s
unfolding repair_of repair_by
repair_keeps s q = go (sheet_step s and_then request_steps s.kind (held s) q) refl
  where
    new : List ℕ
    new = asked s.kind (held s) q

    go : (x : Step) → sheet_step s and_then request_steps s.kind (held s) q ≡ x → summed (repair_by x s new).answer ≡ false → (repair_by x s new).sheet ≡ s
    go Pass e f =
        let p = both_pass (sheet_step s) (request_steps s.kind (held s) q) e in
        let o = sheet-passed s p.0 in
        let z : ◌≡◌ {A = ℕ} 0 1 = cc (fresh_summed s.kind new (asked_fit s.kind (held s) q o.fit p.1)) in
        absurd (omega arith)
    go (Err x) e f = refl

-- An exchange of a place with itself changes nothing and answers as a fresh check.
pub exchange_self : (s : Sheet) (i : ℕ) → standing s ≡ true → i < s.length → repair_of s (Exchange i i) ≡ record { answer = check_field s.kind (held s); sheet = s }
unfolding request_steps given_steps asked place_step repair_by ◌and_then◌
exchange_self s i e h =
    let o = stood s e in
    let t = held s in
    let same : exchanged t i i ≡ t = ap (λ (l : List ℕ). set l i (get_or t i 0)) (set-get_or t i 0) ∙ set-get_or t i 0 in
    let inside : i < length t = omega (arith, stood_size s o) in
    by_request s (Exchange i i) o ∙ rw (lt-ltb i (length t) inside, same, text_passes s.kind t o.fit) (rw (← o.is))
