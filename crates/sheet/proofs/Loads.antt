-- A load: 0 and 5 are answered exactly where every step but the remainder passes, and then the answer is that of a fresh check of the held text.
use Prim.Native.Nat.{ℕ, zero, suc, ◌+◌, ◌≤◌}
use mathlib.Core.Path.{◌≡◌, refl, sym, ◌∙◌, ap}
use mathlib.Core.Bool.{Bool, true, false, cond}
use mathlib.Core.List.{List, [], ◌∷◌}
use native.Mathlib.Omega.{arith}
use borrow.Author.Tests.{eq-eqb, ne_eqb}
use lib.Dec.{T, eqb, ltb}
use lib.ListN.{length, take, get_or}
use lib.Seq.{take_all}
use Rattle.answer.specs.Steps.{must, ◌and_then◌, ◌or_accept◌}
use Rattle.answer.specs.Table.{row_of}
use Rattle.std.specs.Prelude.{Result, Ok, Err, MatchResult}
use Rattle.std.specs.Result.{IsOkAnd, result_unwrap_or}
use Rattle.answer.specs.Result.{Answer, Refused, Step, Pass, Stop}
use Rattle.answer.specs.declared.Reason.{Reason}
use Rattle.answer.specs.declared.Refusal.{Refusal}
use Rattle.answer.specs.declared.Reason.TheVariants.{Length, Wrong, Remainder, UnknownKind}
use Rattle.text.specs.Class.{allowed}
use Rattle.text.specs.Field.{length_is, wrong_from, first_wrong}
use Rattle.text.specs.declared.Set.{Set}
use Rattle.text.proofs.Ranges.{is_true}
use Rattle.utf8.proofs.Ascii.{ascii_prefix}
use Rattle.checkdigit.specs.RemainderStep.{remainder_step}
use Rattle.iban.specs.Electronic.{Character, place_in, electronic_text}
use Rattle.iban.specs.Iban.{all_ascii, ascii_step, count_step, class_steps, reason_in, step_in, iban_characters, iban_answer}
use Rattle.iban.specs.Format.{padded, format_by, format_of}
use Rattle.iban.specs.declared.Electronic.{Electronic}
use Rattle.iban.proofs.Padded.{padded-front}
use Rattle.iban.specs.Inner.{step_of}
use Rattle.lei.specs.Lei.{lei_characters, lei_answer}
use Rattle.field.specs.Field.{known, admission, rule_of, answered, check_field}
use Rattle.field.proofs.Admission.{admitted, admission_cases}
use Rattle.sheet.specs.Sheets.{sheet_kind, held_text, characters, remainder_by, sheet_of}
use Rattle.sheet.specs.Load.{refusal, summed, load_of}
use Rattle.sheet.specs.Inner.{sheet_with}
use Rattle.sheet.specs.declared.Sheet.{Sheet}
use Rattle.sheet.specs.declared.Repaired.{Repaired}
use Rattle.sheet.proofs.Plain.{plain_ascii}
use Rattle.sheet.proofs.Fits.{Fit, by_kind, fit_few, held_fit, held_plain}

-- a step that never answers 0 or 5
record Quiet (x : Step) : Type 0 where
  silent : (r : Reason) (k : ℕ) → x ≡ Stop r k → summed (Refused r k) ≡ false

quiet_pass : Quiet Pass
quiet_pass = record { silent = λ r k e. let z : ◌≡◌ {A = ℕ} 0 1 = cc in absurd (omega arith) }

quiet_at : (r : Reason) (k : ℕ) → summed (Refused r k) ≡ false → Quiet (Stop r k)
quiet_at r k q = record { silent = λ r' k' e. let f : Refused r k ≡ Refused r' k' = cc in rw (← f) q }

quiet_must : (t : Bool) (r : Reason) (k : ℕ) → summed (Refused r k) ≡ false → Quiet (must t r k)
quiet_must true r k q = quiet_pass
quiet_must false r k q = quiet_at r k q

quiet_then : (a b : Step) → Quiet a → Quiet b → Quiet (a and_then b)
unfolding ◌and_then◌
quiet_then Pass b p q = q
quiet_then (Err e) b p q = p

quiet_wrong : (set : Set) (s : List ℕ) (i n k : ℕ) → Quiet (wrong_from set s i n k)
unfolding wrong_from summed
quiet_wrong set s i zero k = quiet_pass
quiet_wrong set s i (suc n) k = quiet_then _ _ (quiet_must (allowed set (get_or s i 0)) (Wrong i) k refl) (quiet_wrong set s (i + 1) n k)

quiet_first : (set : Set) (s : List ℕ) (from to k : ℕ) → Quiet (first_wrong set s from to k)
unfolding first_wrong
quiet_first set s from to k = quiet_wrong set s from _ k

quiet_length : (n : ℕ) (s : List ℕ) (k : ℕ) → Quiet (length_is n s k)
unfolding length_is summed
quiet_length n s k = quiet_must (eqb (length s) n) (Length 0 (length s)) k refl

quiet_ascii : (l : List Character) → Quiet (all_ascii l)
unfolding all_ascii summed
quiet_ascii [] = quiet_pass
quiet_ascii (c ∷ l) = quiet_then _ _ (quiet_must (ltb c.scalar 128) (Wrong c.place) 101 refl) (quiet_ascii l)

quiet_in : (l : List Character) (x : Step) → Quiet x → Quiet (step_in l x)
unfolding reason_in summed
quiet_in l Pass q = quiet_pass
quiet_in l (Err e) q = go (eqb (row_of e.reason).number 3)
  where
    go : (b : Bool) → Quiet (Stop (cond b (Wrong (place_in (row_of e.reason).place l)) e.reason) e.check)
    go true = quiet_at (Wrong (place_in (row_of e.reason).place l)) e.check refl
    go false = q

ruleset quiets = (quiet_must, quiet_then, quiet_first, quiet_length, quiet_ascii, quiet_in)

quiet_characters : (kind : ℕ) (s : List ℕ) → Quiet (characters kind s)
unfolding characters iban_characters ascii_step count_step class_steps lei_characters summed
quiet_characters kind s = go (eqb kind 1)
  where
    go : (b : Bool) → Quiet (cond b (iban_characters s) (lei_characters s))
    go true = search quiets depth 9
    go false = search quiets depth 9

quiet_admission : (kind : ℕ) (s : List ℕ) → Quiet (admission kind s)
unfolding summed
quiet_admission kind s = admission_cases Quiet kind s quiet_pass (quiet_at _ _ refl) (quiet_at _ _ refl) (quiet_at _ _ refl)

-- the last step of a kind's rule, on the held text
abbrev pub last_check : ℕ → ℕ
last_check kind = cond (eqb kind 1) 106 204

abbrev pub last_step : ℕ → List ℕ → Step
last_step kind t = remainder_step (remainder_by kind t) (last_check kind)

-- the check of a field of the two kinds: its admission, its character steps, the remainder of its held text
iban_rule : (s : List ℕ) → rule_of 1 s ≡ characters 1 s and_then last_step 1 (held_text 1 s) or_accept 1
unfolding rule_of iban_answer characters held_text remainder_by
iban_rule s = refl

lei_rule : (s : List ℕ) → rule_of 2 s ≡ characters 2 s and_then last_step 2 (held_text 2 s) or_accept 1
unfolding rule_of lei_answer characters held_text remainder_by
lei_rule s = refl

-- field knows the kinds of a sheet
known_iban_lei : (kind : ℕ) → T (sheet_kind kind) → T (known kind)
known_iban_lei kind t = by_kind (λ k. T (known k)) tt tt kind t

check-is : (kind : ℕ) (s : List ℕ) → T (sheet_kind kind)
    → check_field kind s ≡ answered (admission kind s) (characters kind s and_then last_step kind (held_text kind s) or_accept 1)
unfolding check_field
check-is kind s t = ap (answered (admission kind s)) (by_kind (λ k. rule_of k s ≡ characters k s and_then last_step k (held_text k s) or_accept 1) (iban_rule s) (lei_rule s) kind t)

-- where admission and characters pass, the remainder answers
by_remainder : (kind : ℕ) (s : List ℕ) → T (sheet_kind kind) → admission kind s ≡ Pass → characters kind s ≡ Pass
    → check_field kind s ≡ last_step kind (held_text kind s) or_accept 1
unfolding ◌and_then◌
by_remainder kind s t a c = check-is kind s t ∙ rw (a, c)

-- .. with 0 or 5
pub remainder_summed : (r k : ℕ) → summed (remainder_step r k or_accept 1) ≡ true
unfolding remainder_step ◌or_accept◌ summed
remainder_summed r k = go (eqb r 1)
  where
    go : (b : Bool) → summed (must b (Remainder r) k or_accept 1) ≡ true
    go true = refl
    go false = refl

pub passes_summed : (kind : ℕ) (s : List ℕ) → T (sheet_kind kind) → admission kind s ≡ Pass → characters kind s ≡ Pass → summed (check_field kind s) ≡ true
passes_summed kind s t a c = ap summed (by_remainder kind s t a c) ∙ remainder_summed (remainder_by kind (held_text kind s)) (last_check kind)

-- 0 or 5 means that all of these passed
pub summed_passes : (kind : ℕ) (s : List ℕ) → T (sheet_kind kind) → summed (check_field kind s) ≡ true → (admission kind s ≡ Pass) × (characters kind s ≡ Pass)
unfolding ◌and_then◌ ◌or_accept◌
summed_passes kind s t e =
    go (admission kind s) (characters kind s) (quiet_admission kind s) (quiet_characters kind s) (ap summed (sym (check-is kind s t)) ∙ e)
  where
    go : (x y : Step) → Quiet x → Quiet y → summed (answered x (y and_then last_step kind (held_text kind s) or_accept 1)) ≡ true → (x ≡ Pass) × (y ≡ Pass)
    go Pass Pass p q e = (refl, refl)
    go Pass (Err x) p q e = let z : ◌≡◌ {A = ℕ} 0 1 = cc (q.silent x.reason x.check refl) in absurd (omega arith)
    go (Err x) y p q e = let z : ◌≡◌ {A = ℕ} 0 1 = cc (p.silent x.reason x.check refl) in absurd (omega arith)

-- a text that fits is admitted, and a fresh check of it answers by its remainder
module _ (kind : ℕ) (t : List ℕ) (f : Fit kind t) where
  fit_admitted : admission kind t ≡ Pass
  fit_admitted =
      let l = fit_few kind t f in
      admitted kind t (known_iban_lei kind f.known) (omega arith) (ascii_prefix t (plain_ascii t f.plain))

  pub fresh : check_field kind t ≡ last_step kind t or_accept 1
  fresh =
      by_remainder kind t f.known fit_admitted f.passes
      ∙ ap (λ (u : List ℕ). last_step kind u or_accept 1) (held_plain kind t f.plain)

  pub fresh_summed : summed (check_field kind t) ≡ true
  fresh_summed = ap summed fresh ∙ remainder_summed (remainder_by kind t) (last_check kind)

-- the parts of the sheet that holds a text
pub with_is : (kind : ℕ) (t : List ℕ) → length t ≤ 34 → sheet_with kind (length t) (padded 34 t) ≡ sheet_of kind t
unfolding sheet_of
with_is kind t h = rw (padded-front 34 t h)

-- what the electronic format says as a step is what its steps say
format_step : (x : Step) (t : List ℕ) → step_of (format_by x t) ≡ x
unfolding format_by
format_step Pass t = refl
format_step (Err e) t = refl

-- an IBAN's, from what the code makes of its electronic format
mapped : (r : Result Electronic Refusal) (q : Step) (P : Electronic → Unit → Type 0) → MatchResult r (λ e. IsOkAnd q (P e)) (λ x. q ≡ Err x) → q ≡ step_of r
mapped (Ok e) (Ok u) P h = refl
mapped (Ok e) (Err x) P h = absurd h
mapped (Err x) q P h = h

pub format_characters : (s : List ℕ) (r : Result Electronic Refusal) (q : Step) (P : Electronic → Unit → Type 0)
    → r ≡ format_of s → MatchResult r (λ e. IsOkAnd q (P e)) (λ x. q ≡ Err x) → q ≡ iban_characters s
unfolding format_of
format_characters s r q P o h = mapped r q P h ∙ rw o (format_step (iban_characters s) _)

pub iban_refused : (kind : ℕ) (s : List ℕ) (r : Result Electronic Refusal) (x : Refusal) → kind ≡ 1 → r ≡ format_of s → r ≡ Err x → characters kind s ≡ Pass → ⊥
unfolding characters format_of
iban_refused kind s r x q o f p =
    let one : iban_characters s ≡ Pass = rw (eq-eqb kind 1 q) at p in
    let e : Err x ≡ Pass = ap step_of (sym f ∙ o) ∙ format_step (iban_characters s) (electronic_text s) ∙ one in
    let z : ◌≡◌ {A = ℕ} 0 1 = cc in omega arith

pub iban_sheet : (kind : ℕ) (s : List ℕ) (r : Result Electronic Refusal) (e : Electronic) → kind ≡ 1 → r ≡ format_of s → r ≡ Ok e → characters kind s ≡ Pass
    → sheet_with kind e.count e.text ≡ sheet_of kind (held_text kind s)
unfolding characters held_text format_of format_by
iban_sheet kind s r e q o f p =
    let one : iban_characters s ≡ Pass = rw (eq-eqb kind 1 q) at p in
    let whole : Ok e ≡ format_by Pass (electronic_text s) = sym f ∙ o ∙ ap (λ (x : Step). format_by x (electronic_text s)) one in
    let parts : e ≡ record { count = length (electronic_text s); text = padded 34 (electronic_text s) } = cc in
    rw (parts, eq-eqb kind 1 q) (with_is kind (held_text 1 s) (fit_few 1 (held_text 1 s) (held_fit 1 s tt one)).1)

pub lei_sheet : (kind : ℕ) (s : List ℕ) → (kind ≡ 1 → ⊥) → characters kind s ≡ Pass
    → sheet_with kind (length s) (padded 34 (take 34 s)) ≡ sheet_of kind (held_text kind s)
unfolding characters held_text
lei_sheet kind s n p =
    let two : lei_characters s ≡ Pass = rw (ne_eqb kind 1 n) at p in
    let few = (fit_few 2 s (held_fit 2 s tt two)).1 in
    rw (take_all 34 s few, ne_eqb kind 1 n) (with_is kind s few)

-- the sheet of a text, with the answer of a fresh check of it
abbrev pub holding : ℕ → List ℕ → Repaired
holding kind t = record { answer = check_field kind t; sheet = sheet_of kind t }

module _ (kind : ℕ) (s : List ℕ) (old : Sheet) where
  pub load_other : sheet_kind kind ≡ false → load_of kind s old ≡ refusal old (UnknownKind kind) 24
  unfolding load_of
  load_other e = rw e

  pub load_refused : sheet_kind kind ≡ true → summed (check_field kind s) ≡ false → load_of kind s old ≡ record { answer = check_field kind s; sheet = old }
  unfolding load_of
  load_refused e f = rw (e, f)

  pub load_taken : sheet_kind kind ≡ true → summed (check_field kind s) ≡ true
      → load_of kind s old ≡ record { answer = check_field kind s; sheet = sheet_of kind (held_text kind s) }
  unfolding load_of
  load_taken e f = rw (e, f)

  -- the code's cases
  pub load_written : (a : Answer) (new : Sheet) (r : Result Sheet Refusal) → sheet_kind kind ≡ true → a ≡ check_field kind s → summed a ≡ true
      → (characters kind s ≡ Pass → r ≡ Ok (sheet_of kind (held_text kind s))) → new ≡ result_unwrap_or r old → record { answer = a; sheet = new } ≡ load_of kind s old
  load_written a new r known e f g n =
      let taken : summed (check_field kind s) ≡ true = rw (← e) f in
      let is = g (summed_passes kind s (rw known tt) taken).1 in
      rw (e, n, is) (sym (load_taken known taken))

  pub load_kept : (a : Answer) → sheet_kind kind ≡ true → a ≡ check_field kind s → summed a ≡ false → record { answer = a; sheet = old } ≡ load_of kind s old
  load_kept a known e f = rw e (sym (load_refused known (rw (← e) f)))

-- a load that was not refused took a text that fits
pub taken_fit : (kind : ℕ) (s : List ℕ) → T (sheet_kind kind) → summed (check_field kind s) ≡ true → Fit kind (held_text kind s)
taken_fit kind s k e = held_fit kind s k (summed_passes kind s k e).1

-- .. and answers as a fresh check of that text
pub taken-check : (kind : ℕ) (s : List ℕ) → T (sheet_kind kind) → summed (check_field kind s) ≡ true → check_field kind s ≡ check_field kind (held_text kind s)
taken-check kind s k e =
    let p = summed_passes kind s k e in
    by_remainder kind s k p.0 p.1 ∙ sym (fresh kind (held_text kind s) (taken_fit kind s k e))

-- loading a text that fits gives its sheet
pub load_fit : (kind : ℕ) (t : List ℕ) (old : Sheet) → Fit kind t → load_of kind t old ≡ holding kind t
load_fit kind t old f =
    load_taken kind t old (is_true (sheet_kind kind) f.known) (fresh_summed kind t f)
    ∙ rw (held_plain kind t f.plain)
