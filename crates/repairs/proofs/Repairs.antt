-- Repairs: the chain of refusals, and the 34 bytes after a repair of a sheet that stands, whose front is the text that was asked for.
use Prim.Native.Nat.{ℕ, zero, suc, ◌+◌, ◌/◌, ◌%◌, ◌≤◌, ◌<◌}
use mathlib.Core.Path.{◌≡◌, refl, sym, ◌∙◌, ap}
use mathlib.Core.Bool.{Bool, true, false, cond}
use mathlib.Core.List.{List, [], ◌∷◌}
use native.Mathlib.Omega.{arith}
use lib.Dec.{T, eqb, ltb, ltb→lt}
use lib.ListN.{length, take, get_or, set}
use lib.Seq.{get_or-take}
use Rattle.answer.specs.Steps.{◌and_then◌}
use Rattle.answer.specs.declared.Reason.TheVariants.{NoSheet, NoPlace, Unfit}
use Rattle.std.specs.Prelude.{Ok, Err, MatchResult}
use Rattle.std.specs.Result.{IsErrAnd}
use Rattle.answer.specs.Result.{Step, Pass}
use Rattle.answer.specs.declared.Refusal.{Refusal}
use Rattle.answer.proofs.Laws.{passes, both_pass, test_held}
use Rattle.text.specs.Class.{allowed}
use Rattle.text.specs.declared.Set.TheVariants.{LettersDigits}
use Rattle.text.proofs.Ranges.{is_true}
use Rattle.checkdigit.specs.Fill.{check_digits, stamped}
use Rattle.checkdigit.proofs.Fill.{tens_digit, ones_digit}
use Rattle.sheet.specs.Sheets.{characters, remainder_by, held}
use Rattle.sheet.specs.Load.{refusal, load_of, standing}
use Rattle.sheet.specs.Sheets.{digits_place}
use Rattle.repairs.specs.Repairs.{filled, asked, place_step, byte_step, text_step, unfit, given_steps, request_steps, sheet_step, repair_by, repair_of}
use Rattle.repairs.specs.Inner.{filled_bytes, asked_bytes, Inside}
use Rattle.repairs.specs.declared.Request.{Request}
use Rattle.repairs.specs.declared.Request.TheVariants.{Replace, Exchange, Fill}
use Rattle.sheet.specs.declared.Sheet.{Sheet}
use Rattle.sheet.proofs.Plain.{Plain, plain_set}
use Rattle.sheet.proofs.Fits.{Fit, fit_digit}
use Rattle.sheet.proofs.Loads.{load_fit}
use Rattle.sheet.proofs.Sheets.{Stood, stood, stands, stood_size, stood_few}

-- what each step has shown where it passed
pub sheet-passed : (s : Sheet) → sheet_step s ≡ Pass → Stood s
unfolding sheet_step
sheet-passed s e = stood s (is_true (standing s) (test_held (standing s) NoSheet 20 e))

pub sheet_passes : (s : Sheet) → Stood s → sheet_step s ≡ Pass
unfolding sheet_step
sheet_passes s o = rw (stands s o)

place-passed : (n p : ℕ) → place_step n p ≡ Pass → p < n
unfolding place_step
place-passed n p e = ltb→lt p n (test_held (ltb p n) (NoPlace p) 21 e)

byte_passed : (p b : ℕ) → byte_step p b ≡ Pass → T (allowed LettersDigits b)
unfolding byte_step
byte_passed p b e = test_held (allowed LettersDigits b) (Unfit p) 22 e

unfit-passed : (x : Step) → unfit x ≡ Pass → x ≡ Pass
unfit-passed Pass e = refl
unfit-passed (Err x) e = let z : ◌≡◌ {A = ℕ} 0 1 = cc in absurd (omega arith)

text-passed : (kind : ℕ) (t : List ℕ) → text_step kind t ≡ Pass → characters kind t ≡ Pass
unfolding text_step
text-passed kind t e = unfit-passed (characters kind t) e

pub text_passes : (kind : ℕ) (t : List ℕ) → Fit kind t → text_step kind t ≡ Pass
unfolding text_step
text_passes kind t f = rw f.passes

-- the code's step on the text, from what the library has made of what the character steps say
pub text_step_is : (kind : ℕ) (t : List ℕ) (x y : Step) → x ≡ characters kind t
    → MatchResult x (λ u. y ≡ Ok u) (λ e. IsErrAnd y (λ f. Err f ≡ unfit (Err e))) → y ≡ text_step kind t
unfolding text_step
text_step_is kind t x y e m = go x y m ∙ ap unfit e
  where
    go : (x y : Step) → MatchResult x (λ u. y ≡ Ok u) (λ e. IsErrAnd y (λ f. Err f ≡ unfit (Err e))) → y ≡ unfit x
    go Pass y m = m
    go (Err x) (Ok u) m = absurd m
    go (Err x) (Err f) m = m

pub digits_low : (kind : ℕ) → digits_place kind ≤ 18
digits_low kind = go (eqb kind 1)
  where
    go : (b : Bool) → cond b 2 18 ≤ 18
    go true = omega arith
    go false = omega arith

-- two digits in the check digits' places
fit_stamped : (kind : ℕ) (t : List ℕ) (d : ℕ) → d < 100 → Fit kind t → Fit kind (stamped t (digits_place kind) d)
fit_stamped kind t d h f =
    let p = digits_place kind in
    fit_digit kind (set t p (48 + d / 10)) (fit_digit kind t f p (48 + d / 10) (omega arith) (rw (tens_digit d h) tt))
    (p + 1) (48 + d % 10) (omega arith) (rw (ones_digit d) tt)

pub fit_filled : (kind : ℕ) (t : List ℕ) → Fit kind t → Fit kind (filled kind t)
unfolding filled
fit_filled kind t f = fit_stamped kind t (check_digits (remainder_by kind (stamped t (digits_place kind) 0))) (omega arith) f

-- where the sheet stands and the places pass, they are inside the 34 bytes
pub inside : (s : Sheet) (q : Request) → sheet_step s ≡ Pass → given_steps s.length q ≡ Pass → Inside 34 q
unfolding given_steps
inside s q e g = go q g (stood_few s (sheet-passed s e)).1
  where
    go : (q : Request) → given_steps s.length q ≡ Pass → s.length ≤ 34 → Inside 34 q
    go (Replace p b) g h =
        let l = place-passed s.length p (both_pass (place_step s.length p) (byte_step p b) g).0 in
        omega arith
    go (Exchange i j) g h =
        let p = both_pass (place_step s.length i) (place_step s.length j) g in
        let k = place-passed s.length i p.0 in
        let l = place-passed s.length j p.1 in
        (omega arith, omega arith)
    go Fill g h = tt

-- a request whose places and byte are in order leaves letters and digits
asked_plain : (kind : ℕ) (t : List ℕ) (q : Request) → Fit kind t → given_steps (length t) q ≡ Pass → Plain (asked kind t q)
unfolding given_steps asked
asked_plain kind t (Replace p b) f e = plain_set t p b f.plain (byte_passed p b (both_pass (place_step (length t) p) (byte_step p b) e).1)
asked_plain kind t (Exchange i j) f e =
    let p = both_pass (place_step (length t) i) (place_step (length t) j) e in
    plain_set (set t i (get_or t j 0)) j (get_or t i 0)
    (plain_set t i (get_or t j 0) f.plain (f.plain j (place-passed (length t) j p.1))) (f.plain i (place-passed (length t) i p.0))
asked_plain kind t Fill f e = (fit_filled kind t f).plain

-- .. and where the character steps pass too, a text that fits
pub asked_fit : (kind : ℕ) (t : List ℕ) (q : Request) → Fit kind t → request_steps kind t q ≡ Pass → Fit kind (asked kind t q)
unfolding request_steps
asked_fit kind t q f e =
    let p = both_pass (given_steps (length t) q) (text_step kind (asked kind t q)) e in
    record { known = f.known; plain = asked_plain kind t q f p.0; passes = text-passed kind (asked kind t q) p.1 }

-- of a sheet that stands, only the request's own steps speak
pub by_request : (s : Sheet) (q : Request) → Stood s → repair_of s q ≡ repair_by (request_steps s.kind (held s) q) s (asked s.kind (held s) q)
unfolding repair_of
by_request s q o = rw (passes (request_steps s.kind (held s) q) (sheet_passes s o))

-- the code's way: the 34 bytes with the repair made, of which the front is the new text
take-set : (n : ℕ) (t : List ℕ) (p b : ℕ) → take n (set t p b) ≡ set (take n t) p b
take-set zero t p b = none (take zero t) p b refl
  where
    none : (u : List ℕ) (p b : ℕ) → u ≡ [] → [] ≡ set u p b
    none u p b e = rw e
take-set (suc n) [] p b = refl
take-set (suc n) (a ∷ t) zero b = refl
take-set (suc n) (a ∷ t) (suc p) b = ap (λ (l : List ℕ). a ∷ l) (take-set n t p b)

take-stamped : (n : ℕ) (t : List ℕ) (p d : ℕ) → take n (stamped t p d) ≡ stamped (take n t) p d
take-stamped n t p d = take-set n (set t p (48 + d / 10)) (p + 1) (48 + d % 10) ∙ ap (λ (l : List ℕ). set l (p + 1) (48 + d % 10)) (take-set n t p (48 + d / 10))

asked-front : (s : Sheet) (q : Request) → given_steps s.length q ≡ Pass → take s.length (asked_bytes s q) ≡ asked s.kind (held s) q
unfolding asked_bytes asked filled_bytes filled given_steps
asked-front s (Replace p b) e = take-set s.length s.text p b
asked-front s (Exchange i j) e =
    let p = both_pass (place_step s.length i) (place_step s.length j) e in
    let n = s.length in
    let a = get_or-take n s.text i 0 (place-passed n i p.0) in
    let b = get_or-take n s.text j 0 (place-passed n j p.1) in
    rw (a, b) (take-set n (set s.text i (get_or s.text j 0)) j (get_or s.text i 0) ∙ ap (λ (l : List ℕ). set l j (get_or s.text i 0)) (take-set n s.text i (get_or s.text j 0)))
asked-front s Fill e =
    let p = digits_place s.kind in
    rw (take-stamped s.length s.text p 0)
    (take-stamped s.length s.text p (check_digits (remainder_by s.kind (stamped (held s) p 0))))

-- the code's steps; places are tested against the length that a sheet names: where it stands, this is its text's
module _ (s : Sheet) (q : Request) where
  pub sheet_stops : (e : Refusal) → sheet_step s ≡ Err e → refusal s e.reason e.check ≡ repair_of s q
  unfolding repair_of repair_by ◌and_then◌
  sheet_stops e f = rw f

  module _ (f : sheet_step s ≡ Pass) where
    given_as : given_steps s.length q ≡ given_steps (length (held s)) q
    given_as = ap (λ (n : ℕ). given_steps n q) (stood_size s (sheet-passed s f))

    pub given_stops : (e : Refusal) → given_steps s.length q ≡ Err e → refusal s e.reason e.check ≡ repair_of s q
    unfolding request_steps repair_by ◌and_then◌
    given_stops e g = sym (by_request s q (sheet-passed s f) ∙ rw (← given_as, g))

    module _ (g : given_steps s.length q ≡ Pass) (t : List ℕ) (is : t ≡ take s.length (asked_bytes s q)) where
      new : t ≡ asked s.kind (held s) q
      new = is ∙ asked-front s q g

      by_text : repair_of s q ≡ repair_by (text_step s.kind t) s t
      unfolding request_steps ◌and_then◌
      by_text = by_request s q (sheet-passed s f) ∙ rw (← given_as, g, new)

      pub text_stops : (e : Refusal) → text_step s.kind t ≡ Err e → refusal s e.reason e.check ≡ repair_of s q
      unfolding repair_by
      text_stops e h = sym (by_text ∙ rw h)

      pub repairs : text_step s.kind t ≡ Pass → load_of s.kind t s ≡ repair_of s q
      unfolding repair_by
      repairs h =
          let o = sheet-passed s f in
          let plain : Plain t = rw new (asked_plain s.kind (held s) q o.fit (sym given_as ∙ g)) in
          load_fit s.kind t s (record { known = o.fit.known; plain = plain; passes = text-passed s.kind t h }) ∙ sym (by_text ∙ rw h)
