-- What a request does to a text that fits: made, it leaves one that fits; its answer is never 20; and what its answer says of the remainder.
use Prim.Native.Nat.{ℕ, ◌≤◌, ◌<◌}
use mathlib.Core.Path.{◌≡◌, refl, sym, ◌∙◌, ap}
use mathlib.Core.Bool.{Bool, true, false, cond}
use mathlib.Core.List.{List}
use mathlib.Core.Logic.{◌≢◌}
use native.Mathlib.Omega.{arith}
use borrow.Author.Tests.{eqb-true}
use lib.Dec.{T, eqb, ltb, eqb→eq}
use lib.ListN.{length, set, get_or}
use Rattle.answer.specs.Steps.{must, ◌and_then◌, ◌or_accept◌}
use Rattle.answer.specs.Table.{number_of, value_of, row_of}
use Rattle.std.specs.Prelude.{Err}
use Rattle.answer.specs.Result.{Accepted, Step, Pass}
use Rattle.answer.specs.declared.Reason.{Reason}
use Rattle.answer.specs.declared.Reason.TheVariants.{NoPlace, Unfit, Remainder}
use Rattle.answer.proofs.Laws.{accepted_pass, test_held}
use Rattle.text.specs.Class.{allowed}
use Rattle.text.specs.declared.Set.TheVariants.{LettersDigits}
use Rattle.checkdigit.specs.Letter.{Slip}
use Rattle.checkdigit.specs.Sum.{remainder_of, iban_remainder, exchanged}
use Rattle.checkdigit.specs.RemainderStep.{remainder_step}
use Rattle.checkdigit.proofs.Promises.{replaced_not_one, iban_replaced_not_one, exchanged_not_one, iban_exchanged_not_one, filled_one, iban_filled_one}
use Rattle.field.specs.Field.{check_field}
use Rattle.sheet.specs.Sheets.{sheet_kind, held_text, characters, remainder_by, sheet_of, held}
use Rattle.sheet.specs.Load.{summed, load_of}
use Rattle.repairs.specs.declared.Request.{Request}
use Rattle.repairs.specs.Repairs.{filled, asked, place_step, byte_step, text_step, unfit, given_steps, request_steps, repair_by, repair_of}
use Rattle.repairs.specs.declared.Request.TheVariants.{Replace, Exchange, Fill}
use Rattle.sheet_promises.specs.Calls.{checked_by, held_back}
use Rattle.sheet.specs.declared.Sheet.{Sheet}
use Rattle.sheet.specs.declared.Repaired.{Repaired}
use Rattle.sheet.proofs.Fits.{Fit, by_kind, fit_few, lei_long}
use Rattle.sheet.proofs.Loads.{fresh, last_check, holding, load_other, load_refused, load_taken, taken_fit, taken-check}
use Rattle.sheet.proofs.Sheets.{held_of, sheet_stood}
use Rattle.repairs.proofs.Repairs.{asked_fit, by_request}

-- an answer of 0 or 5 to a load says that the field was taken, and then sheet and answer are those of the held text
module _ (kind : ℕ) (s : List ℕ) (old : Sheet) where
  pub record Took : Type 0 where
    pub fit : Fit kind (held_text kind s)
    pub is : load_of kind s old ≡ holding kind (held_text kind s)

  pub took : summed (load_of kind s old).answer ≡ true → Took
  unfolding summed
  took e = go (sheet_kind kind) refl (summed (check_field kind s)) refl
    where
      go : (a : Bool) → sheet_kind kind ≡ a → (b : Bool) → summed (check_field kind s) ≡ b → Took
      go false p b q = let z : ◌≡◌ {A = ℕ} 0 1 = cc (ap (λ (r : Repaired). summed r.answer) (load_other kind s old p)) in absurd (omega arith)
      go true p false q = let z : ◌≡◌ {A = ℕ} 0 1 = cc (ap (λ (r : Repaired). summed r.answer) (load_refused kind s old p q)) in absurd (omega arith)
      go true p true q =
          let k : T (sheet_kind kind) = rw p tt in
          record { fit = taken_fit kind s k q; is = load_taken kind s old p q ∙ rw (taken-check kind s k q) }

-- the number of a fresh check of a text that fits is its remainder
remainder_value : (r k : ℕ) → value_of (remainder_step r k or_accept 1) ≡ r
unfolding remainder_step ◌or_accept◌
remainder_value r k = go (eqb r 1) refl
  where
    go : (b : Bool) → eqb r 1 ≡ b → value_of (must b (Remainder r) k or_accept 1) ≡ r
    go true e = sym (eqb-true r 1 e)
    go false e = refl

pub fresh_value : (kind : ℕ) (t : List ℕ) → Fit kind t → value_of (check_field kind t) ≡ remainder_by kind t
fresh_value kind t f = ap value_of (fresh kind t f) ∙ remainder_value (remainder_by kind t) (last_check kind)

kind_of : (kind : ℕ) (t : List ℕ) → (sheet_of kind t).kind ≡ kind
unfolding sheet_of
kind_of kind t = refl

told_by : (kind : ℕ) (s : Sheet) (x : Step) (new old : List ℕ) → s.kind ≡ kind → s ≡ sheet_of kind old → repair_by x s new ≡ held_back kind (checked_by kind x new old)
unfolding repair_by checked_by
told_by kind s Pass new old e f = rw e
told_by kind s (Err x) new old e f = rw f

-- a call on the sheet of a text is a step on the text
pub call-is : (kind : ℕ) (t : List ℕ) (q : Request) → Fit kind t
    → repair_of (sheet_of kind t) q ≡ held_back kind (checked_by kind (request_steps kind t q) (asked kind t q) t)
unfolding sheet_of
call-is kind t q f =
    let s = sheet_of kind t in
    by_request s q (sheet_stood kind t f)
    ∙ rw (kind_of kind t, held_of kind t (fit_few kind t f).1) (told_by kind s (request_steps kind t q) (asked kind t q) t (kind_of kind t) refl)

pub told_fit : (kind : ℕ) (t : List ℕ) (q : Request) → Fit kind t → (x : Step) → request_steps kind t q ≡ x → Fit kind (checked_by kind x (asked kind t q) t).text
unfolding checked_by
told_fit kind t q f Pass e = asked_fit kind t q f e
told_fit kind t q f (Err x) e = f

-- .. and none of them answers 20
Other : Step → Type 0
Other Pass = Unit {0}
Other (Err e) = (row_of e.reason).number ≢ 20

other-then : (a b : Step) → Other a → Other b → Other (a and_then b)
unfolding Other ◌and_then◌
other-then Pass b p q = q
other-then (Err e) b p q = p

other-must : (t : Bool) (r : Reason) (k : ℕ) → (row_of r).number ≢ 20 → Other (must t r k)
unfolding Other
other-must true r k n = tt
other-must false r k n = n

other-unfit : (x : Step) → Other (unfit x)
unfolding Other
other-unfit Pass = tt
other-unfit (Err x) = λ e. omega arith

other_place : (n p : ℕ) → Other (place_step n p)
unfolding place_step
other_place n p = other-must (ltb p n) (NoPlace p) 21 (λ e. omega arith)

other_given : (n : ℕ) (q : Request) → Other (given_steps n q)
unfolding given_steps byte_step Other
other_given n (Replace p b) =
    other-then (place_step n p) (must (allowed LettersDigits b) (Unfit p) 22) (other_place n p) (other-must (allowed LettersDigits b) (Unfit p) 22 (λ e. omega arith))
other_given n (Exchange i j) = other-then (place_step n i) (place_step n j) (other_place n i) (other_place n j)
other_given n Fill = tt

other_request : (kind : ℕ) (t : List ℕ) (q : Request) → Other (request_steps kind t q)
unfolding request_steps text_step
other_request kind t q = other-then (given_steps (length t) q) (text_step kind (asked kind t q)) (other_given (length t) q) (other-unfit (characters kind (asked kind t q)))

remainder_number : (r k : ℕ) → number_of (remainder_step r k or_accept 1) ≢ 20
unfolding remainder_step ◌or_accept◌
remainder_number r k = go (eqb r 1)
  where
    go : (b : Bool) → number_of (must b (Remainder r) k or_accept 1) ≢ 20
    go true e = omega arith
    go false e = omega arith

pub not_twenty : (s : Sheet) (q : Request) → Fit s.kind (held s) → (x : Step) → request_steps s.kind (held s) q ≡ x
    → number_of (repair_by x s (asked s.kind (held s) q)).answer ≢ 20
unfolding repair_by Other
not_twenty s q f Pass e =
    rw (fresh s.kind (asked s.kind (held s) q) (asked_fit s.kind (held s) q f e))
    (remainder_number (remainder_by s.kind (asked s.kind (held s) q)) (last_check s.kind))
not_twenty s q f (Err x) e = rw e at (other_request s.kind (held s) q)

-- acceptance says that the remainder is 1
one_of : (r k n : ℕ) → remainder_step r k or_accept 1 ≡ Accepted n → r ≡ 1
unfolding remainder_step
one_of r k n e = eqb→eq r 1 (test_held (eqb r 1) (Remainder r) k (accepted_pass _ 1 n e))

pub accepted_one : (kind : ℕ) (t : List ℕ) (n : ℕ) → Fit kind t → check_field kind t ≡ Accepted n → remainder_by kind t ≡ 1
accepted_one kind t n f e = one_of (remainder_by kind t) (last_check kind) n (sym (fresh kind t f) ∙ e)

pub one_accepted : (kind : ℕ) (t : List ℕ) → Fit kind t → remainder_by kind t ≡ 1 → check_field kind t ≡ Accepted 1
unfolding remainder_step ◌or_accept◌
one_accepted kind t f e = fresh kind t f ∙ rw e

-- the remainder after a slip, an exchange of a kind, and a fill
pub slipped : (kind : ℕ) (t : List ℕ) (p b : ℕ) → p < length t → Slip (get_or t p 0) b → remainder_by kind t ≡ 1 → remainder_by kind (set t p b) ≢ 1
unfolding remainder_by
slipped kind t p b h w = go (eqb kind 1)
  where
    go : (x : Bool) → cond x (iban_remainder t) (remainder_of t) ≡ 1 → cond x (iban_remainder (set t p b)) (remainder_of (set t p b)) ≢ 1
    go true = iban_replaced_not_one t p b h w
    go false = replaced_not_one t p b h w

pub traded : (kind : ℕ) (t : List ℕ) (i j : ℕ) → i < length t → j < length t → length t ≤ 34 → Slip (get_or t i 0) (get_or t j 0)
    → remainder_by kind t ≡ 1 → remainder_by kind (exchanged t i j) ≢ 1
unfolding remainder_by
traded kind t i j h k l w = go (eqb kind 1)
  where
    go : (x : Bool) → cond x (iban_remainder t) (remainder_of t) ≡ 1 → cond x (iban_remainder (exchanged t i j)) (remainder_of (exchanged t i j)) ≢ 1
    go true = iban_exchanged_not_one t i j h k (omega arith) w
    go false = exchanged_not_one t i j h k (omega arith) w

iban_filled : (t : List ℕ) → Fit 1 t → remainder_by 1 (filled 1 t) ≡ 1
unfolding remainder_by filled
iban_filled t f = let l = fit_few 1 t f in iban_filled_one t (omega arith)

lei_filled : (t : List ℕ) → Fit 2 t → remainder_by 2 (filled 2 t) ≡ 1
unfolding remainder_by filled
lei_filled t f = let n = lei_long t f.passes in filled_one t 18 (omega arith)

pub filled_remainder : (kind : ℕ) (t : List ℕ) → Fit kind t → remainder_by kind (filled kind t) ≡ 1
filled_remainder kind t f = by_kind (λ k. Fit k t → remainder_by k (filled k t) ≡ 1) (iban_filled t) (lei_filled t) kind f.known f
