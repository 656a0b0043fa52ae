-- SCOPE, "Answer numbers" and "The ten kinds": "Order for a field: 12, 11, 1, then the rule's steps. The first that fails answers."
use Rattle.std.specs.Prelude.{ℕ, List, [], ◌∷◌, eqb, leb, length, Bool, true, false, ◌||◌, cond, Err}
use Rattle.answer.specs.Steps.{must, ◌and_then◌, ◌or_accept◌}
use Rattle.answer.specs.Result.{Answer, Refused, Step, Pass, Stop}
use Rattle.answer.specs.declared.Reason.TheVariants.{NotUtf8, TooLong, UnknownKind}
use Rattle.utf8.specs.Chars.{valid_prefix}
use Rattle.iban.specs.Iban.{iban_answer}
use Rattle.lei.specs.Lei.{lei_answer}
use Rattle.bic.specs.Bic.{bic_answer}
use Rattle.datetime.specs.Date.{date_answer}
use Rattle.datetime.specs.Datetime.{datetime_answer}
use Rattle.amount.specs.Amount.{validate_amount}
use Rattle.country.specs.Country.{country_answer}
use Rattle.currency.specs.Currency.{currency_answer}
use Rattle.common.specs.Cents.{parse_amount_cents, parse_amount_cents_lenient}

-- the longest field that a rule is asked about
abbrev pub field_limit : ℕ
field_limit = 4096

-- A line of the table of kinds: the kind's number, its rule, and whether it is exempt from the UTF-8 step, which a kind is whose value is bytes
-- and not text.
pub record Kind : Type 0 where
  pub number : ℕ
  pub exempt : Bool
  pub rule : List ℕ → Answer

-- a kind whose value is text
abbrev pub kind : ℕ → (List ℕ → Answer) → Kind
kind n f = record { number = n; exempt = false; rule = f }

abbrev pub kinds : List Kind
kinds =
    kind 1 iban_answer
    ∷ kind 2 lei_answer
    ∷ kind 3 bic_answer
    ∷ kind 4 date_answer
    ∷ kind 5 datetime_answer
    ∷ kind 6 validate_amount
    ∷ kind 7 country_answer
    ∷ kind 8 currency_answer
    ∷ kind 9 parse_amount_cents
    ∷ kind 10 parse_amount_cents_lenient
    ∷ []

-- what f says of the line with the number n, and d where no line has it
abbrev pub line_in : {A : Type 0} → List Kind → A → (Kind → A) → ℕ → A
line_in [] d f n = d
line_in (k ∷ ks) d f n = cond (eqb n k.number) (f k) (line_in ks d f n)

-- a kind is known where the table has a line for it
abbrev pub known : ℕ → Bool
known n = line_in kinds false (λ k. true) n

abbrev pub exempt : ℕ → Bool
exempt n = line_in kinds false (λ k. k.exempt) n

-- a kind that is unknown: 12 with the kind
abbrev pub unknown_step : ℕ → Step
unknown_step n = Stop (UnknownKind n) 1

-- the field is within the limit: else 11 with its length
abbrev pub limit_step : List ℕ → Step
limit_step s = must (leb (length s) field_limit) (TooLong (length s)) 2

-- the kind is known; the field is within the limit; it is UTF-8 or exempt from that, else 1 at the end of its longest well-formed prefix
unfoldable pub admission : ℕ → List ℕ → Step
admission n s =
    must (known n) (UnknownKind n) 1
    and_then limit_step s
    and_then must (exempt n || eqb (valid_prefix s) (length s)) (NotUtf8 (valid_prefix s)) 3

-- the answer of a kind's rule
unfoldable pub rule_of : ℕ → List ℕ → Answer
rule_of n s = line_in kinds (unknown_step n or_accept 0) (λ k. k.rule s) n

-- the answer of the rule where the field is admitted
abbrev pub answered : Step → Answer → Answer
answered Pass a = a
answered (Err e) a = Refused e.reason e.check

unfoldable pub check_field : ℕ → List ℕ → Answer
check_field n s = answered (admission n s) (rule_of n s)
