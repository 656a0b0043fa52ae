-- Definitions that only inner functions of `field` cite: a reader of the promises can pass over them.
use Rattle.std.specs.Prelude.{ℕ, ◌≡◌, true, false, List, eqb, length, Result, MatchResult}
use Rattle.answer.specs.Steps.{must, ◌and_then◌}
use Rattle.answer.specs.Result.{Accepted, Step, Pass, refusal}
use Rattle.answer.specs.declared.Refusal.{Refusal}
use Rattle.answer.specs.declared.Reason.TheVariants.{NotUtf8, UnknownKind}
use Rattle.utf8.specs.Chars.{valid_prefix, ascii}
use Rattle.field.specs.Field.{known, limit_step, admission, rule_of}
use Rattle.field.specs.declared.Rule.{Rule}
use Rattle.field.specs.declared.Rule.TheVariants.{Iban, Lei, Bic, Date, Datetime, Amount, Country, Currency, Cents, CentsLenient}
use Rattle.field.specs.declared.Way.{Way}
use Rattle.field.specs.declared.Way.TheVariants.{RuleFirst, AdmittedFirst, Exempt}

-- the number of the kind whose rule it is
abbrev pub number_of : Rule → ℕ
number_of Iban = 1
number_of Lei = 2
number_of Bic = 3
number_of Date = 4
number_of Datetime = 5
number_of Amount = 6
number_of Country = 7
number_of Currency = 8
number_of Cents = 9
number_of CentsLenient = 10

-- the rule of the kind with this number, or 12 for a number that no kind has
abbrev pub Names : ℕ → Result Rule Refusal → Type 0
Names n r = MatchResult r (λ rule. number_of rule ≡ n) (λ e. (e ≡ refusal (UnknownKind n) 1) × (known n ≡ false))

-- the field is UTF-8: the step of a kind that is not exempt from it
abbrev pub utf8_step : List ℕ → Step
utf8_step s = must (eqb (valid_prefix s) (length s)) (NotUtf8 (valid_prefix s)) 3

-- the steps of the admission that are asked before the rule
abbrev pub before_rule : Way → List ℕ → Step
before_rule RuleFirst s = limit_step s
before_rule AdmittedFirst s = limit_step s and_then utf8_step s
before_rule Exempt s = limit_step s

-- and the one that is asked after the rule has refused
abbrev pub after_rule : Way → List ℕ → Step
after_rule RuleFirst s = utf8_step s
after_rule AdmittedFirst s = Pass
after_rule Exempt s = Pass

-- what must hold of a kind for its field to be checked in that order; where the rule is asked first, what it accepts is ASCII
abbrev pub Suits : Way → ℕ → Type 0
Suits RuleFirst n =
    ((s : List ℕ) → admission n s ≡ limit_step s and_then utf8_step s)
    × ((s : List ℕ) (m : ℕ) → rule_of n s ≡ Accepted m → ascii s ≡ true)
Suits AdmittedFirst n = (s : List ℕ) → admission n s ≡ limit_step s and_then utf8_step s
Suits Exempt n = (s : List ℕ) → admission n s ≡ limit_step s
