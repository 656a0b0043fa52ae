-- Worked examples: SCOPE's amounts and one for each refusing step, one theorem.
use mathlib.Core.Path.{◌≡◌, refl}
use mathlib.Core.List.{[], ◌∷◌, map}
use Rattle.answer.specs.Steps.{◌and_then◌, ◌or_accept◌}
use Rattle.answer.specs.Result.{Accepted, Refused}
use Rattle.answer.specs.declared.Reason.TheVariants.{Length, Wrong, NotPositive, Missing}
use Rattle.text.specs.Class.{class_of}
use Rattle.text.specs.Field.{present, first_place, first_wrong, wrong_from}
use Rattle.text.specs.Quote.{bytes_of}
use Rattle.amount.specs.Amount.{no_minus, start, at_most, part, fraction, all_zero, not_zero, validate_amount}

pub worked : map (λ t. validate_amount (bytes_of t))
    ("+1" ∷ "999999999999999999.99999" ∷ "" ∷ "-0" ∷ "+" ∷ ".5" ∷ "+.5" ∷ "1a.5" ∷ "+1000000000000000000" ∷ "1." ∷ "1.2.3" ∷ "1.123456" ∷ "0.00000" ∷ "+0" ∷ [])
    ≡ Accepted 0
    ∷ Accepted 0
    ∷ Refused (Missing 0) 601
    ∷ Refused NotPositive 602
    ∷ Refused (Missing 1) 603
    ∷ Refused (Missing 0) 603
    ∷ Refused (Missing 1) 603
    ∷ Refused (Wrong 1) 604
    ∷ Refused (Length 1 19) 605
    ∷ Refused (Missing 2) 606
    ∷ Refused (Wrong 3) 607
    ∷ Refused (Length 2 6) 608
    ∷ Refused NotPositive 609
    ∷ Refused NotPositive 609
    ∷ []
unfolding class_of first_place first_wrong wrong_from present no_minus start at_most part fraction all_zero not_zero validate_amount ◌and_then◌ ◌or_accept◌
worked = refl
