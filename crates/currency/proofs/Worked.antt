-- Worked examples of the rule, one theorem: HRK is listed, BIF is not, since the array in `currency.rs` lacks it.
use mathlib.Core.Path.{◌≡◌, refl}
use mathlib.Core.List.{[], ◌∷◌, map}
use Rattle.answer.specs.Steps.{◌and_then◌, ◌or_accept◌}
use Rattle.answer.specs.Result.{Accepted, Refused}
use Rattle.answer.specs.declared.Reason.TheVariants.{Length, Wrong, NotListed, Missing}
use Rattle.text.specs.Class.{class_of}
use Rattle.text.specs.Field.{present, length_is, wrong_from, first_wrong}
use Rattle.text.specs.Quote.{bytes_of}
use Rattle.text.specs.Same.{same_text}
use Rattle.codes.specs.Codes.{on_list, well_spelt, code_rule}
use Rattle.currency.specs.Currency.{currencies, currency_answer}

pub worked : map (λ t. currency_answer (bytes_of t)) ("USD" ∷ "HRK" ∷ "BIF" ∷ "XYZ" ∷ "usd" ∷ "USd" ∷ "U5d" ∷ "" ∷ "US" ∷ [])
    ≡ Accepted 0
    ∷ Accepted 0
    ∷ Refused NotListed 805
    ∷ Refused NotListed 805
    ∷ Refused (Wrong 0) 804
    ∷ Refused (Wrong 2) 804
    ∷ Refused (Wrong 1) 803
    ∷ Refused (Missing 0) 801
    ∷ Refused (Length 0 2) 802
    ∷ []
unfolding currency_answer currencies code_rule well_spelt present on_list same_text length_is first_wrong wrong_from class_of ◌and_then◌ ◌or_accept◌
worked = refl
