-- Worked examples of SCOPE, kind 2, and a wrong length, character and check digit.
use mathlib.Core.Path.{◌≡◌, refl}
use mathlib.Core.List.{List, [], ◌∷◌, map}
use Prim.Native.String.{String}
use Rattle.answer.specs.Steps.{◌and_then◌, ◌or_accept◌}
use Rattle.answer.specs.Result.{Accepted, Refused}
use Rattle.answer.specs.declared.Reason.TheVariants.{Length, Wrong, Remainder}
use Rattle.text.specs.Class.{class_of}
use Rattle.text.specs.Decimal.{decimal}
use Rattle.text.specs.Field.{length_is, first_wrong, wrong_from}
use Rattle.text.specs.Quote.{bytes_of}
use Rattle.checkdigit.specs.Letter.{letter_value}
use Rattle.checkdigit.specs.Sum.{character_value, character_digits, expand, remainder_of}
use Rattle.checkdigit.specs.RemainderStep.{remainder_step}
use Rattle.lei.specs.Lei.{lei_characters, lei_answer}

abbrev texts : List String
texts = "7ZW8QJWVPR4P1S5PX088" ∷ "7ZW8QJWVPR4P1S5PX089" ∷ "7ZW8QJWVPR4P1S5PX08" ∷ "7ZW8qJWVPR4P1S5PX088" ∷ "7ZW8QJWVPR4P1S5PX0A8" ∷ []

pub worked : map (λ t. lei_answer (bytes_of t)) texts
    ≡ Accepted 1
    ∷ Refused (Remainder 2) 204
    ∷ Refused (Length 0 19) 201
    ∷ Refused (Wrong 4) 202
    ∷ Refused (Wrong 18) 203
    ∷ []
unfolding class_of decimal length_is first_wrong wrong_from letter_value character_value character_digits expand remainder_of remainder_step lei_characters lei_answer ◌and_then◌ ◌or_accept◌
worked = refl
