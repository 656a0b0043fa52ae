-- Worked examples of the rule, one theorem: XK is listed, XX is not.
use mathlib.Core.Path.{◌≡◌, refl}
use mathlib.Core.List.{[], ◌∷◌, map}
use Rattle.answer.specs.Steps.{◌and_then◌, ◌or_accept◌}
use Rattle.answer.specs.Result.{Accepted, Refused}
use Rattle.answer.specs.declared.Reason.TheVariants.{Length, Wrong, NotListed, Missing}
use Rattle.text.specs.Class.{class_of}
use Rattle.text.specs.Field.{present, length_is, wrong_from, first_wrong}
use Rattle.text.specs.Quote.{bytes_of}
use Rattle.text.specs.Same.{same_text}
use Rattle.codes.specs.Codes.{on_list, well_spelt, code_rule}
use Rattle.country.specs.Country.{countries, country_answer}

pub worked : map (λ t. country_answer (bytes_of t)) ("GB" ∷ "XK" ∷ "XX" ∷ "gb" ∷ "Gb" ∷ "G1" ∷ "" ∷ "GBR" ∷ [])
    ≡ Accepted 0
    ∷ Accepted 0
    ∷ Refused NotListed 705
    ∷ Refused (Wrong 0) 704
    ∷ Refused (Wrong 1) 704
    ∷ Refused (Wrong 1) 703
    ∷ Refused (Missing 0) 701
    ∷ Refused (Length 0 3) 702
    ∷ []
unfolding country_answer countries code_rule well_spelt present on_list same_text length_is first_wrong wrong_from class_of ◌and_then◌ ◌or_accept◌
worked = refl
