-- Worked examples: codes with and without a branch, and a refusal by each step, one theorem.
use mathlib.Core.Path.{◌≡◌, refl}
use mathlib.Core.List.{List, [], ◌∷◌, map}
use Prim.Native.String.{String}
use Rattle.answer.specs.Steps.{◌and_then◌, ◌or_accept◌}
use Rattle.answer.specs.Result.{Accepted, Refused}
use Rattle.answer.specs.declared.Reason.TheVariants.{Length, Wrong}
use Rattle.text.specs.Class.{class_of}
use Rattle.text.specs.Field.{wrong_from, first_wrong}
use Rattle.text.specs.Quote.{bytes_of}
use Rattle.bic.specs.Bic.{bic_length, bic_answer}

abbrev codes : List String
codes =
    "AAAAGB2L"
    ∷ "AAAAGB2LXXX"
    ∷ "DEUTDEFF500"
    ∷ "INVALID"
    ∷ ""
    ∷ "DEUTDEFF5"
    ∷ "DEU7DEFF"
    ∷ "DEUTD3FF"
    ∷ "dEUTDEFf"
    ∷ "DEUTDEfF"
    ∷ "DEUTDEFF50-"
    ∷ []

pub worked : map (λ t. bic_answer (bytes_of t)) codes
    ≡ Accepted 0
    ∷ Accepted 0
    ∷ Accepted 0
    ∷ Refused (Length 0 7) 301
    ∷ Refused (Length 0 0) 301
    ∷ Refused (Length 0 9) 301
    ∷ Refused (Wrong 3) 302
    ∷ Refused (Wrong 5) 302
    ∷ Refused (Wrong 0) 302
    ∷ Refused (Wrong 6) 303
    ∷ Refused (Wrong 10) 303
    ∷ []
unfolding bic_length bic_answer class_of wrong_from first_wrong ◌and_then◌ ◌or_accept◌
worked = refl
