-- Worked examples: answers of SCOPE in its own numbers, and chains of steps.
use mathlib.Core.Path.{◌≡◌, refl}
use mathlib.Core.Bool.{true, false}
use mathlib.Core.List.{List, [], ◌∷◌, map}
use Rattle.answer.specs.Table.{row, numbers_of, check_of}
use Rattle.answer.specs.Steps.{must, ◌and_then◌, ◌or_accept◌}
use Rattle.answer.specs.declared.Reason.TheVariants.{Wrong, Range, Remainder, NotListed, Missing}
use Rattle.answer.specs.Result.{Answer, Accepted, Refused, Pass, Stop}

-- cents 100050; "5 with 28"; "4 at 17" of a second 60; "3 at 3"; a chain in which two steps fail; one in which none does
abbrev examples : List Answer
examples =
    Accepted 100050
    ∷ Refused (Remainder 28) 107
    ∷ Refused (Range 17 60) 518
    ∷ (Pass and_then must true (Missing 0) 601 and_then must false (Wrong 3) 605 and_then Stop NotListed 705 or_accept 0)
    ∷ (Pass and_then must true NotListed 705 or_accept 7)
    ∷ []

pub worked : map numbers_of examples ≡ row 0 0 100050 ∷ row 5 0 28 ∷ row 4 17 60 ∷ row 3 3 0 ∷ row 0 0 7 ∷ []
unfolding ◌and_then◌ ◌or_accept◌
worked = refl

pub checks : map check_of examples ≡ 0 ∷ 107 ∷ 518 ∷ 605 ∷ 0 ∷ []
unfolding ◌and_then◌ ◌or_accept◌
checks = refl
