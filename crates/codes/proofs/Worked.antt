-- Worked examples, one theorem: the codes of two lines, two codes as numbers, and the rule of a kind 9 over a list of three codes.
use mathlib.Core.Path.{◌≡◌, refl}
use mathlib.Core.List.{List, [], ◌∷◌, map}
use Prim.Native.Nat.{ℕ}
use Rattle.answer.specs.Steps.{◌and_then◌, ◌or_accept◌}
use Rattle.answer.specs.Result.{Accepted, Refused}
use Rattle.answer.specs.declared.Reason.TheVariants.{Length, Wrong, NotListed, Missing}
use Rattle.text.specs.Class.{class_of}
use Rattle.text.specs.Field.{present, length_is, wrong_from, first_wrong}
use Rattle.text.specs.Quote.{bytes_of}
use Rattle.text.specs.Same.{same_text}
use Rattle.codes.specs.Codes.{codes_of, on_list, well_spelt, code_rule, packed}

abbrev three : List (List ℕ)
three = codes_of ("AB CD" ∷ "EF" ∷ [])

pub worked : (three ≡ bytes_of "AB" ∷ bytes_of "CD" ∷ bytes_of "EF" ∷ [])
    × (map (λ t. packed (bytes_of t)) ("AB" ∷ "ABC" ∷ []) ≡ 0x4142 ∷ 0x414243 ∷ [])
    × (map (λ t. code_rule 9 2 three (bytes_of t)) ("CD" ∷ "EF" ∷ "DC" ∷ "CDE" ∷ "" ∷ "-D" ∷ "c1" ∷ "cD" ∷ [])
    ≡ Accepted 0
    ∷ Accepted 0
    ∷ Refused NotListed 905
    ∷ Refused (Length 0 3) 902
    ∷ Refused (Missing 0) 901
    ∷ Refused (Wrong 0) 903
    ∷ Refused (Wrong 1) 903
    ∷ Refused (Wrong 0) 904
    ∷ [])
unfolding code_rule well_spelt present on_list same_text length_is first_wrong wrong_from class_of ◌and_then◌ ◌or_accept◌
worked = (refl, refl, refl)
