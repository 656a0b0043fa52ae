-- Worked examples: places, numbers and steps on quoted fields, one theorem.
use Prim.Native.Nat.{ℕ, ◌^◌, ◌-◌}
use mathlib.Core.Path.{◌≡◌, refl}
use mathlib.Core.List.{List, [], ◌∷◌, map}
use Rattle.answer.specs.Steps.{◌and_then◌}
use Rattle.answer.specs.declared.Reason.TheVariants.{Length, Wrong, Range}
use Rattle.answer.specs.Result.{Step, Pass, Stop}
use Rattle.text.specs.Class.{class_of}
use Rattle.text.specs.Decimal.{decimal, number_written, fitted}
use Rattle.text.specs.Field.{first_place, length_is, wrong_from, first_wrong, literal_at, in_range, digits_in, two_digits, four_digits}
use Rattle.text.specs.Quote.{bytes_of}
use Rattle.text.specs.declared.Class.{Class}
use Rattle.text.specs.declared.Class.TheVariants.{Digit, Capital, Small, Other}
use Rattle.std.specs.Prelude.{Option, Some, None}
use Rattle.text.specs.declared.Set.TheVariants.{Capitals, CapitalsDigits}

-- the bytes beside each end of a class
abbrev ends : List Class
ends = map class_of (bytes_of "/09:@AZ[`az{")

-- the places of dots; the limit of 64 bits
abbrev places : List ℕ
places = first_place 46 (bytes_of "1.2.3") ∷ first_place 46 (bytes_of "100") ∷ first_place 46 (bytes_of "") ∷ []

abbrev numbers : List (Option ℕ)
numbers =
    map (λ t. fitted (number_written (bytes_of t))) ("" ∷ "0042" ∷ "18446744073709551615" ∷ "18446744073709551616" ∷ "000018446744073709551615" ∷ [])

-- steps on a date and on a BIC
abbrev steps : List Step
steps =
    length_is 10 (bytes_of "2024-02-30") 401
    ∷ length_is 10 (bytes_of "2024-02-3") 401
    ∷ four_digits (bytes_of "2100-02-30") 0 1900 2099 402
    ∷ four_digits (bytes_of "20x4-02-30") 0 1900 2099 402
    ∷ literal_at (bytes_of "2024/02-30") 4 45 404
    ∷ two_digits (bytes_of "2024-13-01") 5 1 12 405
    ∷ two_digits (bytes_of "2024-1") 5 1 12 405
    ∷ two_digits (bytes_of "2024-12-01") 5 1 12 405
    ∷ first_wrong Capitals (bytes_of "DEUT1EFF") 0 6 302
    ∷ first_wrong CapitalsDigits (bytes_of "DEUTDEF0") 6 8 303
    ∷ []

pub worked : (ends ≡ Other ∷ Digit ∷ Digit ∷ Other ∷ Other ∷ Capital ∷ Capital ∷ Other ∷ Other ∷ Small ∷ Small ∷ Other ∷ [])
    × (places ≡ 1 ∷ 3 ∷ 0 ∷ [])
    × (numbers ≡ Some 0 ∷ Some 42 ∷ Some (2 ^ 64 - 1) ∷ None ∷ Some (2 ^ 64 - 1) ∷ [])
    × (steps
    ≡ Pass
    ∷ Stop (Length 0 9) 401
    ∷ Stop (Range 0 2100) 403
    ∷ Stop (Wrong 2) 402
    ∷ Stop (Wrong 4) 404
    ∷ Stop (Range 5 13) 406
    ∷ Stop (Wrong 6) 405
    ∷ Pass
    ∷ Stop (Wrong 4) 302
    ∷ Pass
    ∷ [])
unfolding class_of first_place fitted number_written decimal length_is first_wrong wrong_from literal_at in_range digits_in ◌and_then◌
worked = (refl, refl, refl, refl)
