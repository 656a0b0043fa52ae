-- Worked examples: SCOPE's cents and one for each step that can refuse, one theorem.
use Prim.Native.Nat.{◌^◌, ◌-◌}
use mathlib.Core.Path.{◌≡◌, refl}
use mathlib.Core.List.{[], ◌∷◌, map}
use Rattle.answer.specs.Steps.{◌and_then◌, ◌or_accept◌}
use Rattle.answer.specs.Result.{Accepted, Refused}
use Rattle.answer.specs.declared.Reason.TheVariants.{Length, Wrong, Missing, TooLarge}
use Rattle.text.specs.Class.{class_of}
use Rattle.text.specs.Decimal.{decimal, number_written}
use Rattle.text.specs.Field.{present, first_place, first_wrong, wrong_from}
use Rattle.text.specs.Quote.{bytes_of}
use Rattle.common.specs.Cents.{below64, digits_at, number_between, digits, whole, whole_number, past, fraction, worth, cents, parts, parse_amount_cents, parse_amount_cents_lenient}

pub worked : (map (λ t. parse_amount_cents (bytes_of t))
    ("184467440737095516.15" ∷ "1.+5" ∷ "0.+0" ∷ "1000" ∷ ".50" ∷ "+.50" ∷ "1-.50" ∷ "18446744073709551616.00" ∷ "1000." ∷ "1.++" ∷ "1.5x" ∷ "184467440737095516.16" ∷ [])
    ≡ Accepted (2 ^ 64 - 1)
    ∷ Accepted 105
    ∷ Accepted 0
    ∷ Refused (Missing 4) 901
    ∷ Refused (Missing 0) 902
    ∷ Refused (Missing 1) 902
    ∷ Refused (Wrong 1) 903
    ∷ Refused TooLarge 904
    ∷ Refused (Length 5 0) 905
    ∷ Refused (Wrong 3) 907
    ∷ Refused (Wrong 3) 907
    ∷ Refused TooLarge 909
    ∷ [])
    × (map (λ t. parse_amount_cents_lenient (bytes_of t))
    ("1000." ∷ "1000" ∷ "1.5" ∷ "1.05" ∷ "" ∷ "1 000" ∷ "18446744073709551616" ∷ "1.500" ∷ "1.+" ∷ "1.x" ∷ "184467440737095517" ∷ [])
    ≡ Accepted 100000
    ∷ Accepted 100000
    ∷ Accepted 150
    ∷ Accepted 105
    ∷ Refused (Missing 0) 1002
    ∷ Refused (Wrong 1) 1003
    ∷ Refused TooLarge 1004
    ∷ Refused (Length 2 3) 1005
    ∷ Refused (Missing 3) 1006
    ∷ Refused (Wrong 2) 1007
    ∷ Refused TooLarge 1009
    ∷ [])
unfolding class_of decimal number_written first_place first_wrong wrong_from present below64 digits_at number_between digits whole whole_number past fraction worth cents parts parse_amount_cents parse_amount_cents_lenient ◌and_then◌ ◌or_accept◌
worked = (refl, refl)
