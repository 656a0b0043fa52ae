-- Worked examples: the remainders of SCOPE's table, "Worked by hand".
use Prim.Native.Nat.{ℕ}
use Prim.Native.String.{String}
use mathlib.Core.Path.{◌≡◌, refl}
use mathlib.Core.List.{List, [], ◌∷◌, map}
use Rattle.text.specs.Class.{class_of}
use Rattle.text.specs.Decimal.{decimal}
use Rattle.text.specs.Quote.{bytes_of}
use Rattle.checkdigit.specs.Letter.{letter_value}
use Rattle.checkdigit.specs.Sum.{character_value, character_digits, expand, remainder_of, rearranged, iban_remainder}

record Example : Type 0 where
  sum : List ℕ → ℕ
  text : String
  leaves : ℕ

abbrev iban : String → ℕ → Example
iban s n = record { sum = iban_remainder; text = s; leaves = n }

abbrev lei : String → ℕ → Example
lei s n = record { sum = remainder_of; text = s; leaves = n }

abbrev examples : List Example
examples =
    iban "GB82WEST12345698765432" 1
    ∷ iban "GB82WEST12345698765433" 28
    ∷ iban "GB82WEST12345698765423" 49
    ∷ iban "AA851B" 1
    ∷ iban "AA85B1" 1
    ∷ iban "AA08a" 1
    ∷ iban "AA96a" 89
    ∷ iban "AA96A" 1
    ∷ iban "AA9789" 1
    ∷ iban "AA0089" 1
    ∷ lei "7ZW8QJWVPR4P1S5PX088" 1
    ∷ lei "7ZW8QJWVPR4P1S5PX089" 2
    ∷ []

pub worked : map (λ e. e.sum (bytes_of e.text)) examples ≡ map (λ e. e.leaves) examples
unfolding class_of decimal letter_value character_value character_digits expand remainder_of rearranged iban_remainder
worked = refl
