-- Worked examples of SCOPE, kind 1: its table, blanks of several widths, a refusal of each step, and a byte at which no character starts.
use Prim.Native.Nat.{ℕ}
use mathlib.Core.Path.{◌≡◌, refl}
use mathlib.Core.List.{List, [], ◌∷◌, ◌++◌, map}
use Rattle.answer.specs.Steps.{◌and_then◌, ◌or_accept◌}
use Rattle.answer.specs.Result.{Accepted, Refused}
use Rattle.answer.specs.declared.Reason.TheVariants.{Length, Wrong, Remainder}
use Rattle.text.specs.Class.{class_of}
use Rattle.text.specs.Decimal.{decimal}
use Rattle.text.specs.Field.{wrong_from, first_wrong}
use Rattle.text.specs.Quote.{bytes_of}
use Rattle.utf8.specs.Rfc3629.{lead_of, needed, well_formed, scalar_of, char_of, front}
use Rattle.utf8.specs.Chars.{chars_past, widths, valid_prefix}
use Rattle.utf8.specs.Space.{white_space}
use Rattle.checkdigit.specs.Letter.{letter_value}
use Rattle.checkdigit.specs.Sum.{character_value, character_digits, expand, remainder_of, rearranged, iban_remainder}
use Rattle.checkdigit.specs.RemainderStep.{remainder_step}
use Rattle.iban.specs.Electronic.{electronic_from, electronic, text_of, place_in}
use Rattle.iban.specs.Iban.{all_ascii, ascii_step, count_step, class_steps, reason_in, iban_characters, iban_answer}

-- a no-break space, U+00A0, in two bytes
abbrev blank : List ℕ
blank = 0xC2 ∷ 0xA0 ∷ []

abbrev fields : List (List ℕ)
fields =
    bytes_of "GB82WEST12345698765432"
    ∷ bytes_of "GB82WEST12345698765433"
    ∷ bytes_of "GB82WEST12345698765423"
    ∷ bytes_of "AA851B"
    ∷ bytes_of "AA85B1"
    ∷ bytes_of "AA08a"
    ∷ bytes_of "AA96a"
    ∷ bytes_of "AA96A"
    ∷ bytes_of "AA9789"
    ∷ bytes_of "AA0089"
    ∷ bytes_of " GB82 WEST 1234 5698 7654 32 "
    ∷ (bytes_of "AA96" ++ blank ++ bytes_of "A")
    ∷ (bytes_of "AA" ++ blank ++ bytes_of "9x" ++ blank ++ bytes_of "A")
    ∷ (bytes_of "A" ++ (0xC3 ∷ 0xA9 ∷ []))
    ∷ bytes_of "AA96"
    ∷ bytes_of "Aa96A"
    ∷ bytes_of "AA96-"
    ∷ (bytes_of "AA96A" ++ (0xFF ∷ []))
    ∷ (bytes_of "A" ++ (0xFF ∷ []))
    ∷ []

pub worked : map iban_answer fields
    ≡ Accepted 1
    ∷ Refused (Remainder 28) 106
    ∷ Refused (Remainder 49) 106
    ∷ Accepted 1
    ∷ Accepted 1
    ∷ Accepted 1
    ∷ Refused (Remainder 89) 106
    ∷ Accepted 1
    ∷ Accepted 1
    ∷ Accepted 1
    ∷ Accepted 1
    ∷ Accepted 1
    ∷ Refused (Wrong 5) 104
    ∷ Refused (Wrong 1) 101
    ∷ Refused (Length 0 4) 102
    ∷ Refused (Wrong 1) 103
    ∷ Refused (Wrong 4) 105
    ∷ Refused (Wrong 5) 101
    ∷ Refused (Wrong 1) 101
    ∷ []
unfolding class_of decimal wrong_from first_wrong lead_of needed well_formed scalar_of char_of front chars_past widths valid_prefix white_space letter_value character_value character_digits expand remainder_of rearranged iban_remainder remainder_step electronic_from electronic text_of place_in all_ascii ascii_step count_step class_steps reason_in iban_characters iban_answer ◌and_then◌ ◌or_accept◌
worked = refl
