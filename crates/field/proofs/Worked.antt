-- SCOPE, "Worked by hand": the small table (the cases marked there), one theorem over all of it; and a field of each admission step.
use Prim.Native.Nat.{ℕ}
use Prim.Native.String.{String}
use mathlib.Core.Path.{◌≡◌, refl}
use mathlib.Core.List.{List, [], ◌∷◌, map}
use Rattle.answer.specs.Steps.{◌and_then◌, ◌or_accept◌}
use Rattle.answer.specs.Table.{row, numbers_of}
use Rattle.answer.specs.declared.Numbers.{Numbers}
use Rattle.text.specs.Class.{class_of}
use Rattle.text.specs.Decimal.{decimal, number_written}
use Rattle.text.specs.Field.{present, first_place, length_is, wrong_from, first_wrong}
use Rattle.text.specs.Quote.{bytes_of}
use Rattle.utf8.specs.Rfc3629.{lead_of, needed, well_formed, scalar_of, char_of, front}
use Rattle.utf8.specs.Chars.{chars_past, widths, valid_prefix}
use Rattle.utf8.specs.Space.{white_space}
use Rattle.checkdigit.specs.Letter.{letter_value}
use Rattle.checkdigit.specs.Sum.{character_value, character_digits, expand, remainder_of, rearranged, iban_remainder}
use Rattle.checkdigit.specs.RemainderStep.{remainder_step}
use Rattle.iban.specs.Electronic.{electronic_from, electronic, text_of, place_in}
use Rattle.iban.specs.Iban.{all_ascii, ascii_step, count_step, class_steps, reason_in, iban_characters, iban_answer}
use Rattle.lei.specs.Lei.{lei_characters, lei_answer}
use Rattle.amount.specs.Amount.{no_minus, start, at_most, part, fraction, all_zero, not_zero, validate_amount}
use Rattle.common.specs.Cents as cents
use Rattle.field.specs.Field.{admission, rule_of, check_field}

pub record Case : Type 0 where
  pub kind : ℕ
  pub text : String
  pub says : Numbers

abbrev case : ℕ → String → Numbers → Case
case k t l = record { kind = k; text = t; says = l }

abbrev pub table : List Case
table =
    case 1 "GB82WEST12345698765432" (row 0 0 1)
    ∷ case 1 "GB82WEST12345698765433" (row 5 0 28)
    ∷ case 1 "GB82WEST12345698765423" (row 5 0 49)
    ∷ case 1 "AA851B" (row 0 0 1)
    ∷ case 1 "AA85B1" (row 0 0 1)
    ∷ case 1 "AA08a" (row 0 0 1)
    ∷ case 1 "AA96a" (row 5 0 89)
    ∷ case 1 "AA96A" (row 0 0 1)
    ∷ case 1 "AA9789" (row 0 0 1)
    ∷ case 1 "AA0089" (row 0 0 1)
    ∷ case 2 "7ZW8QJWVPR4P1S5PX088" (row 0 0 1)
    ∷ case 2 "7ZW8QJWVPR4P1S5PX089" (row 5 0 2)
    ∷ case 6 "0.00000" (row 7 0 0)
    ∷ case 9 "184467440737095516.15" (row 0 0 18446744073709551615)
    ∷ case 10 "1000." (row 0 0 100000)
    ∷ case 0 "AA96A" (row 12 0 0)
    ∷ case 11 "AA96A" (row 12 0 11)
    ∷ []

pub small_table : map (λ c. numbers_of (check_field c.kind (bytes_of c.text))) table ≡ map (λ c. c.says) table
unfolding class_of decimal number_written first_place length_is wrong_from first_wrong lead_of needed well_formed scalar_of char_of front chars_past widths valid_prefix white_space letter_value character_value character_digits expand remainder_of rearranged iban_remainder remainder_step electronic_from electronic text_of place_in all_ascii ascii_step count_step class_steps reason_in iban_characters iban_answer lei_characters lei_answer present no_minus start at_most part fraction all_zero not_zero validate_amount cents.below64 cents.digits_at cents.number_between cents.digits cents.whole cents.whole_number cents.past cents.fraction cents.worth cents.cents cents.parts cents.parse_amount_cents cents.parse_amount_cents_lenient admission rule_of check_field ◌and_then◌ ◌or_accept◌
small_table = refl
