-- Worked examples of SCOPE, "The repair sheet" and "Worked by hand": loads, repairs and fills of both kinds, and a refusal of each cause.
use Prim.Native.Nat.{ℕ}
use Prim.Native.String.{String}
use mathlib.Core.Path.{◌≡◌, refl}
use mathlib.Core.List.{List, [], ◌∷◌, map}
use Rattle.answer.specs.Steps.{◌and_then◌, ◌or_accept◌}
use Rattle.answer.specs.Result.{Answer, Accepted, Refused}
use Rattle.answer.specs.declared.Reason.TheVariants.{Length, Wrong, Remainder, UnknownKind, NoSheet, NoPlace, Unfit}
use Rattle.text.specs.Class.{class_of}
use Rattle.text.specs.Decimal.{decimal, number_written}
use Rattle.text.specs.Field.{length_is, wrong_from, first_wrong}
use Rattle.text.specs.Quote.{bytes_of}
use Rattle.text.specs.Same.{same_text}
use Rattle.utf8.specs.Rfc3629.{lead_of, needed, well_formed, scalar_of, char_of, front}
use Rattle.utf8.specs.Chars.{chars_past, widths, valid_prefix}
use Rattle.utf8.specs.Space.{white_space}
use Rattle.checkdigit.specs.Letter.{letter_value}
use Rattle.checkdigit.specs.Sum.{character_value, character_digits, expand, remainder_of, rearranged, iban_remainder}
use Rattle.checkdigit.specs.RemainderStep.{remainder_step}
use Rattle.iban.specs.Electronic.{electronic_from, electronic, text_of, place_in}
use Rattle.iban.specs.Iban.{all_ascii, ascii_step, count_step, class_steps, reason_in, iban_characters, iban_answer}
use Rattle.iban.specs.Format.{padded}
use Rattle.lei.specs.Lei.{lei_characters, lei_answer}
use Rattle.field.specs.Field.{admission, rule_of, check_field}
use Rattle.sheet.specs.Sheets.{held_text, characters, remainder_by, sheet_of, empty_sheet, held, same_sheet}
use Rattle.sheet.specs.Load.{summed, load_of, standing}
use Rattle.repairs.specs.declared.Request.{Request}
use Rattle.repairs.specs.Repairs.{filled, asked, place_step, byte_step, text_step, given_steps, request_steps, sheet_step, repair_by, repair_of}
use Rattle.repairs.specs.declared.Request.TheVariants.{Replace, Exchange, Fill}
use Rattle.sheet_promises.specs.Calls.{calls_after}
use Rattle.sheet.specs.declared.Sheet.{Sheet}
use Rattle.sheet.specs.declared.Repaired.{Repaired}

-- a field loaded into the empty sheet, calls on it, and what the last one says
pub record Case : Type 0 where
  pub kind : ℕ
  pub field : String
  pub calls : List Request
  pub answer : Answer
  pub text : String

abbrev case : ℕ → String → List Request → Answer → String → Case
case k f qs a t = record { kind = k; field = f; calls = qs; answer = a; text = t }

abbrev good : String
good = "GB82 WEST 1234 5698 7654 32"

abbrev kept : String
kept = "GB82WEST12345698765432"

abbrev pub table : List Case
table =
    case 1 " GB82 WEST 1234 5698 7654 32 " [] (Accepted 1) kept
    ∷ case 1 good (Replace 21 51 ∷ []) (Refused (Remainder 28) 106) "GB82WEST12345698765433"
    ∷ case 1 good (Exchange 20 21 ∷ []) (Refused (Remainder 49) 106) "GB82WEST12345698765423"
    ∷ case 1 good (Exchange 20 21 ∷ Exchange 21 20 ∷ []) (Accepted 1) kept
    ∷ case 1 good (Replace 3 48 ∷ Replace 2 48 ∷ Fill ∷ []) (Accepted 1) kept
    ∷ case 1 good (Exchange 7 7 ∷ []) (Accepted 1) kept
    ∷ case 1 "AA851B" [] (Accepted 1) "AA851B"
    ∷ case 1 "AA851B" (Exchange 4 5 ∷ []) (Accepted 1) "AA85B1"
    ∷ case 2 "7ZW8QJWVPR4P1S5PX089" [] (Refused (Remainder 2) 204) "7ZW8QJWVPR4P1S5PX089"
    ∷ case 2 "7ZW8QJWVPR4P1S5PX089" (Fill ∷ []) (Accepted 1) "7ZW8QJWVPR4P1S5PX088"
    ∷ case 1 good (Replace 22 65 ∷ []) (Refused (NoPlace 22) 21) kept
    ∷ case 1 good (Exchange 40 99 ∷ []) (Refused (NoPlace 40) 21) kept
    ∷ case 1 good (Exchange 21 99 ∷ []) (Refused (NoPlace 99) 21) kept
    ∷ case 1 good (Replace 22 32 ∷ []) (Refused (NoPlace 22) 21) kept
    ∷ case 1 good (Replace 5 32 ∷ []) (Refused (Unfit 5) 22) kept
    ∷ case 1 good (Replace 1 98 ∷ []) (Refused (Unfit 1) 23) kept
    ∷ case 1 good (Exchange 4 2 ∷ []) (Refused (Unfit 2) 23) kept
    ∷ case 2 "7ZW8QJWVPR4P1S5PX088" (Exchange 1 19 ∷ []) (Refused (Unfit 19) 23) "7ZW8QJWVPR4P1S5PX088"
    ∷ case 1 "GB82 WEST!" (Fill ∷ []) (Refused NoSheet 20) ""
    ∷ case 1 "GB82 WEST!" [] (Refused (Wrong 9) 105) ""
    ∷ case 2 "7ZW8" [] (Refused (Length 0 4) 201) ""
    ∷ case 3 "DEUTDEFF" [] (Refused (UnknownKind 3) 24) ""
    ∷ []

abbrev last : Case → Repaired
last c = calls_after (load_of c.kind (bytes_of c.field) empty_sheet) c.calls

-- a sheet that no load gives: its remainder, or a byte past its length
abbrev forged : List Sheet
forged =
    record { kind = 1; length = 5; remainder = 2; text = padded 34 (bytes_of "AA96A") }
    ∷ record { kind = 1; length = 5; remainder = 1; text = padded 34 (bytes_of "AA96AA") }
    ∷ record { kind = 1; length = 99; remainder = 1; text = padded 34 (bytes_of "AA96A") }
    ∷ []

pub worked : (map (λ c. (last c).answer) table ≡ map (λ c. c.answer) table)
    × (map (λ c. held (last c).sheet) table ≡ map (λ c. bytes_of c.text) table)
    × (map (λ s. (repair_of s Fill).answer) forged ≡ Refused NoSheet 20 ∷ Refused NoSheet 20 ∷ Refused NoSheet 20 ∷ [])
unfolding class_of decimal number_written length_is wrong_from first_wrong lead_of needed well_formed scalar_of char_of front chars_past widths valid_prefix white_space letter_value character_value character_digits expand remainder_of rearranged iban_remainder remainder_step electronic_from electronic text_of place_in all_ascii ascii_step count_step class_steps reason_in iban_characters iban_answer padded lei_characters lei_answer admission rule_of check_field held_text characters remainder_by sheet_of empty_sheet same_text same_sheet summed load_of standing filled asked place_step byte_step text_step given_steps request_steps sheet_step repair_by repair_of calls_after ◌and_then◌ ◌or_accept◌
worked = (refl, refl, refl)
