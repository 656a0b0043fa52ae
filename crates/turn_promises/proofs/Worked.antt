-- Worked examples: SCOPE's input and its four lines, no input, an input cut short, and a length above the limit.
use Prim.Native.Nat.{ℕ}
use mathlib.Core.Path.{◌≡◌, refl}
use mathlib.Core.List.{List, [], ◌∷◌, ◌++◌, map}
use lib.ListN.{take}
use Rattle.answer.specs.Steps.{◌and_then◌, ◌or_accept◌}
use Rattle.text.specs.Class.{class_of}
use Rattle.text.specs.Decimal.{decimal, number_written}
use Rattle.text.specs.Field.{present, first_place, length_is, wrong_from, first_wrong}
use Rattle.text.specs.Quote.{bytes_of}
use Rattle.text.specs.Same.{same_text}
use Rattle.utf8.specs.Rfc3629.{lead_of, needed, well_formed, scalar_of, char_of, front}
use Rattle.utf8.specs.Chars.{chars_past, widths, valid_prefix}
use Rattle.codes.specs.Codes.{on_list, well_spelt, code_rule}
use Rattle.country.specs.Country.{countries, country_answer}
use Rattle.common.specs.Cents as cents
use Rattle.field.specs.Field.{admission, rule_of, check_field}
use Rattle.record.specs.Head.{head_of}
use Rattle.record.specs.Records.{records_past, sizes}
use Rattle.verdict.specs.Verdict.{answer_bytes, verdict, read_verdict}
use Rattle.batch.specs.Verdicts.{verdict_of, verdicts_of}
use Rattle.batch_promises.proofs.Worked.{example}
use Rattle.report.specs.Digits.{decimal_digits_in, decimal_digits}
use Rattle.report.specs.Text.{field, numbers_line, verdict_line, verdict_lines, heading, named, last_line}
use Rattle.turn_promises.specs.Output.{output_of}

abbrev inputs : List (List ℕ)
inputs = example ∷ [] ∷ take 16 example ∷ (example ++ (0x01 ∷ 0x20 ∷ 0x07 ∷ 0x00 ∷ [])) ∷ []

pub worked : map (λ (b : List ℕ). output_of b 0) inputs
    ≡ bytes_of "offset kind answer place number\n0 7 0 0 0\n6 9 0 0 100050\nstop 0 judged 2 read 17\n"
    ∷ bytes_of "offset kind answer place number\nstop 0 judged 0 read 0\n"
    ∷ bytes_of "offset kind answer place number\n0 7 0 0 0\nstop 33 judged 1 read 6\n"
    ∷ bytes_of "offset kind answer place number\n0 7 0 0 0\n6 9 0 0 100050\nstop 35 judged 2 read 17\n"
    ∷ []
unfolding present class_of decimal number_written first_place length_is wrong_from first_wrong lead_of needed well_formed scalar_of char_of front chars_past widths valid_prefix on_list same_text well_spelt code_rule countries country_answer cents.below64 cents.digits_at cents.number_between cents.digits cents.whole cents.whole_number cents.past cents.fraction cents.worth cents.cents cents.parts cents.parse_amount_cents admission rule_of check_field ◌and_then◌ ◌or_accept◌ head_of answer_bytes verdict records_past sizes verdict_of verdicts_of read_verdict decimal_digits_in decimal_digits field numbers_line verdict_line verdict_lines heading named last_line output_of
worked = refl
