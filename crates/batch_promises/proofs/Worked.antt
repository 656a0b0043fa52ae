-- SCOPE, "The batch": its example and its second verdict's bytes, and a call for each stop, computed; one theorem over all of them.
use Prim.Native.Nat.{ℕ, ◌-◌, ◌^◌}
use mathlib.Core.Path.{◌≡◌, refl}
use mathlib.Core.List.{List, [], ◌∷◌, ◌++◌, map}
use lib.ListN.{take, drop, replicate}
use Rattle.answer.specs.Steps.{◌and_then◌, ◌or_accept◌}
use Rattle.text.specs.Class.{class_of}
use Rattle.text.specs.Decimal.{decimal, number_written}
use Rattle.text.specs.Field.{present, first_place, length_is, wrong_from, first_wrong}
use Rattle.text.specs.Quote.{bytes_of}
use Rattle.text.specs.Same.{same_text}
use Rattle.utf8.specs.Rfc3629.{lead_of, needed, well_formed, scalar_of, char_of, front}
use Rattle.utf8.specs.Chars.{chars_past, widths, valid_prefix}
use Rattle.codes.specs.Codes.{on_list, well_spelt, code_rule}
use Rattle.country.specs.Country.{countries, country_answer}
use Rattle.common.specs.Cents as cents
use Rattle.field.specs.Field.{admission, rule_of, check_field}
use Rattle.record.specs.Head.{head_of}
use Rattle.verdict.specs.Verdict.{answer_bytes, verdict}
use Rattle.batch.specs.Verdicts.{verdict_of}
use Rattle.batch.specs.Walk.{next_of, Outcome, stopped, walk, call_of}
use Rattle.batch.specs.declared.Stop.{Stop}
use Rattle.batch.specs.declared.Stop.TheVariants.{Finished, Budget, Room, Cut, Offset, Long}

-- a country, `GB`, and strict cents, `1000.50`
abbrev pub example : List ℕ
example = 0x02 ∷ 0x00 ∷ 0x07 ∷ 0x00 ∷ 0x47 ∷ 0x42 ∷ 0x07 ∷ 0x00 ∷ 0x09 ∷ 0x00 ∷ bytes_of "1000.50"

abbrev country : List ℕ
country = 0x14 ∷ 0x00 ∷ 0x07 ∷ replicate 21 0x00

abbrev cent : List ℕ
cent =
    0x14 ∷ 0x00 ∷ 0x09 ∷ 0x00 ∷ 0x06 ∷ 0x00 ∷ 0x00 ∷ 0x00 ∷ 0x00 ∷ 0x00 ∷ 0x00 ∷ 0x00 ∷ 0x00 ∷ 0x00 ∷ 0x00 ∷ 0x00 ∷ 0xD2 ∷ 0x86 ∷ 0x01 ∷ 0x00 ∷ 0x00 ∷ 0x00 ∷ 0x00 ∷ 0x00 ∷ []

-- a call's output is lent full of nines
pub record Case : Type 0 where
  pub batch : List ℕ
  pub offset : ℕ
  pub room : ℕ
  pub budget : ℕ
  pub says : Outcome

abbrev case : List ℕ → ℕ → ℕ → ℕ → Outcome → Case
case b o r n s = record { batch = b; offset = o; room = r; budget = n; says = s }

abbrev ran : Stop → ℕ → ℕ → ℕ → List ℕ → Outcome
ran s j r w u = record { stop = s; judged = j; read = r; written = w; out = u }

abbrev pub table : List Case
table =
    case example 0 50 100 (ran Finished 2 17 48 (country ++ cent ++ replicate 2 9))
    ∷ case (drop 6 example) 6 24 1 (ran Finished 1 11 24 cent)  -- resumed after the first
    ∷ case example 0 50 1 (ran Budget 1 6 24 (country ++ replicate 26 9))
    ∷ case example (2 ^ 64 - 18) 50 0 (stopped Budget (replicate 50 9))
    ∷ case example 0 24 2 (ran Room 1 6 24 country)
    ∷ case example 0 23 2 (stopped Room (replicate 23 9))
    ∷ case (take 16 example) 0 24 2 (ran Cut 1 6 24 country)  -- cut before room
    ∷ case (take 3 example) 0 24 2 (stopped Cut (replicate 24 9))
    ∷ case example (2 ^ 64 - 17) 50 1 (stopped Offset (replicate 50 9))
    ∷ case (0x01 ∷ 0x20 ∷ 0x07 ∷ 0x00 ∷ []) 0 24 1 (stopped Long (replicate 24 9))  -- a head of 8,193
    ∷ case (0x00 ∷ 0x20 ∷ 0x07 ∷ 0x00 ∷ []) 0 24 1 (stopped Cut (replicate 24 9))  -- a head of 8,192
    ∷ case [] 0 0 0 (stopped Finished [])
    ∷ []

pub worked : map (λ c. call_of c.batch c.offset (replicate c.room 9) c.budget) table ≡ map (λ c. c.says) table
unfolding present class_of decimal number_written first_place length_is wrong_from first_wrong lead_of needed well_formed scalar_of char_of front chars_past widths valid_prefix on_list same_text well_spelt code_rule countries country_answer cents.below64 cents.digits_at cents.number_between cents.digits cents.whole cents.whole_number cents.past cents.fraction cents.worth cents.cents cents.parts cents.parse_amount_cents admission rule_of check_field ◌and_then◌ ◌or_accept◌ head_of answer_bytes verdict verdict_of next_of walk call_of
worked = refl
