-- Worked examples: dates and datetimes, with a refusal by each kind of step, one theorem.
use mathlib.Core.Path.{◌≡◌, refl}
use mathlib.Core.List.{List, [], ◌∷◌, map}
use Rattle.answer.specs.Steps.{◌and_then◌, ◌or_accept◌}
use Rattle.answer.specs.Result.{Answer, Accepted, Refused}
use Rattle.answer.specs.declared.Reason.TheVariants.{Length, Wrong, Range, Missing, Trailing}
use Rattle.text.specs.Class.{class_of}
use Rattle.text.specs.Decimal.{decimal, number_written}
use Rattle.text.specs.Field.{length_is, wrong_from, literal_at, in_range, digits_in}
use Rattle.text.specs.Quote.{bytes_of}
use Rattle.datetime.specs.Date.{date_part, date_answer}
use Rattle.datetime.specs.Datetime.{
  digit_run,
  digits_end,
  zone_place,
  length_from,
  clock_part,
  fraction_part,
  ends_at,
  offset_part,
  zone_part,
  time_part,
  datetime_answer,
}

abbrev dates : List Answer
dates =
    map (λ t. date_answer (bytes_of t))
    ("2024-02-30"
    ∷ "2024-13-01"
    ∷ "1899-12-31"
    ∷ "2024-0x-01"
    ∷ "2024-00-01"
    ∷ "2024-01-32"
    ∷ "2100-01-01"
    ∷ "2o24-01-01"
    ∷ "2024/01-01"
    ∷ "2024-01.01"
    ∷ "2024-1-01"
    ∷ [])

abbrev datetimes : List Answer
datetimes =
    map (λ t. datetime_answer (bytes_of t))
    ("2024-01-01T12:00:00Z"
    ∷ "2024-01-01T12:00:00.123456789012+01:30"
    ∷ "2024-02-30T23:59:59-00:00"
    ∷ "2024-01-01T12:00:00"
    ∷ "2024-13-01T12:00:00Z"
    ∷ "2024-01-01 12:00:00Z"
    ∷ "2024-01-01T24:00:00Z"
    ∷ "2024-01-01T12.00:00Z"
    ∷ "2024-01-01T12:60:00Z"
    ∷ "2024-01-01T12:00:60Z"
    ∷ "2024-01-01T12:00:00.Z"
    ∷ "2024-01-01T12:00:00.5"
    ∷ "2024-01-01T12:00:00x"
    ∷ "2024-01-01T12:00:00.5x"
    ∷ "2024-01-01T12:00:00+01:3"
    ∷ "2024-01-01T12:00:00+24:00"
    ∷ "2024-01-01T12:00:00+01.00"
    ∷ "2024-01-01T12:00:00-01:60"
    ∷ "2024-01-01T12:00:00Zx"
    ∷ "2024-01-01T12:00:00+01:30Z"
    ∷ [])

pub worked : (dates
    ≡ Accepted 0
    ∷ Refused (Range 5 13) 406
    ∷ Refused (Range 0 1899) 403
    ∷ Refused (Wrong 6) 405
    ∷ Refused (Range 5 0) 406
    ∷ Refused (Range 8 32) 409
    ∷ Refused (Range 0 2100) 403
    ∷ Refused (Wrong 1) 402
    ∷ Refused (Wrong 4) 404
    ∷ Refused (Wrong 7) 407
    ∷ Refused (Length 0 9) 401
    ∷ [])
    × (datetimes
    ≡ Accepted 0
    ∷ Accepted 0
    ∷ Accepted 0
    ∷ Refused (Length 0 19) 501
    ∷ Refused (Range 5 13) 506
    ∷ Refused (Wrong 10) 510
    ∷ Refused (Range 11 24) 512
    ∷ Refused (Wrong 13) 513
    ∷ Refused (Range 14 60) 515
    ∷ Refused (Range 17 60) 518
    ∷ Refused (Missing 20) 519
    ∷ Refused (Missing 21) 520
    ∷ Refused (Wrong 19) 521
    ∷ Refused (Wrong 21) 521
    ∷ Refused (Missing 24) 522
    ∷ Refused (Range 20 24) 524
    ∷ Refused (Wrong 22) 525
    ∷ Refused (Range 23 60) 527
    ∷ Refused (Trailing 20) 528
    ∷ Refused (Trailing 25) 528
    ∷ [])
unfolding date_part date_answer digit_run digits_end zone_place length_from clock_part fraction_part ends_at offset_part zone_part time_part datetime_answer class_of decimal number_written length_is wrong_from literal_at in_range digits_in ◌and_then◌ ◌or_accept◌
worked = (refl, refl)
