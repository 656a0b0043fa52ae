-- ISO 8601:2004, 4.3.2, a date and the time of day in extended format with its zone: `T`, hh:mm:ss (4.2.2.2), a decimal fraction (4.2.2.4),
-- and `Z` (4.2.4) or the difference to UTC (4.2.5.1). SCOPE, kind 5, asks for the zone, and has no hour 24 and no second 60.
use Rattle.std.specs.Prelude.{ℕ, suc, ◌+◌, Bool, ◌||◌, cond, List, [], ◌∷◌, eqb, leb, ltb, length, get_or, drop}
use Rattle.answer.specs.Steps.{check, must, ◌and_then◌, ◌or_accept◌}
use Rattle.answer.specs.Result.{Answer, Step, Pass}
use Rattle.answer.specs.declared.Reason.TheVariants.{Length, Wrong, Missing, Trailing}
use Rattle.text.specs.Class.{is_digit}
use Rattle.text.specs.Field.{literal_at, two_digits}
use Rattle.datetime.specs.Date.{date_part}

abbrev letter_t : ℕ
letter_t = 0x54

abbrev letter_z : ℕ
letter_z = 0x5A

abbrev colon : ℕ
colon = 0x3A

abbrev point : ℕ
point = 0x2E

-- `+` or `-`
abbrev pub is_sign : ℕ → Bool
is_sign b = eqb b 0x2B || eqb b 0x2D

-- how many digits a text begins with
unfoldable pub digit_run : List ℕ → ℕ
digit_run [] = 0
digit_run (b ∷ s) = cond (is_digit b) (suc (digit_run s)) 0

-- the place after the digits that stand from a place on
unfoldable pub digits_end : List ℕ → ℕ → ℕ
digits_end s at = at + digit_run (drop at s)

-- the zone stands after the fraction, or, where byte 19 is no `.`, after the seconds
unfoldable pub zone_place : List ℕ → ℕ
zone_place s = cond (eqb (get_or s 19 0) point) (digits_end s 20) 19

-- at least n bytes
unfoldable pub length_from : ℕ → List ℕ → ℕ → Step
length_from n s k = must (leb n (length s)) (Length 0 (length s)) k

-- `T`, hour, minute and second
unfoldable pub clock_part : List ℕ → ℕ → Step
clock_part s kind =
    literal_at s 10 letter_t (check kind 10)
    and_then two_digits s 11 0 23 (check kind 11)
    and_then literal_at s 13 colon (check kind 13)
    and_then two_digits s 14 0 59 (check kind 14)
    and_then literal_at s 16 colon (check kind 16)
    and_then two_digits s 17 0 59 (check kind 17)

-- after `.` at least one digit
unfoldable pub fraction_part : List ℕ → ℕ → Step
fraction_part s kind = cond (eqb (get_or s 19 0) point) (must (is_digit (get_or s 20 0)) (Missing 20) (check kind 19)) Pass

-- the field ends at a place
unfoldable pub ends_at : List ℕ → ℕ → ℕ → Step
ends_at s at k = must (leb (length s) at) (Trailing at) k

-- five bytes, hh:mm, and the end
unfoldable pub offset_part : List ℕ → ℕ → ℕ → Step
offset_part s at kind =
    must (leb (at + 5) (length s)) (Missing (length s)) (check kind 22)
    and_then two_digits s at 0 23 (check kind 23)
    and_then literal_at s (at + 2) colon (check kind 25)
    and_then two_digits s (at + 3) 0 59 (check kind 26)
    and_then ends_at s (at + 5) (check kind 28)

-- a zone, which is `Z` and the end, or a sign and what follows it
unfoldable pub zone_part : List ℕ → ℕ → ℕ → Step
zone_part s at kind =
    must (ltb at (length s)) (Missing (length s)) (check kind 20)
    and_then must (eqb (get_or s at 0) letter_z || is_sign (get_or s at 0)) (Wrong at) (check kind 21)
    and_then cond (is_sign (get_or s at 0)) (offset_part s (at + 1) kind) (ends_at s (at + 1) (check kind 28))

-- what follows the date
unfoldable pub time_part : List ℕ → ℕ → Step
time_part s kind = clock_part s kind and_then fraction_part s kind and_then zone_part s (zone_place s) kind

unfoldable pub datetime_answer : List ℕ → Answer
datetime_answer s = length_from 20 s (check 5 1) and_then date_part s 5 and_then time_part s 5 or_accept 0
