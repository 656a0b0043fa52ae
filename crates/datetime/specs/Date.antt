-- ISO 8601:2004, 4.1.2.2, the complete calendar date in extended format, YYYY-MM-DD. SCOPE, kind 4, has the years 1900 to 2099 and no
-- calendar: each month may have the days 01 to 31.
use Rattle.std.specs.Prelude.{ℕ, List}
use Rattle.answer.specs.Steps.{check, ◌and_then◌, ◌or_accept◌}
use Rattle.answer.specs.Result.{Answer, Step}
use Rattle.text.specs.Field.{length_is, literal_at, two_digits, four_digits}

abbrev hyphen : ℕ
hyphen = 0x2D

-- year, month and day in bytes 0 to 9, the steps that all kinds with a date share
unfoldable pub date_part : List ℕ → ℕ → Step
date_part s kind =
    four_digits s 0 1900 2099 (check kind 2)
    and_then literal_at s 4 hyphen (check kind 4)
    and_then two_digits s 5 1 12 (check kind 5)
    and_then literal_at s 7 hyphen (check kind 7)
    and_then two_digits s 8 1 31 (check kind 8)

unfoldable pub date_answer : List ℕ → Answer
date_answer s = length_is 10 s (check 4 1) and_then date_part s 4 or_accept 0
