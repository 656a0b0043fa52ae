-- SCOPE, "The ten kinds", 9 and 10: strict and lenient cents, defined there on whole numbers.
use Rattle.std.specs.Prelude.{ℕ, ◌+◌, ◌-◌, ◌*◌, ◌^◌, List, eqb, ltb, length, get_or, take, drop, ◌&&◌, cond}
use Rattle.answer.specs.Steps.{check, must, ◌and_then◌, ◌or_accept◌}
use Rattle.answer.specs.Result.{Answer, Step, Pass}
use Rattle.answer.specs.declared.Reason.TheVariants.{Length, TooLarge}
use Rattle.text.specs.Decimal.{number_written}
use Rattle.text.specs.Field.{dot, present, first_wrong}
use Rattle.text.specs.Ranges.{within}
use Rattle.text.specs.declared.Set.TheVariants.{Digits}

-- in each step, k is its check number; the numbers of a row of steps follow each other
-- "2^64 or more, 9"
unfoldable pub below64 : ℕ → ℕ → Step
below64 n k = must (ltb n (2 ^ 64)) TooLarge k

-- "an optional `+`": the place where the first digit should stand, in the part from one place up to another
unfoldable pub digits_at : List ℕ → ℕ → ℕ → ℕ
digits_at s from to = cond (ltb from to && eqb (get_or s from 0) 43) (from + 1) from

-- the number that the bytes from one place up to another write
unfoldable pub number_between : List ℕ → ℕ → ℕ → ℕ
number_between s at to = number_written (take (to - at) (drop at s))

-- "first non-digit, 3; 2^64 or more, 9"
unfoldable pub digits : List ℕ → ℕ → ℕ → ℕ → Step
digits s at to k = first_wrong Digits s at to k and_then below64 (number_between s at to) (k + 1)

-- a whole number: "an optional `+`, then one or more ASCII digits", and below 2^64
unfoldable pub whole : List ℕ → ℕ → ℕ → ℕ → Step
whole s from to k = present (digits_at s from to) to k and_then digits s (digits_at s from to) to (k + 1)

-- which number it is
unfoldable pub whole_number : List ℕ → ℕ → ℕ → ℕ
whole_number s from to = number_between s (digits_at s from to) to

-- the first place after the `.` at a place, and the field's length where there is none
unfoldable pub past : List ℕ → ℕ → ℕ
past s dot = cond (ltb dot (length s)) (dot + 1) (length s)

-- the bytes after the `.`, from a place on: two of them, or as few as a kind allows, and where there are any a whole number
unfoldable pub fraction : ℕ → List ℕ → ℕ → ℕ → Step
fraction least s from k =
    must (within least 2 (length s - from)) (Length from (length s - from)) k
    and_then cond (ltb from (length s)) (whole s from (length s) (k + 1)) Pass

-- what they are worth: one byte is "worth ten times itself"
unfoldable pub worth : List ℕ → ℕ → ℕ
worth s from = cond (eqb (length s - from) 1) 10 1 * whole_number s from (length s)

-- "100 times the first plus the second"
unfoldable pub cents : List ℕ → ℕ
cents s = 100 * whole_number s 0 (dot s) + worth s (past s (dot s))

-- the steps that the two kinds share
unfoldable pub parts : ℕ → List ℕ → ℕ → Step
parts least s k =
    whole s 0 (dot s) (k + 2) and_then fraction least s (past s (dot s)) (k + 5) and_then below64 (cents s) (k + 9)

-- strict: a `.`, and exactly two bytes after it
unfoldable pub parse_amount_cents : List ℕ → Answer
parse_amount_cents s = present (dot s) (length s) (check 9 1) and_then parts 2 s (check 9 0) or_accept cents s

-- lenient: "no `.`, or none, one or two bytes after it"
unfoldable pub parse_amount_cents_lenient : List ℕ → Answer
parse_amount_cents_lenient s = parts 0 s (check 10 0) or_accept cents s
