-- SCOPE, "Answer numbers": the number, the place and the value of each answer. "Where nothing else is said, place and number are 0."
use Rattle.std.specs.Prelude.{ℕ, Err}
use Rattle.answer.specs.declared.Numbers.{Numbers}
use Rattle.answer.specs.declared.Reason.{Reason}
use Rattle.answer.specs.declared.Reason.TheVariants.{
  NotUtf8,
  Length,
  Wrong,
  Range,
  Remainder,
  NotListed,
  NotPositive,
  Missing,
  TooLarge,
  Trailing,
  TooLong,
  UnknownKind,
  NoSheet,
  NoPlace,
  Unfit,
}
use Rattle.answer.specs.Result.{Answer, Accepted}

-- a row of the table: number, place and value
abbrev pub row : ℕ → ℕ → ℕ → Numbers
row n p v = record { number = n; place = p; value = v }

abbrev pub row_of : Reason → Numbers
row_of (NotUtf8 p) = row 1 p 0  -- not UTF-8; place is the length of the longest well-formed prefix
row_of (Length p n) = row 2 p n  -- a length is wrong; number is that length
row_of (Wrong p) = row 3 p 0  -- a wrong byte or character; place its first byte
row_of (Range p n) = row 4 p n  -- two or four digits out of range; place the first digit, number the value
row_of (Remainder n) = row 5 0 n  -- remainder not 1; number the remainder
row_of NotListed = row 6 0 0  -- not on the list
row_of NotPositive = row 7 0 0  -- amount starts with minus, or is zero
row_of (Missing p) = row 8 p 0  -- a part is missing
row_of TooLarge = row 9 0 0  -- does not fit in 64 bits
row_of (Trailing p) = row 10 p 0  -- bytes after the end; place the first
row_of (TooLong n) = row 11 0 n  -- field above the limit; number its length
row_of (UnknownKind k) = row 12 0 k  -- unknown kind; number the kind
row_of NoSheet = row 20 0 0  -- the sheet is not one that loading its own text would give
row_of (NoPlace i) = row 21 0 i  -- a place is not below the length; number the first such place given
row_of (Unfit p) = row 22 p 0  -- the new text would break a character step; place the first character that breaks it

-- an answer's three numbers: acceptance has number 0 and its own number as the value
abbrev pub numbers_of : Answer → Numbers
numbers_of (Accepted n) = row 0 0 n
numbers_of (Err e) = row_of e.reason

abbrev pub number_of : Answer → ℕ
number_of a = (numbers_of a).number

abbrev pub place_of : Answer → ℕ
place_of a = (numbers_of a).place

abbrev pub value_of : Answer → ℕ
value_of a = (numbers_of a).value

-- the check number of the step that refused, and 0 for acceptance
abbrev pub check_of : Answer → ℕ
check_of (Accepted n) = 0
check_of (Err e) = e.check
