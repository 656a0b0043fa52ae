-- The program's argument: the stream offset of its input's first byte (SCOPE, "The batch"), as one or more ASCII digits that write a number
-- below 2^64.
use Rattle.std.specs.Prelude.{ℕ, Bool, true, ◌&&◌, cond, List, [], ◌∷◌, Option, None, ltb, length}
use Rattle.text.specs.Class.{is_digit}
use Rattle.text.specs.Decimal.{number_written, fitted}

abbrev pub digits_only : List ℕ → Bool
digits_only [] = true
digits_only (b ∷ t) = is_digit b && digits_only t

-- no sign, no blank
unfoldable pub offset_of : List ℕ → Option ℕ
offset_of t = cond (ltb 0 (length t) && digits_only t) (fitted (number_written t)) None
