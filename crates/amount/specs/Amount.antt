-- SCOPE, "The ten kinds", 6: amounts, defined there and by no other document: sign, integer part, what follows the first `.`, and zero.
use Rattle.std.specs.Prelude.{ℕ, ◌+◌, ◌-◌, Bool, true, false, not, cond, List, [], ◌∷◌, eqb, leb, ltb, length, get_or}
use Rattle.answer.specs.Steps.{check, must, ◌and_then◌, ◌or_accept◌}
use Rattle.answer.specs.Result.{Answer, Step, Pass}
use Rattle.answer.specs.declared.Reason.TheVariants.{Length, NotPositive}
use Rattle.text.specs.Ranges.{within}
use Rattle.text.specs.Field.{dot, present, first_wrong}
use Rattle.text.specs.declared.Set.TheVariants.{Digits}

-- "`-` first, 7"
unfoldable pub no_minus : List ℕ → Step
no_minus s = must (not (eqb (get_or s 0 0) 45)) NotPositive (check 6 2)

-- "one `+` is skipped": where the integer part starts
unfoldable pub start : List ℕ → ℕ
start s = cond (eqb (get_or s 0 0) 43) 1 0

-- no more than so many digits in the part that starts there; "number is that length"
unfoldable pub at_most : ℕ → ℕ → ℕ → ℕ → Step
at_most most from count k = must (leb count most) (Length from count) k

-- a part from one place up to another: not empty, digits only, no more than so many
unfoldable pub part : List ℕ → ℕ → ℕ → ℕ → ℕ → Step
part s from to most k =
    present from to k and_then first_wrong Digits s from to (k + 1) and_then at_most most from (to - from) (k + 2)

-- "if there was a `.`": the part after it, which starts at the field's length where nothing stands there
unfoldable pub fraction : List ℕ → ℕ → Step
fraction s dot = cond (ltb dot (length s)) (part s (dot + 1) (length s) 5 (check 6 6)) Pass

-- "all digits zero": no digit from 1 to 9 stands in the field
unfoldable pub all_zero : List ℕ → Bool
all_zero [] = true
all_zero (b ∷ s) = cond (within 49 57 b) false (all_zero s)

unfoldable pub not_zero : List ℕ → Step
not_zero s = must (not (all_zero s)) NotPositive (check 6 9)

-- "split at the first `.`"
unfoldable pub validate_amount : List ℕ → Answer
validate_amount s =
    present 0 (length s) (check 6 1)
    and_then no_minus s
    and_then part s (start s) (dot s) 18 (check 6 3)
    and_then fraction s (dot s)
    and_then not_zero s
    or_accept 0
