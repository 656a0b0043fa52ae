-- The steps that the rules of SCOPE share, over a field's bytes. Past its end a field is read as 0, which no rule asks for.
use Rattle.std.specs.Prelude.{ℕ, zero, suc, ◌+◌, ◌-◌, List, [], ◌∷◌, eqb, ltb, length, get_or, take, drop, cond}
use Rattle.answer.specs.Steps.{must, ◌and_then◌}
use Rattle.answer.specs.declared.Reason.TheVariants.{Length, Wrong, Range, Missing}
use Rattle.answer.specs.Result.{Step, Pass}
use Rattle.text.specs.Ranges.{within}
use Rattle.text.specs.Class.{allowed}
use Rattle.text.specs.Decimal.{number_written}
use Rattle.text.specs.declared.Set.{Set}
use Rattle.text.specs.declared.Set.TheVariants.{Digits}

-- the place of the first byte b, and the field's length where there is none
unfoldable pub first_place : ℕ → List ℕ → ℕ
first_place b [] = 0
first_place b (x ∷ s) = cond (eqb x b) 0 (suc (first_place b s))

-- the place of the first `.`, and the field's length where there is none
abbrev pub dot : List ℕ → ℕ
dot s = first_place 0x2E s

-- in each step, k is its check number
-- n bytes, no more and no fewer
unfoldable pub length_is : ℕ → List ℕ → ℕ → Step
length_is n s k = must (eqb (length s) n) (Length 0 (length s)) k

-- a byte stands at a place, before the end of its part; else 8 there
unfoldable pub present : ℕ → ℕ → ℕ → Step
present at end k = must (ltb at end) (Missing at) k

-- the first of n bytes from a place on that the set does not allow
unfoldable pub wrong_from : Set → List ℕ → ℕ → ℕ → ℕ → Step
wrong_from set s at zero k = Pass
wrong_from set s at (suc n) k = must (allowed set (get_or s at 0)) (Wrong at) k and_then wrong_from set s (at + 1) n k

-- the first of the bytes from one place up to another that the set does not allow
unfoldable pub first_wrong : Set → List ℕ → ℕ → ℕ → ℕ → Step
first_wrong set s from to k = wrong_from set s from (to - from) k

-- the byte b at a place
unfoldable pub literal_at : List ℕ → ℕ → ℕ → ℕ → Step
literal_at s at b k = must (eqb (get_or s at 0) b) (Wrong at) k

-- a number that was read at a place lies from low to high
unfoldable pub in_range : ℕ → ℕ → ℕ → ℕ → ℕ → Step
in_range at low high n k = must (within low high n) (Range at n) k

-- n digits at a place, and then their range, whose check number is the next: "both digits of a pair are tested before its range"
unfoldable pub digits_in : ℕ → List ℕ → ℕ → ℕ → ℕ → ℕ → Step
digits_in n s at low high k =
    wrong_from Digits s at n k and_then in_range at low high (number_written (take n (drop at s))) (k + 1)

abbrev pub two_digits : List ℕ → ℕ → ℕ → ℕ → ℕ → Step
two_digits s at low high k = digits_in 2 s at low high k

abbrev pub four_digits : List ℕ → ℕ → ℕ → ℕ → ℕ → Step
four_digits s at low high k = digits_in 4 s at low high k
