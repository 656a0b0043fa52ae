-- SCOPE, kinds 7 and 8, for a code of n bytes: "Empty, 8; not 2 (or 3) bytes, 2; first non-letter, 3; first lower-case letter, 3;
-- not listed, 6." The field's text itself stands on the list, whose lines are quoted as they are printed.
use Rattle.std.specs.Prelude.{ℕ, ◌+◌, ◌*◌, Bool, false, ◌||◌, cond, List, [], ◌∷◌, ◌++◌, eqb, length}
use Prim.Native.String.{String}
use Rattle.answer.specs.Steps.{check, must, ◌and_then◌, ◌or_accept◌}
use Rattle.answer.specs.Result.{Answer, Step}
use Rattle.answer.specs.declared.Reason.TheVariants.{NotListed}
use Rattle.text.specs.Field.{length_is, present, first_wrong}
use Rattle.text.specs.Quote.{bytes_of}
use Rattle.text.specs.Same.{same_text}
use Rattle.text.specs.declared.Set.TheVariants.{Letters, Capitals}

-- the words of a line, a blank between two; w is what has been read of the first
abbrev pub words : List ℕ → List ℕ → List (List ℕ)
words w [] = w ∷ []
words w (b ∷ s) = cond (eqb b 0x20) (w ∷ words [] s) (words (w ++ (b ∷ [])) s)

-- the codes of a list's lines, in their order
abbrev pub codes_of : List String → List (List ℕ)
codes_of [] = []
codes_of (line ∷ lines) = words [] (bytes_of line) ++ codes_of lines

-- one of them passes the test
abbrev pub any : {A : Type 0} → (A → Bool) → List A → Bool
any f [] = false
any f (x ∷ xs) = f x || any f xs

-- in each step, k is its check number
unfoldable pub on_list : List (List ℕ) → List ℕ → ℕ → Step
on_list codes s k = must (any (same_text s) codes) NotListed k

-- the steps before the list; the check numbers of a kind's steps count on from 100 times the kind
unfoldable pub well_spelt : ℕ → ℕ → List ℕ → Step
well_spelt kind n s =
    present 0 (length s) (check kind 1)
    and_then length_is n s (check kind 2)
    and_then first_wrong Letters s 0 n (check kind 3)
    and_then first_wrong Capitals s 0 n (check kind 4)

-- the whole rule
unfoldable pub code_rule : ℕ → ℕ → List (List ℕ) → List ℕ → Answer
code_rule kind n codes s = well_spelt kind n s and_then on_list codes s (check kind 5) or_accept 0

-- how a table of numbers holds codes: the bytes as one number, the first the highest, 256 * a + b, or 65536 * a + 256 * b + c
abbrev pub packed_on : ℕ → List ℕ → ℕ
packed_on n [] = n
packed_on n (b ∷ s) = packed_on (256 * n + b) s

abbrev pub packed : List ℕ → ℕ
packed s = packed_on 0 s

-- a number stands in a table
abbrev pub among : List ℕ → ℕ → Bool
among table code = any (λ x. eqb x code) table
