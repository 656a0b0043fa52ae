-- ISO 9362, the structure of the code: a prefix of four characters, a country code of two letters, a suffix of two characters, and where a
-- branch is named three characters more. SCOPE, kind 3, has letters only in the prefix, and all letters capital.
use Rattle.std.specs.Prelude.{ℕ, List, eqb, length, ◌||◌}
use Rattle.answer.specs.Steps.{check, must, ◌and_then◌, ◌or_accept◌}
use Rattle.answer.specs.Result.{Answer, Step}
use Rattle.answer.specs.declared.Reason.TheVariants.{Length}
use Rattle.text.specs.Field.{first_wrong}
use Rattle.text.specs.declared.Set.TheVariants.{Capitals, CapitalsDigits}

-- 8 bytes, or 11 with a branch
unfoldable pub bic_length : List ℕ → Step
bic_length s = must (eqb (length s) 8 || eqb (length s) 11) (Length 0 (length s)) (check 3 1)

-- prefix and country code are capitals, the rest capitals or digits
unfoldable pub bic_answer : List ℕ → Answer
bic_answer s =
    bic_length s
    and_then first_wrong Capitals s 0 6 (check 3 2)
    and_then first_wrong CapitalsDigits s 6 (length s) (check 3 3)
    or_accept 0
