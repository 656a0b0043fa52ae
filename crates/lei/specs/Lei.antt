-- SCOPE, kind 2, and ISO 17442: an LEI has 20 characters, capitals and digits, of which the last two are the check digits of MOD 97-10
-- over the text as it stands.
use Rattle.std.specs.Prelude.{ℕ, List}
use Rattle.answer.specs.Steps.{check, ◌and_then◌, ◌or_accept◌}
use Rattle.answer.specs.Result.{Answer, Step}
use Rattle.text.specs.Field.{length_is, first_wrong}
use Rattle.text.specs.declared.Set.TheVariants.{Digits, CapitalsDigits}
use Rattle.checkdigit.specs.Sum.{remainder_of}
use Rattle.checkdigit.specs.RemainderStep.{remainder_step}

-- 20 bytes; the first character that is no capital and no digit; bytes 18 and 19 digits
unfoldable pub lei_characters : List ℕ → Step
lei_characters s = length_is 20 s (check 2 1) and_then first_wrong CapitalsDigits s 0 20 (check 2 2) and_then first_wrong Digits s 18 20 (check 2 3)

-- .. and then the remainder
unfoldable pub lei_answer : List ℕ → Answer
lei_answer s = lei_characters s and_then remainder_step (remainder_of s) (check 2 4) or_accept 1
