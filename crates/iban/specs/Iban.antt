-- SCOPE, kind 1, and ISO 13616: the steps on the characters in electronic format, and then the remainder of MOD 97-10 with the first four
-- characters moved to the end.
use Rattle.std.specs.Prelude.{ℕ, cond, List, [], ◌∷◌, ltb, eqb, length, Err}
use Rattle.answer.specs.Steps.{check, must, ◌and_then◌, ◌or_accept◌}
use Rattle.answer.specs.Table.{row_of}
use Rattle.answer.specs.Result.{Answer, Step, Pass, Stop}
use Rattle.answer.specs.declared.Reason.{Reason}
use Rattle.answer.specs.declared.Reason.TheVariants.{Length, Wrong}
use Rattle.text.specs.Ranges.{within}
use Rattle.text.specs.Field.{first_wrong}
use Rattle.text.specs.declared.Set.TheVariants.{Digits, Capitals, LettersDigits}
use Rattle.utf8.specs.Chars.{valid_prefix}
use Rattle.checkdigit.specs.Sum.{iban_remainder}
use Rattle.checkdigit.specs.RemainderStep.{remainder_step}
use Rattle.iban.specs.Electronic.{Character, electronic, electronic_text, place_in}

-- the first character that is not ASCII: 3 at its place
unfoldable pub all_ascii : List Character → Step
all_ascii [] = Pass
all_ascii (c ∷ l) = must (ltb c.scalar 128) (Wrong c.place) (check 1 1) and_then all_ascii l

-- .. or, past them all, the first byte at which no character of UTF-8 starts
unfoldable pub ascii_step : List ℕ → Step
ascii_step s = all_ascii (electronic s) and_then must (eqb (valid_prefix s) (length s)) (Wrong (valid_prefix s)) (check 1 1)

-- 5 to 34 characters; else 2 with their count
unfoldable pub count_step : ℕ → Step
count_step n = must (within 5 34 n) (Length 0 n) (check 1 2)

-- a text in electronic format: characters 1 and 2 each A to Z; characters 3 and 4 each a digit; the rest letters or digits
unfoldable pub class_steps : List ℕ → Step
class_steps t =
    first_wrong Capitals t 0 2 (check 1 3)
    and_then first_wrong Digits t 2 4 (check 1 4)
    and_then first_wrong LettersDigits t 4 (length t) (check 1 5)

-- what a step says of a text in electronic format, said of the lent field: a wrong character, 3, has its place there; no other reason moves
unfoldable pub reason_in : List Character → Reason → Reason
reason_in l r = cond (eqb (row_of r).number 3) (Wrong (place_in (row_of r).place l)) r

abbrev pub step_in : List Character → Step → Step
step_in l Pass = Pass
step_in l (Err e) = Stop (reason_in l e.reason) e.check

-- every step but the remainder
unfoldable pub iban_characters : List ℕ → Step
iban_characters s =
    ascii_step s
    and_then count_step (length (electronic s))
    and_then step_in (electronic s) (class_steps (electronic_text s))

unfoldable pub iban_answer : List ℕ → Answer
iban_answer s = iban_characters s and_then remainder_step (iban_remainder (electronic_text s)) (check 1 6) or_accept 1
