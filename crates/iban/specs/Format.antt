-- An IBAN in electronic format as the code has it: what every step but the remainder says, and its text in 34 bytes, those past its last
-- character zero.
use Rattle.std.specs.Prelude.{ℕ, zero, suc, List, [], ◌∷◌, length, Result, Ok, Err}
use Rattle.answer.specs.Result.{Step, Pass}
use Rattle.answer.specs.declared.Refusal.{Refusal}
use Rattle.iban.specs.Electronic.{electronic_text}
use Rattle.iban.specs.Iban.{iban_characters}
use Rattle.iban.specs.declared.Electronic.{Electronic}

-- n bytes: those of a text, and zeros after its last
unfoldable pub padded : ℕ → List ℕ → List ℕ
padded zero t = []
padded (suc n) [] = 0 ∷ padded n []
padded (suc n) (b ∷ t) = b ∷ padded n t

-- what some steps say: the text where they pass, and else their refusal
unfoldable pub format_by : Step → List ℕ → Result Electronic Refusal
format_by Pass t = Ok (record { count = length t; text = padded 34 t })
format_by (Err e) t = Err e

unfoldable pub format_of : List ℕ → Result Electronic Refusal
format_of s = format_by (iban_characters s) (electronic_text s)
