-- SCOPE, "The repair sheet": what replace, exchange and fill make of the held text, and their refusals 20, 21 and 22 in this order.
-- "Otherwise the repair is done and answers as a fresh check of the new text."
use Rattle.std.specs.Prelude.{ℕ, List, ltb, length, set, Err}
use Rattle.answer.specs.Steps.{must, ◌and_then◌}
use Rattle.answer.specs.Table.{row_of}
use Rattle.answer.specs.declared.Reason.TheVariants.{NoSheet, NoPlace, Unfit}
use Rattle.answer.specs.Result.{Step, Pass, Stop}
use Rattle.text.specs.Class.{allowed}
use Rattle.text.specs.declared.Set.TheVariants.{LettersDigits}
use Rattle.checkdigit.specs.Sum.{exchanged}
use Rattle.checkdigit.specs.Fill.{check_digits, stamped}
use Rattle.field.specs.Field.{check_field}
use Rattle.sheet.specs.Sheets.{characters, remainder_by, sheet_of, held, digits_place}
use Rattle.sheet.specs.Load.{refusal, standing}
use Rattle.repairs.specs.declared.Request.{Request}
use Rattle.repairs.specs.declared.Request.TheVariants.{Replace, Exchange, Fill}
use Rattle.sheet.specs.declared.Sheet.{Sheet}
use Rattle.sheet.specs.declared.Repaired.{Repaired}

-- 98 less the remainder that digits 00 would give, in their place
unfoldable pub filled : ℕ → List ℕ → List ℕ
filled kind t = stamped t (digits_place kind) (check_digits (remainder_by kind (stamped t (digits_place kind) 0)))

-- the text with the repair made as asked
unfoldable pub asked : ℕ → List ℕ → Request → List ℕ
asked kind t (Replace place byte) = set t place byte
asked kind t (Exchange i j) = exchanged t i j
asked kind t Fill = filled kind t

-- 21: a place is not below the length
unfoldable pub place_step : ℕ → ℕ → Step
place_step length place = must (ltb place length) (NoPlace place) 21

-- 22: the byte is not an ASCII letter or digit, at the place given
unfoldable pub byte_step : ℕ → ℕ → Step
byte_step place byte = must (allowed LettersDigits byte) (Unfit place) 22

-- 22: the new text would break a character step, at the first character that breaks it
abbrev pub unfit : Step → Step
unfit Pass = Pass
unfit (Err e) = Stop (Unfit (row_of e.reason).place) 23

unfoldable pub text_step : ℕ → List ℕ → Step
text_step kind t = unfit (characters kind t)

-- what a request gives is tested first, against the held text's length: its places and its byte
unfoldable pub given_steps : ℕ → Request → Step
given_steps length (Replace place byte) = place_step length place and_then byte_step place byte
given_steps length (Exchange i j) = place_step length i and_then place_step length j
given_steps length Fill = Pass

-- the refusals that a text can give to a request
unfoldable pub request_steps : ℕ → List ℕ → Request → Step
request_steps kind t q = given_steps (length t) q and_then text_step kind (asked kind t q)

-- 20: the sheet is empty or is not one that loading its own text would give
unfoldable pub sheet_step : Sheet → Step
sheet_step s = must (standing s) NoSheet 20

-- the repair of a sheet to a new text, where the steps pass
unfoldable pub repair_by : Step → Sheet → List ℕ → Repaired
repair_by Pass s t = record { answer = check_field s.kind t; sheet = sheet_of s.kind t }
repair_by (Err e) s t = refusal s e.reason e.check

unfoldable pub repair_of : Sheet → Request → Repaired
repair_of s r = repair_by (sheet_step s and_then request_steps s.kind (held s) r) s (asked s.kind (held s) r)
