-- SCOPE, "The repair sheet", read over a whole list of calls: on the sheet, and on nothing but the text that it holds.
use Rattle.std.specs.Prelude.{ℕ, ◌+◌, List, [], ◌∷◌, ◌≢◌, Err}
use Rattle.answer.specs.Result.{Answer, Refused, Step, Pass}
use Rattle.field.specs.Field.{check_field}
use Rattle.sheet.specs.Sheets.{sheet_of}
use Rattle.repairs.specs.declared.Request.{Request}
use Rattle.sheet.specs.Sheets.{digits_place}
use Rattle.repairs.specs.Repairs.{asked, request_steps, repair_of}
use Rattle.repairs.specs.declared.Request.TheVariants.{Replace, Exchange, Fill}
use Rattle.sheet.specs.declared.Repaired.{Repaired}

-- each request is made of the sheet that the call before it returned
unfoldable pub calls_after : Repaired → List Request → Repaired
calls_after r [] = r
calls_after r (q ∷ qs) = calls_after (repair_of r.sheet q) qs

-- a text, and the answer of the last call
pub record Checked : Type 0 where
  pub answer : Answer
  pub text : List ℕ

-- a text with the answer of a fresh check of it
abbrev pub freshly : ℕ → List ℕ → Checked
freshly kind t = record { answer = check_field kind t; text = t }

-- a request that is not refused is made as asked, and a fresh check answers; one that is refused changes nothing
unfoldable pub checked_by : ℕ → Step → List ℕ → List ℕ → Checked
checked_by kind Pass new old = freshly kind new
checked_by kind (Err e) new old = record { answer = Refused e.reason e.check; text = old }

unfoldable pub texts_after : ℕ → Checked → List Request → Checked
texts_after kind t [] = t
texts_after kind t (q ∷ qs) = texts_after kind (checked_by kind (request_steps kind t.text q) (asked kind t.text q) t.text) qs

-- the sheet that holds it
abbrev pub held_back : ℕ → Checked → Repaired
held_back kind t = record { answer = t.answer; sheet = sheet_of kind t.text }

-- a place that a request does not speak of
abbrev pub Elsewhere : ℕ → Request → ℕ → Type 0
Elsewhere kind (Replace place byte) k = k ≢ place
Elsewhere kind (Exchange i j) k = (k ≢ i) × (k ≢ j)
Elsewhere kind Fill k = (k ≢ digits_place kind) × (k ≢ digits_place kind + 1)
