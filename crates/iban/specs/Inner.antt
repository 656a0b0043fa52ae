-- Definitions that only inner functions of `iban` cite: a reader of the promises can pass over them.
use Rattle.std.specs.Prelude.{ℕ, ◌≡◌, List, length, Result, Ok, Err}
use Rattle.answer.specs.Result.{Step, Pass}
use Rattle.answer.specs.declared.Refusal.{Refusal}
use Rattle.iban.specs.Electronic.{electronic, electronic_text}
use Rattle.iban.specs.Iban.{ascii_step}
use Rattle.iban.specs.Format.{padded}
use Rattle.iban.specs.declared.Electronic.{Electronic}

-- what a result says as a step
abbrev pub step_of : Result Electronic Refusal → Step
step_of (Ok e) = Pass
step_of (Err x) = Err x

-- what a first pass over a field finds: what the first step says; where it passes, the text and the count of its characters
pub record Dropped (s : List ℕ) (r : Result Electronic Refusal) : Type 0 where
  pub ascii : step_of r ≡ ascii_step s
  pub holds : (e : Electronic) → r ≡ Ok e → (e.text ≡ padded 34 (electronic_text s)) × (e.count ≡ length (electronic s))
