-- A step and an answer are Rust's `Result`; these are SCOPE's words for its cases.
use Rattle.std.specs.Prelude.{ℕ, Result, Ok, Err}
use Rattle.answer.specs.declared.Reason.{Reason}
use Rattle.answer.specs.declared.Refusal.{Refusal}

abbrev pub refusal : Reason → ℕ → Refusal
refusal r k = record { reason = r; check = k }

abbrev pub Step : Type 0
Step = Result Unit Refusal

-- a step passes, or stops the rule with a reason and the step's check number
pattern abbrev pub Pass : Step
Pass = Ok tt

abbrev pub Stop : Reason → ℕ → Step
Stop r k = Err (refusal r k)

abbrev pub Answer : Type 0
Answer = Result ℕ Refusal

-- a field is accepted with a number, or refused with a reason and the check number of the step that stopped
pattern abbrev pub Accepted : ℕ → Answer
Accepted n = Ok n

abbrev pub Refused : Reason → ℕ → Answer
Refused r k = Err (refusal r k)
