-- SCOPE, "Answer numbers": a rule is a row of steps, and "the first that fails answers".
use Rattle.std.specs.Prelude.{ℕ, ◌+◌, ◌*◌, Bool, true, false, Err}
use Rattle.answer.specs.declared.Reason.{Reason}
use Rattle.answer.specs.Result.{Answer, Accepted}
use Rattle.answer.specs.Result.{Step, Pass, Stop}

-- the check number of a rule's step (docs/CHECKS.md): the kind times 100 and the step's position in the rule
abbrev pub check : ℕ → ℕ → ℕ
check kind k = 100 * kind + k

-- a test that must hold; where it does not, the reason and the step's check number
abbrev pub must : Bool → Reason → ℕ → Step
must true r k = Pass
must false r k = Stop r k

-- the second step where the first passes
infixl 6 ◌and_then◌
unfoldable pub ◌and_then◌ : Step → Step → Step
◌and_then◌ Pass t = t
◌and_then◌ (Err e) t = Err e

-- the answer of a rule whose steps these were
infixl 5 ◌or_accept◌
unfoldable pub ◌or_accept◌ : Step → ℕ → Answer
◌or_accept◌ Pass n = Accepted n
◌or_accept◌ (Err e) n = Err e
