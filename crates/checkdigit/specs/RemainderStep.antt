-- SCOPE, kinds 1 and 2, the last step: the remainder is 1; else 5, with the remainder.
use Rattle.std.specs.Prelude.{ℕ, eqb}
use Rattle.answer.specs.Steps.{must}
use Rattle.answer.specs.declared.Reason.TheVariants.{Remainder}
use Rattle.answer.specs.Result.{Step}

-- k is the step's check number
unfoldable pub remainder_step : ℕ → ℕ → Step
remainder_step r k = must (eqb r 1) (Remainder r) k
