-- `repairs::text_step` meets its contract: what the character steps say, as refusal 22.
use Rattle.repairs.proofs.Repairs.{text_step_is}
use Rattle.repairs.proofs.text_step.Goals as goal

pub returns : goal.returns
returns c = text_step_is _ _ _ _ c.characters.ensures c.map_err.ensures.cases
