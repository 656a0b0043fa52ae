-- `stitchbarrow::stitchbarrow_fill` meets its contract.
use Rattle.std.proofs.Common.{rules}
use Rattle.repairs.specs.Repairs.{repair_of}
use Rattle.repairs.specs.declared.Request.TheVariants.{Fill}
use Rattle.stitchbarrow.proofs.stitchbarrow_fill.Goals as goal

pub returns : goal.returns
returns c = c.reply.ensures (λ s. repair_of s Fill) (λ s d p. search rules)
