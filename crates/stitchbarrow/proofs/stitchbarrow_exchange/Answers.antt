-- `stitchbarrow::stitchbarrow_exchange` meets its contract.
use Rattle.std.proofs.Common.{rules}
use Rattle.repairs.specs.Repairs.{repair_of}
use Rattle.repairs.specs.declared.Request.TheVariants.{Exchange}
use Rattle.stitchbarrow.proofs.stitchbarrow_exchange.Goals as goal

pub returns : goal.returns
returns c = c.reply.ensures (λ s. repair_of s (Exchange c.args.i c.args.j)) (λ s d p. search rules)
