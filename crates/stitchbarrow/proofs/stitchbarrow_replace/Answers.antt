-- `stitchbarrow::stitchbarrow_replace` meets its contract.
use Rattle.std.proofs.Common.{rules}
use Rattle.repairs.specs.Repairs.{repair_of}
use Rattle.repairs.specs.declared.Request.TheVariants.{Replace}
use Rattle.stitchbarrow.proofs.stitchbarrow_replace.Goals as goal

pub returns : goal.returns
returns c = c.reply.ensures (λ s. repair_of s (Replace c.args.place c.args.byte)) (λ s d p. search rules)
