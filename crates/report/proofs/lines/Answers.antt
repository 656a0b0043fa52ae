-- `report::lines` meets its contract: it stops where no verdict is left or no room, and a step writes one line more.
use mathlib.Core.Path.{◌∙◌}
use Rattle.report.proofs.Texts.{start_lines, no_more, line_again}
use Rattle.report.proofs.lines.Goals as goal

pub loop-v-init : goal.loop-v-init
loop-v-init c = (
  rw (c.into_iter-v-iterator.ensures.into_iter_gives, c.chunks_exact-v-items.ensures.rest) (start_lines _ _),
  rw (c.into_iter-v-iterator.ensures.into_iter_gives) c.chunks_exact-v-items.ensures.size,
)

pub loop-v-preserved : goal.loop-v-preserved
loop-v-preserved c =
    let s = c.in-Some.ensures.steps in (
      line_again _ _ _ _ _ _ c.loop-v.invariant.0 (λ i. (c.type_inv.verdicts i).fits) _ _ s.1.0 (s.1.1 ∙ c.loop-v.invariant.1) _
          c.read_verdict.ensures c.if-out-done-lt-LINE_MOST.false _ _ c.put_line.ensures,
      s.0 ∙ c.loop-v.invariant.1,
    )

pub returns-in-None : goal.returns-in-None
returns-in-None c =
    no_more _ _ _ _ _ _ c.loop-v.invariant.0 (rw c.loop-v.invariant.1 at c.in-None.ensures.steps.1.0)
