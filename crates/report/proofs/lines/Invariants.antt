-- `report::lines`: the first lines are written, and of the verdicts that are left as many more will be as have room after them.
use Rattle.report.proofs.Texts.{Lining}
use Rattle.std.specs.Slice.Iter.{chunks_exact_rest, chunks_exact_size}
use Rattle.report.proofs.lines.Given as goal
use Rattle.std.proofs.Common.{◌≡◌}

abbrev pub invariant-loop-v : goal.invariant-loop-v
invariant-loop-v l =
    Lining l.verdicts l.initial.out l.out l.done.verdicts l.done.written (chunks_exact_rest l.v-iterator)
    × (chunks_exact_size l.v-iterator ≡ 24)
