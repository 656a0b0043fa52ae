-- `batch::run`: the whole walk is what is done so far and then the walk on what is left; the measure is the budget left.
use Prim.Native.Nat.{◌-◌}
use Rattle.batch.proofs.Laws.{Going}
use Rattle.batch.proofs.run.Given as goal

abbrev pub invariant-loop-stop : goal.invariant-loop-stop
invariant-loop-stop l = Going l.batch l.offset l.initial.out l.budget l.out l.ran.judged l.ran.read l.ran.written

abbrev pub decreases-loop-stop : goal.decreases-loop-stop
decreases-loop-stop l = l.budget - l.ran.judged
