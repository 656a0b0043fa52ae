-- `serve` meets its contract: each turn adds to what went before, and judges or reads in at least a byte more. That is the measure.
use Prim.Native.Nat.{◌-◌, ◌^◌}
use Rattle.service.specs.Inner.{passed}
use Rattle.service.proofs.Laws.{Going}
use Rattle.service.proofs.Bytes.{Flowing}
use Rattle.service.proofs.run.Run.serve.Given as goal

abbrev pub invariant-loop : goal.invariant-loop
invariant-loop g l =
    (t : Going l.initial.self l.self)
    × Flowing (g.I.Read.remaining l.initial.input) (g.I.Read.remaining l.input) (g.W.Write.contents l.initial.output) (g.W.Write.contents l.output) t.came t.wrote

abbrev pub decreases-loop : goal.decreases-loop
decreases-loop g l = 2 ^ 66 - passed l.self
