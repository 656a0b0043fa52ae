-- `text::wrong_from` meets its contract. The invariant: what is left of the search gives what the whole search gives, and the bytes passed are in the field.
use Rattle.std.proofs.Common.{◌≡◌, ◌+◌, ◌-◌, ◌<◌, ◌≤◌, length}
use Rattle.text.specs.Field.{wrong_from}
use Rattle.text.proofs.wrong_from.Given as goal

abbrev pub invariant-loop-k : goal.invariant-loop-k
invariant-loop-k l = (0 < l.k → l.from + l.k ≤ length l.s) × (wrong_from l.set l.s l.from l.n l.check ≡ wrong_from l.set l.s (l.from + l.k) (l.n - l.k) l.check)
