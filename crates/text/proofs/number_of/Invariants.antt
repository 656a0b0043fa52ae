-- `text::number_of` meets its contract. The invariant: the number so far is that of the digits passed.
use Rattle.std.proofs.Common.{◌≡◌, ◌<◌, ◌^◌, take}
use Rattle.text.specs.Decimal.{number_written}
use Rattle.text.proofs.number_of.Given as goal

abbrev pub invariant-loop-b : goal.invariant-loop-b
invariant-loop-b l = (l.n < 2 ^ 64) × (l.n ≡ number_written (take l.b-index l.t))
