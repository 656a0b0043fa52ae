-- The invariant: the remainder so far is that of r's digits with those of the characters passed after them.
use mathlib.Core.Path.{◌≡◌}
use Prim.Native.Nat.{◌<◌}
use lib.ListN.{take}
use Rattle.checkdigit.specs.Sum.{continued}
use Rattle.checkdigit.proofs.onward.Given as goal

abbrev pub invariant-loop-b : goal.invariant-loop-b
invariant-loop-b l = (l.remainder < 97) × (l.remainder ≡ continued l.r (take l.b-index l.t))
