-- `codes::packed_fit` meets its contract. The invariant: the number so far, with the bytes that are left, is the code's.
use Rattle.std.proofs.Common.{◌≡◌, ◌<◌, ◌^◌, drop}
use Rattle.codes.specs.Codes.{packed_on, packed}
use Rattle.codes.proofs.packed_fit.Given as goal

abbrev pub invariant-loop-b : goal.invariant-loop-b
invariant-loop-b l = (l.n < 2 ^ 32) × (packed_on l.n (drop l.b-index l.code) ≡ packed l.code)
