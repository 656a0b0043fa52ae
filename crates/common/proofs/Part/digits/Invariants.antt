-- The invariant of `common::Part::digits`: n is the number of the digits passed, and the search from i on gives what the whole search gives.
use Rattle.std.proofs.Common.{◌≡◌, ◌-◌, ◌^◌, ◌≤◌, ◌<◌}
use Rattle.text.specs.Field.{first_wrong, wrong_from}
use Rattle.text.specs.declared.Set.TheVariants.{Digits}
use Rattle.common.specs.Cents.{number_between}
use Rattle.common.proofs.Part.digits.Given as goal

abbrev pub invariant-loop-i : goal.invariant-loop-i
invariant-loop-i l =
    (l.at ≤ l.i)
    × (l.i - l.at ≤ l.self.to - l.at)
    × (l.n < 2 ^ 64)
    × (l.n ≡ number_between l.self.s.now l.at l.i)
    × (first_wrong Digits l.self.s.now l.at l.self.to l.check ≡ wrong_from Digits l.self.s.now l.i (l.self.to - l.i) l.check)
