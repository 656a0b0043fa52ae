-- `record::write_number`: the bytes so far, and then those of what is left of the number.
use Rattle.std.proofs.Common.{◌≡◌, ◌-◌, ◌++◌, length, take}
use Rattle.record.specs.Number.{to_bytes}
use Rattle.record.proofs.write_number.Given as goal

abbrev pub invariant-loop-byte : goal.invariant-loop-byte
invariant-loop-byte l = to_bytes (length l.initial.b) l.x ≡ take l.byte-index l.b ++ to_bytes (length l.initial.b - l.byte-index) l.rest
