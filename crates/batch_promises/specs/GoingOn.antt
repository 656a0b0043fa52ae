-- SCOPE, "The batch": "Going on from bytes read after each 31 or 32, with the offset moved by as much, until another stop".
use Rattle.std.specs.Prelude.{ℕ, ◌+◌, List, [], ◌∷◌, ◌++◌, Bool, true, false, cond, length, take, drop}
use Rattle.record.specs.Head.{head_of}
use Rattle.record.specs.Records.{records_of, sizes}
use Rattle.batch.specs.Verdicts.{verdicts_of}
use Rattle.batch.specs.Walk.{end_of, Outcome, call_of}
use Rattle.batch.specs.declared.Stop.{Stop}
use Rattle.batch.specs.declared.Stop.TheVariants.{Finished, Budget, Room, Cut, Offset, Long}

-- the last stop, and in sum the records judged, the bytes read and the bytes written
pub record Sum : Type 0 where
  pub stop : Stop
  pub judged : ℕ
  pub read : ℕ
  pub bytes : List ℕ

abbrev pub sum_of : Outcome → Sum
sum_of r = record { stop = r.stop; judged = r.judged; read = r.read; bytes = take r.written r.out }

abbrev pub plus : Sum → Sum → Sum
plus r s = record { stop = s.stop; judged = r.judged + s.judged; read = r.read + s.read; bytes = r.bytes ++ s.bytes }

-- the stops after which a caller goes on: 31 and 32
abbrev pub pauses : Stop → Bool
pauses Finished = false
pauses Budget = true
pauses Room = true
pauses Cut = false
pauses Offset = false
pauses Long = false

-- what one call over all the whole records of a batch gives, which has room and budget for each
abbrev pub all_of : List ℕ → ℕ → Sum
all_of batch offset =
    let es = records_of batch offset in
    record { stop = end_of (head_of (drop (sizes es) batch)); judged = length es; read = sizes es; bytes = verdicts_of es }

-- what a call is given besides the batch
pub record Call : Type 0 where
  pub budget : ℕ
  pub out : List ℕ

-- the first call c, and then those of the list, for as long as each pauses
unfoldable pub go_on : List Call → Call → List ℕ → ℕ → Sum
go_on [] c batch offset = sum_of (call_of batch offset c.out c.budget)
go_on (d ∷ cs) c batch offset =
    let r = call_of batch offset c.out c.budget in
    cond (pauses r.stop) (plus (sum_of r) (go_on cs d (drop r.read batch) (offset + r.read))) (sum_of r)
