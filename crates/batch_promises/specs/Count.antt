-- SCOPE, "How tightly it is tied": a call's count "is that of whole records walked by definition, with 24 bytes changed for each and no others".
use Rattle.std.specs.Prelude.{ℕ, ◌+◌, ◌*◌, ◌≤◌, ◌<◌, ◌≡◌, List, ◌++◌, Result, length, take, drop}
use Rattle.record.specs.Head.{head_of}
use Rattle.record.specs.Records.{RecordAt, sizes}
use Rattle.record.specs.declared.Head.{Head}
use Rattle.record.specs.declared.NoRecord.{NoRecord}
use Rattle.verdict.specs.Verdict.{verdict_size}
use Rattle.batch.specs.Verdicts.{verdicts_of}
use Rattle.batch.specs.Walk.{end_of, Outcome}
use Rattle.batch.specs.declared.Stop.{Stop}
use Rattle.batch.specs.declared.Stop.TheVariants.{Finished, Budget, Room, Cut, Offset, Long}

-- why a call stopped that judged j of n records, with this budget, w bytes written of this output, and h after the last record
abbrev pub Why : Stop → ℕ → ℕ → ℕ → ℕ → List ℕ → Result Head NoRecord → Type 0
Why Finished j n budget w out h = (j ≡ n) × (end_of h ≡ Finished)
Why Budget j n budget w out h = j ≡ budget
Why Room j n budget w out h = (j < n) × (length out < w + verdict_size)
Why Cut j n budget w out h = (j ≡ n) × (end_of h ≡ Cut)
Why Offset j n budget w out h = ⊥
Why Long j n budget w out h = (j ≡ n) × (end_of h ≡ Long)

-- what a call r did of a batch whose whole records these are, into an output out
pub record Counted (batch : List ℕ) (records : List RecordAt) (out : List ℕ) (budget : ℕ) (r : Outcome) : Type 0 where
  pub most : r.judged ≤ length records
  pub within : r.judged ≤ budget
  pub written : r.written ≡ verdict_size * r.judged
  pub room : r.written ≤ length out
  pub read : r.read ≡ sizes (take r.judged records)
  pub bytes : r.out ≡ verdicts_of (take r.judged records) ++ drop r.written out
  pub why : Why r.stop r.judged (length records) budget r.written out (head_of (drop (sizes records) batch))
