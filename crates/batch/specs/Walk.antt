-- SCOPE, "The batch": a call "takes the batch, the stream offset of its first byte, the output and a budget of records, and answers why it stopped, records judged, bytes read, bytes written".
use Rattle.std.specs.Prelude.{ℕ, zero, suc, ◌+◌, ◌^◌, List, ◌++◌, Result, Ok, Err, ltb, leb, eqb, length, drop, cond}
use Rattle.record.specs.Head.{head_of}
use Rattle.record.specs.Records.{record_at}
use Rattle.record.specs.declared.Head.{Head}
use Rattle.record.specs.declared.NoRecord.{NoRecord}
use Rattle.record.specs.declared.NoRecord.TheVariants.{End, Short, TooLong, CutShort}
use Rattle.verdict.specs.Verdict.{verdict_size}
use Rattle.batch.specs.Verdicts.{verdict_of}
use Rattle.batch.specs.declared.Stop.{Stop}
use Rattle.batch.specs.declared.Stop.TheVariants.{Finished, Budget, Room, Cut, Offset, Long}
use Rattle.batch.specs.declared.Ran.{Ran}

-- the numbers of the stops
abbrev pub stop_number : Stop → ℕ
stop_number Finished = 0  -- no bytes left
stop_number Budget = 31  -- budget spent
stop_number Room = 32  -- no room for a verdict
stop_number Cut = 33  -- fewer than 4 bytes, or the value cut short
stop_number Offset = 34  -- offset plus batch length is 2^64 or more
stop_number Long = 35  -- length above the head limit

-- the stop where the whole records end, by what stands there (which is no whole record)
abbrev pub end_of : Result Head NoRecord → Stop
end_of (Err End) = Finished
end_of (Err Short) = Cut
end_of (Err TooLong) = Long
end_of (Err CutShort) = Cut
end_of (Ok h) = Room

-- with the budget spent 31 comes first
abbrev pub unless_spent : ℕ → Result Head Stop → Result Head Stop
unless_spent budget t = cond (eqb budget 0) (Err Budget) t

-- before each record: no bytes left, 0; budget spent, 31; fewer than 4 bytes, 33; length above the limit, 35; value cut short, 33;
-- no room for a verdict, 32; else it is judged
unfoldable pub next_of : Result Head NoRecord → ℕ → ℕ → Result Head Stop
next_of (Err End) room budget = Err Finished
next_of (Err Short) room budget = unless_spent budget (Err Cut)
next_of (Err TooLong) room budget = unless_spent budget (Err Long)
next_of (Err CutShort) room budget = unless_spent budget (Err Cut)
next_of (Ok h) room budget = unless_spent budget (cond (ltb room verdict_size) (Err Room) (Ok h))

-- what a call answers, and what its output then holds
pub record Outcome : Type 0 where
  pub stop : Stop
  pub judged : ℕ
  pub read : ℕ
  pub written : ℕ
  pub out : List ℕ

abbrev pub stopped : Stop → List ℕ → Outcome
stopped s out = record { stop = s; judged = 0; read = 0; written = 0; out = out }

-- j records, n bytes read and the w bytes v written, and then what r says
abbrev pub ahead : ℕ → ℕ → ℕ → List ℕ → Outcome → Outcome
ahead j n w v r = record { stop = r.stop; judged = j + r.judged; read = n + r.read; written = w + r.written; out = v ++ r.out }

-- one record, and then `more` on what is left of the batch and of the output
abbrev pub after : Result Head Stop → (List ℕ → ℕ → List ℕ → Outcome) → List ℕ → ℕ → List ℕ → Outcome
after (Err s) more batch offset out = stopped s out
after (Ok h) more batch offset out =
    ahead 1 (4 + h.length) verdict_size (verdict_of (record_at batch offset h.kind h.length))
    (more (drop (4 + h.length) batch) (offset + (4 + h.length)) (drop verdict_size out))

-- the walk, by the budget; with none left it never goes on
unfoldable pub walk : ℕ → List ℕ → ℕ → List ℕ → Outcome
walk zero batch offset out = after (next_of (head_of batch) (length out) 0) (λ b o u. stopped Budget u) batch offset out
walk (suc k) batch offset out = after (next_of (head_of batch) (length out) (suc k)) (walk k) batch offset out

-- "If offset plus batch length is 2^64 or more: 34, nothing written, all counts 0."
unfoldable pub call_of : List ℕ → ℕ → List ℕ → ℕ → Outcome
call_of batch offset out budget = cond (leb (2 ^ 64) (offset + length batch)) (stopped Offset out) (walk budget batch offset out)

-- an answer of the code, with the output
abbrev pub outcome_of : Ran → List ℕ → Outcome
outcome_of r out = record { stop = r.stop; judged = r.judged; read = r.read; written = r.written; out = out }
