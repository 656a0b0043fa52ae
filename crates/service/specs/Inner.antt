-- Definitions that only inner functions of `service` cite: a reader of the promises can pass over them.
use Rattle.std.specs.Prelude.{ℕ, ◌+◌, ◌-◌, ◌^◌, ◌<◌, ◌≤◌, ◌≡◌, true, List, ◌++◌, length, take, Ok}
use Rattle.record.specs.Head.{head_limit}
use Rattle.batch_promises.specs.GoingOn.{pauses, Call}
use Rattle.batch.specs.declared.Stop.TheVariants.{Finished, Cut}
use Rattle.turn.specs.Turn.{room_of}
use Rattle.turn_promises.specs.Stream.{Stream, called}
use Rattle.service.specs.declared.run.Run.{Run}
use Rattle.service.specs.Run.{waiting, Is, Called, Ahead, Led, came_in, wrote_in}

-- the records that a call can judge
abbrev pub records : ℕ
records = 1024

-- the call of one turn, by what the output and the text hold
abbrev pub call_with : List ℕ → List ℕ → Call
call_with out text = record { budget = records; out = take (room_of (length out) (length text)) out }

-- the bytes judged and the bytes read in, which both only rise
abbrev pub passed : Run → ℕ
passed r = r.offset + (r.offset + (r.end - r.at))

-- r is s after one call, whose lines are what is to be written; nothing has come
pub record Judging (s r : Run) : Type 0 where
  pub is : (S : Stream) (wrote : List ℕ) → Is S wrote s → Is (called (call_with s.out s.text) S) (wrote ++ wrote_in r) r
  pub start : r.start ≡ s.start
  pub came : r.came ≡ 0
  pub none : r.stop ≡ Finished → r.at ≡ r.end
  pub short : r.stop ≡ Cut → r.end < r.at + (4 + head_limit)
  pub later : s.offset ≤ r.offset
  pub total : r.offset + (r.end - r.at) ≡ s.offset + (s.end - s.at)
  pub grew : pauses r.stop ≡ true → s.offset < r.offset
  pub fits : passed r < 2 ^ 66

-- the same bytes are held, from the front on, and nothing else has changed
pub record Shifted (s r : Run) : Type 0 where
  pub same : waiting r ≡ waiting s
  pub at : r.at ≡ 0
  pub end : r.end ≡ s.end - s.at
  pub start : r.start ≡ s.start
  pub offset : r.offset ≡ s.offset
  pub judged : r.judged ≡ s.judged
  pub stop : r.stop ≡ s.stop
  pub told : wrote_in r ≡ wrote_in s
  pub came : r.came ≡ s.came

-- where another turn follows, one of them has risen, and they stay below what numbers of 64 bits hold
abbrev pub Moved : Run → Run → Ahead → Type 0
Moved s r x = x ≡ Ok true → (passed s < passed r) × (passed r < 2 ^ 66)

-- one read from s to r: whatever had come before, its bytes came after that; what the turn had written is told on
pub record More (s r : Run) (x : Ahead) : Type 0 where
  pub led : (came wrote : List ℕ) → Called came wrote s → Led (came ++ came_in r) wrote r x
  pub start : r.start ≡ s.start
  pub told : wrote_in r ≡ wrote_in s
