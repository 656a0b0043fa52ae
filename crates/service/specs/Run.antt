-- SCOPE, "The batch": the program "goes on after 31, 32 or a record that only its buffer cuts, until the input ends or stop 35".
-- Its state is held against a run on lists (turn's specs/Stream.antt), with two lists beside it: all the bytes that reads gave, joined,
-- which are `came`, and all the slices that were handed to writes after the heading, joined, which are `wrote`.
use Rattle.std.specs.Prelude.{ℕ, ◌+◌, ◌-◌, ◌^◌, ◌<◌, ◌≡◌, Bool, true, false, List, [], ◌++◌, length, take, drop, IfSome, OnOk}
use Rattle.std.specs.Prelude.{Option, Result, Ok, Err}
use Rattle.std.specs.Io.KnownBytes.{Appends, Consumes, IsAtEnd}
use Rattle.batch.specs.Walk.{stop_number}
use Rattle.batch_promises.specs.GoingOn.{pauses, Call}
use Rattle.batch.specs.declared.Stop.{Stop}
use Rattle.batch.specs.declared.Stop.TheVariants.{Finished, Budget, Room, Cut, Offset, Long}
use Rattle.report.specs.Text.{last_line}
use Rattle.turn_promises.specs.Output.{output_of}
use Rattle.turn_promises.specs.Stream.{Event, Stream, started, called, feed, input}
use Rattle.service.specs.declared.run.Run.{Run}
use Rattle.service.specs.declared.run.Failed.{Failed}

-- the stops after which more input is read: at the end of what is held, or inside a record. After those that pause, 31 and 32, another
-- call is made; after the others, 34 and 35, the run ends
abbrev pub reads_on : Stop → Bool
reads_on Finished = true
reads_on Budget = false
reads_on Room = false
reads_on Cut = true
reads_on Offset = false
reads_on Long = false

-- what the buffer holds that is not judged yet
abbrev pub waiting : Run → List ℕ
waiting r = take (r.end - r.at) (drop r.at r.buf)

-- the bytes that came in the last turn are the last that are held
abbrev pub came_in : Run → List ℕ
came_in r = take r.came (drop (r.end - r.came) r.buf)

-- what it handed to a write are the first of the text
abbrev pub wrote_in : Run → List ℕ
wrote_in r = take r.wrote r.text

-- a state of the program is a state of the run, and the text of the run is what was handed to writes
pub record Is (S : Stream) (wrote : List ℕ) (r : Run) : Type 0 where
  pub bytes : S.held ≡ waiting r
  pub offset : S.offset ≡ r.offset
  pub judged : S.done.judged ≡ r.judged
  pub read : r.start + S.done.read ≡ r.offset
  pub stop : S.done.stop ≡ r.stop
  pub text : S.text ≡ wrote

-- a run over the bytes that came has led to this state
pub record Reached (came wrote : List ℕ) (r : Run) : Type 0 where
  pub events : List Event
  pub all : input events ≡ came
  pub is : Is (feed events (started r.start)) wrote r

-- and the last of it was a call that did not pause
pub record Called (came wrote : List ℕ) (r : Run) : Type 0 where
  pub events : List Event
  pub last : Call
  pub all : input events ≡ came
  pub is : Is (called last (feed events (started r.start))) wrote r
  pub ends : pauses r.stop ≡ false

-- what follows a turn: another at `Ok true`, the last line at `Ok false`, and nothing where input or output failed
abbrev pub Ahead : Type 0
Ahead = Result Bool Failed

-- where the last line follows, it is after such a call
pub record Led (came wrote : List ℕ) (r : Run) (x : Ahead) : Type 0 where
  pub reached : Reached came wrote r
  pub ended : x ≡ Ok false → Called came wrote r

-- a turn from s to r: whatever had come and was written before, its bytes came after that, and its lines were written after that
pub record TurnAdds (s r : Run) (x : Ahead) : Type 0 where
  pub led : (came wrote : List ℕ) → Reached came wrote s → Led (came ++ came_in r) (wrote ++ wrote_in r) r x
  pub start : r.start ≡ s.start

-- A reader may say which bytes it has left, and a writer which bytes it holds; of one that does not (`None`) nothing is claimed.
-- A turn takes of the input the bytes that came in; and where the last line follows, nothing is left that was to be read
pub record Took (left₀ left : Option (List ℕ)) (r : Run) (x : Ahead) : Type 0 where
  pub taken : Consumes left₀ left (came_in r)
  pub end : x ≡ Ok false → reads_on r.stop ≡ true → IsAtEnd left

-- and it adds to the output what was handed to a write, unless one failed
abbrev pub Gave : Option (List ℕ) → Option (List ℕ) → Run → Ahead → Type 0
Gave held₀ held r x = OnOk x (Appends held₀ held (wrote_in r))

-- before the first turn: nothing is held, and nothing was judged
pub record First (origin : ℕ) (r : Run) : Type 0 where
  pub at : r.at ≡ 0
  pub end : r.end ≡ 0
  pub start : r.start ≡ origin
  pub offset : r.offset ≡ origin
  pub judged : r.judged ≡ 0
  pub stop : r.stop ≡ Finished

-- turns one after the other, each from where the one before it left off; what came in them, joined, and what they wrote, joined
pub data Turns (s : Run) : List ℕ → List ℕ → Run → Ahead → Type 0 where
  begin : Turns s [] [] s (Ok true)
  then : {came wrote : List ℕ} {r : Run} (m : Run) (x : Ahead) → Turns s came wrote r (Ok true) → TurnAdds r m x
      → Turns s (came ++ came_in m) (wrote ++ wrote_in m) m x

-- what followed the last of the turns, where no turn did
abbrev pub last_ahead : Result (Unit {0}) Failed → Ahead
last_ahead (Ok _) = Ok false
last_ahead (Err e) = Err e

-- turns until none follows
pub record Served (s r : Run) (y : Result (Unit {0}) Failed) : Type 0 where
  pub came : List ℕ
  pub wrote : List ℕ
  pub turns : Turns s came wrote r (last_ahead y)

-- and what they took of the input and added to the output
pub record Passed (s : Run) (left₀ left held₀ held : Option (List ℕ)) (r : Run) (y : Result (Unit {0}) Failed) : Type 0 where
  pub came : List ℕ
  pub wrote : List ℕ
  pub turns : Turns s came wrote r (last_ahead y)
  pub taken : Consumes left₀ left came
  pub given : OnOk y (Appends held₀ held wrote)
  pub end : OnOk y (reads_on r.stop ≡ true → IsAtEnd left)

-- the last line of a state: its stop, the records judged and their bytes
abbrev pub last_row : Run → List ℕ
last_row r = last_line (stop_number r.stop) r.judged (r.offset - r.start)

-- what is handed to the last write is that line
abbrev pub Closing : Run → Run → Type 0
Closing s r = wrote_in r ≡ last_row s

-- the output has gained all that SCOPE asks for the input's bytes
abbrev pub Answered : Option (List ℕ) → ℕ → Option (List ℕ) → Option (List ℕ) → Type 0
Answered left start held₀ held = IfSome left (λ bytes. start + length bytes < 2 ^ 64 → Appends held₀ held (output_of bytes start))
