-- SCOPE, "The batch": the program's run on lists. Bytes come in, and calls are made on those at hand, in any order: "it goes on after 31, 32 or a record that only its buffer cuts".
use Rattle.std.specs.Prelude.{ℕ, ◌+◌, List, [], ◌∷◌, ◌++◌, drop}
use Rattle.batch.specs.Walk.{call_of}
use Rattle.batch_promises.specs.GoingOn.{Sum, sum_of, plus, Call}
use Rattle.batch.specs.declared.Stop.TheVariants.{Finished}
use Rattle.turn.specs.Turn.{call_lines}

-- bytes that were read in, or a call with its budget and output
pub data Event : Type 0 where
  more : List ℕ → Event
  call : Call → Event

-- the bytes that are not judged yet, the stream offset of the first, what was done in sum, and the text written
pub record Stream : Type 0 where
  pub held : List ℕ
  pub offset : ℕ
  pub done : Sum
  pub text : List ℕ

abbrev pub started : ℕ → Stream
started offset = record { held = []; offset = offset; done = record { stop = Finished; judged = 0; read = 0; bytes = [] }; text = [] }

abbrev pub taken : List ℕ → Stream → Stream
taken b s = record { held = s.held ++ b; offset = s.offset; done = s.done; text = s.text }

-- one call on what is held
abbrev pub called : Call → Stream → Stream
called c s =
    let r = call_of s.held s.offset c.out c.budget in
    record { held = drop r.read s.held; offset = s.offset + r.read; done = plus s.done (sum_of r); text = s.text ++ call_lines r }

abbrev pub next : Event → Stream → Stream
next (more b) s = taken b s
next (call c) s = called c s

unfoldable pub feed : List Event → Stream → Stream
feed [] s = s
feed (e ∷ es) s = feed es (next e s)

-- all the bytes that came in
unfoldable pub input : List Event → List ℕ
input [] = []
input (more b ∷ es) = b ++ input es
input (call c ∷ es) = input es
