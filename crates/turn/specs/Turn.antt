-- SCOPE, "The batch": the program "reads a batch from standard input and writes text"; one turn of it is a call on the bytes at hand, and a line for each verdict.
use Rattle.std.specs.Prelude.{ℕ, ◌*◌, ◌/◌, List, ◌++◌, ltb, length, take, drop, cond}
use Rattle.verdict.specs.Verdict.{verdict_size}
use Rattle.batch.specs.Walk.{Outcome, call_of}
use Rattle.batch.specs.declared.Stop.{Stop}
use Rattle.report.specs.Text.{verdict_lines, at_start, line_most}
use Rattle.turn.specs.declared.Turned.{Turned}

-- the room for verdicts: of the output as much as the longest lines fit the text
abbrev pub room_of : ℕ → ℕ → ℕ
room_of out text =
    let most = text / line_most * verdict_size in
    cond (ltb most out) most out

-- the lines of a call's verdicts
abbrev pub call_lines : Outcome → List ℕ
call_lines o = verdict_lines o.judged (take o.written o.out)

-- what a turn answers, and what the output and the text then hold
pub record Turning : Type 0 where
  pub stop : Stop
  pub judged : ℕ
  pub read : ℕ
  pub written : ℕ
  pub out : List ℕ
  pub text : List ℕ

-- a call that was lent all of the output but `rest`, and its lines at the start of the text
abbrev pub turning : Outcome → List ℕ → List ℕ → Turning
turning o rest text =
    record {
      stop = o.stop;
      judged = o.judged;
      read = o.read;
      written = length (call_lines o);
      out = o.out ++ rest;
      text = at_start (call_lines o) text;
    }

unfoldable pub turn_of : List ℕ → ℕ → List ℕ → List ℕ → ℕ → Turning
turn_of held offset out text budget =
    let n = room_of (length out) (length text) in
    turning (call_of held offset (take n out) budget) (drop n out) text

-- an answer of the code, with the output and the text
abbrev pub turning_of : Turned → List ℕ → List ℕ → Turning
turning_of r out text = record { stop = r.stop; judged = r.judged; read = r.read; written = r.text; out = out; text = text }
