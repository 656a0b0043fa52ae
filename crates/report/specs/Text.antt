-- The program's text, after SCOPE, "The batch": the heading, a line for each verdict, and the last line.
use Rattle.std.specs.Prelude.{ℕ, zero, suc, ◌-◌, ◌/◌, List, [], ◌∷◌, ◌++◌, ltb, length, drop, cond}
use Rattle.text.specs.Quote.{bytes_of}
use Rattle.verdict.specs.Verdict.{verdict_size, read_verdict}
use Rattle.verdict.specs.declared.Verdict.{Verdict}
use Rattle.report.specs.declared.Rendered.{Rendered}
use Rattle.report.specs.Digits.{decimal_digits}

-- the columns of a verdict's line, in the heading's order
abbrev pub numbers : Verdict → List ℕ
numbers v = v.offset ∷ v.kind ∷ v.answer ∷ v.place ∷ v.number ∷ []

-- a number and the byte after it
unfoldable pub field : ℕ → ℕ → List ℕ
field x after = decimal_digits x ++ (after ∷ [])

-- numbers with a space between them and a newline after the last
unfoldable pub numbers_line : List ℕ → List ℕ
numbers_line [] = []
numbers_line (x ∷ []) = field x 10
numbers_line (x ∷ y ∷ xs) = field x 32 ++ numbers_line (y ∷ xs)

-- the line of the verdict at the start of v
unfoldable pub verdict_line : List ℕ → List ℕ
verdict_line v = numbers_line (numbers (read_verdict v))

-- the lines of the first k verdicts
unfoldable pub verdict_lines : ℕ → List ℕ → List ℕ
verdict_lines zero v = []
verdict_lines (suc k) v = verdict_line v ++ verdict_lines k (drop verdict_size v)

unfoldable pub heading : List ℕ
heading = bytes_of "offset kind answer place number\n"

-- a word, a number and the byte after it
unfoldable pub named : List ℕ → ℕ → ℕ → List ℕ
named word x after = word ++ field x after

unfoldable pub last_line : ℕ → ℕ → ℕ → List ℕ
last_line stop judged read = named (bytes_of "stop ") stop 32 ++ (named (bytes_of "judged ") judged 32 ++ named (bytes_of "read ") read 10)

-- a text in a buffer from its start on, the rest as it was
abbrev pub at_start : List ℕ → List ℕ → List ℕ
at_start t out = t ++ drop (length t) out

-- the longest line: 20, 5, 3, 5 and 20 digits, and a byte after each number
abbrev pub line_most : ℕ
line_most = 58

-- the longest last line: its three words, and 20 digits and a byte after each
abbrev pub last_most : ℕ
last_most = 80

-- how many of n verdicts are written: a line is where the longest line has room
unfoldable pub fitting : ℕ → ℕ → List ℕ → ℕ
fitting zero room v = 0
fitting (suc n) room v = cond (ltb room line_most) 0 (suc (fitting n (room - length (verdict_line v)) (drop verdict_size v)))

-- what is done with a lent buffer: the verdicts whose lines stand at its start, the lines' bytes, and the whole buffer
pub record Rendering : Type 0 where
  pub verdicts : ℕ
  pub written : ℕ
  pub out : List ℕ

-- the lines of the first k verdicts at the start of a buffer
abbrev pub rendering : ℕ → List ℕ → List ℕ → Rendering
rendering k v out = record { verdicts = k; written = length (verdict_lines k v); out = at_start (verdict_lines k v) out }

-- as many of the whole verdicts as have room
unfoldable pub rendered : List ℕ → List ℕ → Rendering
rendered v out = rendering (fitting (length v / verdict_size) (length out) v) v out

abbrev pub rendering_of : Rendered → List ℕ → Rendering
rendering_of r out = record { verdicts = r.verdicts; written = r.written; out = out }

-- how many bytes of a buffer were written, and the whole buffer
pub record Placed : Type 0 where
  pub written : ℕ
  pub out : List ℕ

abbrev pub placed : ℕ → List ℕ → Placed
placed n out = record { written = n; out = out }

-- the last line at the start of a buffer that has room for the longest; in a shorter one nothing is written
unfoldable pub ended : List ℕ → ℕ → ℕ → ℕ → Placed
ended out stop judged read =
    cond (ltb (length out) last_most) (placed 0 out)
    (placed (length (last_line stop judged read)) (at_start (last_line stop judged read) out))
