-- SCOPE, "The batch": all that the program writes for an input, a heading, a line for each record, and "the last line holds the last stop and the totals".
use Rattle.std.specs.Prelude.{ℕ, List, ◌++◌}
use Rattle.batch.specs.Walk.{stop_number}
use Rattle.batch_promises.specs.GoingOn.{Sum, all_of}
use Rattle.report.specs.Text.{verdict_lines, heading, last_line}

abbrev pub last_of : Sum → List ℕ
last_of s = last_line (stop_number s.stop) s.judged s.read

-- for an input whose first byte has this stream offset
unfoldable pub output_of : List ℕ → ℕ → List ℕ
output_of batch offset =
    let s = all_of batch offset in
    heading ++ (verdict_lines s.judged s.bytes ++ last_of s)
