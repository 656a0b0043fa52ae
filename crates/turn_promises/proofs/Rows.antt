-- The lines of records' verdicts are these records' rows.
use Prim.Native.Nat.{ℕ, zero, suc, ◌+◌, ◌^◌, ◌≤◌, ◌<◌}
use mathlib.Core.Path.{◌≡◌, refl}
use mathlib.Core.List.{List, ◌++◌}
use native.Mathlib.Omega.{arith}
use lib.ListN.{length, take, drop, length-drop}
use lib.Seq.{drop_at}
use Rattle.field.specs.Field.{check_field}
use Rattle.record.specs.Number.{Bytes}
use Rattle.record.specs.Records.{RecordAt, record_at}
use Rattle.record.proofs.Numbers.{bytes_drop}
use Rattle.record.proofs.Heads.{whole}
use Rattle.record.proofs.Records.{Walks, none, one}
use Rattle.verdict.specs.Verdict.{verdict_size}
use Rattle.batch.specs.Verdicts.{verdict_of, verdicts_of}
use Rattle.batch.proofs.Verdicts.{length-verdict_of, verdicts_of-more}
use Rattle.batch_promises.proofs.Whole.{holds, record_reads}
use Rattle.report.specs.Text.{verdict_lines}
use Rattle.report.proofs.Promises.{line_reads}
use Rattle.turn_promises.specs.Rows.{record_lines}

-- the lines of the verdicts of the first j records are these records' rows
pub text_rows : {s : List ℕ} {o : ℕ} {es : List RecordAt} → Walks s o es → Bytes s → o + length s < 2 ^ 64 → (j : ℕ) → j ≤ length es
    → verdict_lines j (verdicts_of (take j es)) ≡ record_lines (take j es)
unfolding verdict_lines
text_rows w b far zero h = refl
text_rows (none e) b far (suc j) h = absurd (omega arith)
text_rows {s} {o} (one k n es e w) b far (suc j) h =
    let a = record_at s o k n in
    let v = verdicts_of (take j es) in
    let f = (whole s k n e).fits in
    let i = text_rows {s = drop (4 + n) s} {o = o + (4 + n)} w (bytes_drop s (4 + n) b) (omega (arith, length-drop (4 + n) s)) j (omega arith) in
    rw (
      verdicts_of-more a (take j es),
      line_reads (verdict_of a ++ v) k o (check_field k a.value) (record_reads a v (holds s o k n e b (omega arith))),
      drop_at (verdict_of a) v verdict_size (length-verdict_of a),
      i,
    )
