-- The verdicts of records hold the records' offsets.
use Prim.Native.Nat.{ℕ, zero, suc, ◌+◌, ◌^◌, ◌≤◌, ◌<◌}
use mathlib.Core.Path.{◌≡◌, refl}
use mathlib.Core.List.{List, ◌++◌}
use native.Mathlib.Omega.{arith}
use lib.ListN.{length, take, drop, length-drop}
use lib.Seq.{drop_at}
use Rattle.record.specs.Records.{RecordAt, record_at, offsets_of}
use Rattle.record.proofs.Heads.{whole}
use Rattle.record.proofs.Records.{Walks, none, one}
use Rattle.verdict.specs.Verdict.{verdict_size, read_verdict}
use Rattle.batch.specs.Verdicts.{verdict_of, verdicts_of}
use Rattle.verdict.proofs.Verdicts.{read-offset}
use Rattle.batch.proofs.Verdicts.{length-verdict_of, verdicts_of-more}
use Rattle.batch_promises.specs.Offsets.{offsets_in}

offset_read : (e : RecordAt) (more : List ℕ) → e.offset < 2 ^ 64 → (read_verdict (verdict_of e ++ more)).offset ≡ e.offset
unfolding verdict_of
offset_read e more h = read-offset e.kind e.offset _ more h

pub offsets_read : {s : List ℕ} {o : ℕ} {es : List RecordAt} → Walks s o es → o + length s < 2 ^ 64 → (j : ℕ) → j ≤ length es
    → offsets_in j (verdicts_of (take j es)) ≡ offsets_of (take j es)
unfolding offsets_in
offsets_read w far zero h = refl
offsets_read (none e) far (suc j) h = absurd (omega arith)
offsets_read {s} {o} (one k n es e w) far (suc j) h =
    let a = record_at s o k n in
    let v = verdicts_of (take j es) in
    let i = offsets_read {s = drop (4 + n) s} {o = o + (4 + n)} w (omega (arith, length-drop (4 + n) s, (whole s k n e).fits)) j (omega arith) in
    rw (verdicts_of-more a (take j es), offset_read a v (omega arith), drop_at (verdict_of a) v verdict_size (length-verdict_of a), i)
