-- Nothing is lost in a verdict: of every field its kind, its offset and its answer's three numbers read back from its bytes.
use Prim.Native.Nat.{ℕ, ◌^◌, ◌<◌}
use mathlib.Core.Path.{◌≡◌}
use mathlib.Core.List.{List, ◌++◌}
use native.Mathlib.Omega.{arith}
use lib.ListN.{length}
use Rattle.answer.specs.Table.{place_of, value_of}
use Rattle.answer.specs.Result.{Answer}
use Rattle.text.proofs.Near.{Small}
use Rattle.field.specs.Field.{check_field}
use Rattle.field.proofs.Places.{field_small}
use Rattle.record.specs.Number.{little_at, Bytes}
use Rattle.record.specs.Head.{Record, head_of}
use Rattle.record.specs.Records.{RecordAt, record_at}
use Rattle.record.proofs.Numbers.{number-most, read_back}
use Rattle.record.proofs.Heads.{whole, value_long}
use Rattle.verdict.specs.Verdict.{answer_bytes, read_verdict, saying}
use Rattle.batch.specs.Verdicts.{verdict_of}
use Rattle.verdict.proofs.Verdicts.{read-verdict}

-- an answer's place and value stand whole in its bytes
pub answer_reads : (a : Answer) → Small a → (little_at (answer_bytes a) 2 2 ≡ place_of a) × (little_at (answer_bytes a) 4 8 ≡ value_of a)
unfolding answer_bytes
answer_reads a h = (read_back 2 (place_of a) h.place, read_back 8 (value_of a) h.value)

-- as they do for every field
pub place-whole : (kind : ℕ) (s : List ℕ) → kind < 2 ^ 64 → length s < 2 ^ 64
    → let a = check_field kind s in
    (little_at (answer_bytes a) 2 2 ≡ place_of a) × (little_at (answer_bytes a) 4 8 ≡ value_of a)
place-whole kind s f h = answer_reads (check_field kind s) (field_small kind s f h)

-- a record whose numbers a verdict can hold
pub record Holds (e : RecordAt) : Type 0 where
  pub kind : e.kind < 2 ^ 16
  pub offset : e.offset < 2 ^ 64
  pub size : length e.value < 2 ^ 64

-- as it can those of a whole record at the start of a batch of bytes
pub holds : (s : List ℕ) (o k n : ℕ) → head_of s ≡ Record k n → Bytes s → o < 2 ^ 64 → Holds (record_at s o k n)
holds s o k n e b h =
    let w = whole s k n e in
    record { kind = omega (arith, w.kind, number-most s b 2 2); offset = h; size = omega (arith, w.legal, value_long s o k n e) }

pub record_reads : (e : RecordAt) (more : List ℕ) → Holds e
    → read_verdict (verdict_of e ++ more) ≡ saying e.kind e.offset (check_field e.kind e.value)
unfolding verdict_of
record_reads e more h =
    let a = check_field e.kind e.value in
    let f = field_small e.kind e.value (omega (arith, h.kind)) h.size in
    read-verdict e.kind e.offset a more h.kind h.offset f.place f.value
