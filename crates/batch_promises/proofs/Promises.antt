-- What is promised of a call: it judges the first of the whole records, at least one where it can; going on gives what one call gives; and no two records share an identity.
-- That nothing is lost in a verdict's bytes stands in Whole.antt.
use Prim.Native.Nat.{ℕ, ◌+◌, ◌^◌, ◌≤◌, ◌<◌}
use mathlib.Core.Path.{◌≡◌, refl, sym, ap, ◌∙◌}
use mathlib.Core.Bool.{Bool, true, false, cond}
use mathlib.Core.List.{List}
use native.Mathlib.Omega.{arith}
use lib.Dec.{leb, eqb}
use lib.ListN.{length, take, drop}
use borrow.Author.Tests.{leb-false}
use Rattle.record.specs.Head.{Record, head_of}
use Rattle.record.specs.Records.{RecordAt, records_of, offsets_of, Increasing}
use Rattle.record.specs.declared.Head.{Head}
use Rattle.verdict.specs.Verdict.{verdict_size, verdict}
use Rattle.batch.specs.Verdicts.{verdict_of}
use Rattle.batch.specs.Walk.{stop_number, call_of}
use Rattle.batch.specs.declared.Stop.{Stop}
use Rattle.batch.specs.declared.Stop.TheVariants.{Finished, Budget, Room, Cut, Offset, Long}
use Rattle.batch.proofs.Acts.{judges}
use Rattle.batch.proofs.Verdicts.{length-verdicts_of}
use Rattle.batch.proofs.Laws.{far, near, walk-judged}
use Rattle.batch_promises.specs.Count.{Counted}
use Rattle.batch_promises.specs.GoingOn.{sum_of, pauses, Call, go_on}
use Rattle.batch_promises.specs.Offsets.{offsets_in}
use Rattle.batch_promises.proofs.Count.{told}
use Rattle.batch_promises.proofs.GoingOn.{did_on, did_all, far_on, all_in_one, part_offsets, part_rises}

-- equal numbers mean equal stops
stop_at : ℕ → Stop
stop_at n =
    cond (eqb n 0) Finished
    (cond (eqb n 31) Budget
    (cond (eqb n 32) Room
    (cond (eqb n 33) Cut
    (cond (eqb n 34) Offset Long))))

back : (s : Stop) → stop_at (stop_number s) ≡ s
unfolding stop_at
back Finished = refl
back Budget = refl
back Room = refl
back Cut = refl
back Offset = refl
back Long = refl

pub equal_stops : (s t : Stop) → stop_number s ≡ stop_number t → s ≡ t
equal_stops s t e = sym (back s) ∙ ap stop_at e ∙ back t

-- a call judges the first of the batch's whole records, the verdict's bytes change for each, and no others
pub counted : (batch : List ℕ) (offset : ℕ) (out : List ℕ) (budget : ℕ) → offset + length batch < 2 ^ 64
    → Counted batch (records_of batch offset) out budget (call_of batch offset out budget)
counted batch offset out budget h = rw (near batch offset out budget h) (told budget batch offset out)

-- with a budget of 1 or more, a whole record of legal length and room for its verdict, at least one is judged
pub at_least_one : (batch : List ℕ) (offset : ℕ) (out : List ℕ) (budget k n : ℕ) → offset + length batch < 2 ^ 64
    → head_of batch ≡ Record k n → 0 < budget → verdict_size ≤ length out → 0 < (call_of batch offset out budget).judged
at_least_one batch offset out budget k n h e b r =
    let a : Head = record { kind = k; length = n } in
    rw (near batch offset out budget h, walk-judged budget batch offset out a (rw e (judges (length out) budget a r b))) (omega arith)

-- going on from bytes read after each 31 or 32, with the offset moved by as much, until another stop, gives in sum what one call with
-- enough room and budget gives
pub going_on : (cs : List Call) (c : Call) (batch : List ℕ) (offset : ℕ)
    → let s = go_on cs c batch offset in
    pauses s.stop ≡ false → (budget : ℕ) (out : List ℕ) → s.judged < budget → length s.bytes ≤ length out
    → sum_of (call_of batch offset out budget) ≡ s
going_on cs c batch offset p budget out f g = go (leb (2 ^ 64) (offset + length batch)) refl
  where
    go : (t : Bool) → leb (2 ^ 64) (offset + length batch) ≡ t → sum_of (call_of batch offset out budget) ≡ go_on cs c batch offset
    go true e = rw (far batch offset out budget e, far_on cs c batch offset e)
    go false e =
        let h = leb-false (2 ^ 64) (offset + length batch) e in
        let d = did_all batch offset (go_on cs c batch offset) (did_on cs c batch offset h) p in
        let l = length-verdicts_of (records_of batch offset) in
        all_in_one batch offset out budget h (omega (arith, f, ap (λ s. s.judged) d)) (omega (arith, g, l, ap (λ s. length s.bytes) d)) ∙ sym d

-- the offsets that calls write, one after another over one stream, are those of the records judged
pub written_offsets : (cs : List Call) (c : Call) (batch : List ℕ) (offset : ℕ) → offset + length batch < 2 ^ 64
    → let s = go_on cs c batch offset in
    offsets_in s.judged s.bytes ≡ offsets_of (take s.judged (records_of batch offset))
written_offsets cs c batch offset h = part_offsets batch offset (go_on cs c batch offset) (did_on cs c batch offset h).part h

-- and strictly increasing, wherever the run is resumed: no two records share an identity
pub identity : (cs : List Call) (c : Call) (batch : List ℕ) (offset : ℕ)
    → let s = go_on cs c batch offset in
    Increasing (offsets_in s.judged s.bytes)
unfolding offsets_in
identity cs c batch offset = go (leb (2 ^ 64) (offset + length batch)) refl
  where
    go : (t : Bool) → leb (2 ^ 64) (offset + length batch) ≡ t
        → Increasing (offsets_in (go_on cs c batch offset).judged (go_on cs c batch offset).bytes)
    go true e = rw (far_on cs c batch offset e) (λ i j f g. absurd (omega arith))
    go false e =
        let h = leb-false (2 ^ 64) (offset + length batch) e in
        part_rises batch offset (go_on cs c batch offset) (did_on cs c batch offset h).part h

-- a record's verdict but its offset, which stands in bytes 4 to 11, depends on its kind and value alone
pub offset_alone : (e f : RecordAt) → e.kind ≡ f.kind → e.value ≡ f.value
    → (take 4 (verdict_of e) ≡ take 4 (verdict_of f)) × (drop 12 (verdict_of e) ≡ drop 12 (verdict_of f))
unfolding verdict_of verdict
offset_alone e f p q = (rw p, rw (p, q))
