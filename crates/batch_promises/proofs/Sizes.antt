-- The sizes of what a call did: bytes written and read, where it stopped, and that a call that pauses has judged a record.
use Prim.Native.Nat.{ℕ, ◌+◌, ◌*◌, ◌^◌, ◌≤◌, ◌<◌}
use mathlib.Core.Path.{◌≡◌, refl, ap, ◌∙◌}
use mathlib.Core.Bool.{Bool, true, false}
use mathlib.Core.List.{List}
use native.Mathlib.Omega.{arith}
use lib.Dec.{leb}
use lib.ListN.{length, drop, length-drop}
use borrow.Author.Tests.{leb-false}
use Rattle.record.specs.Head.{head_limit, head_of}
use Rattle.record.specs.Records.{records_of, sizes}
use Rattle.std.specs.Prelude.{Result}
use Rattle.record.specs.declared.Head.{Head}
use Rattle.record.specs.declared.NoRecord.{NoRecord}
use Rattle.verdict.specs.Verdict.{verdict_size}
use Rattle.batch.specs.Walk.{end_of, Outcome, stopped, call_of}
use Rattle.batch.specs.declared.Stop.{Stop}
use Rattle.batch.specs.declared.Stop.TheVariants.{Finished, Budget, Room, Cut, Offset, Long}
use Rattle.batch.proofs.Laws.{far}
use Rattle.batch_promises.specs.Count.{Why}
use Rattle.batch_promises.specs.GoingOn.{Sum, sum_of, pauses}
use Rattle.batch_promises.proofs.GoingOn.{did_call, did_all, within}
use Rattle.batch_promises.proofs.Promises.{counted}
use Rattle.batch_promises.proofs.Ends.{left}

-- the sizes of what a call did
pub record Sized (batch : List ℕ) (offset : ℕ) (out : List ℕ) (o : Outcome) : Type 0 where
  pub size : o.written ≡ verdict_size * o.judged
  pub room : o.written ≤ length out
  pub few : o.judged ≤ o.read
  pub inside : o.read ≤ length batch
  pub fits : offset < 2 ^ 64 → offset + o.read < 2 ^ 64
  pub none : o.stop ≡ Finished → o.read ≡ length batch
  pub short : o.stop ≡ Cut → length batch < o.read + (4 + head_limit)

sized_near : (batch : List ℕ) (offset : ℕ) (out : List ℕ) (b : ℕ) → offset + length batch < 2 ^ 64
    → Sized batch offset out (call_of batch offset out b)
sized_near batch offset out b h =
    let r = call_of batch offset out b in
    let t = counted batch offset out b h in
    let d = did_call batch offset out b h in
    let w = within batch offset (sum_of r) d.part in
    let ends : pauses r.stop ≡ false → end_of (head_of (drop r.read batch)) ≡ r.stop =
    λ p. let e = did_all batch offset (sum_of r) d p in rw (ap (λ (s : Sum). s.read) e, ap (λ (s : Sum). s.stop) e) in
    record {
      size = t.written;
      room = t.room;
      few = omega (arith, w.1);
      inside = w.0;
      fits = λ f. omega (arith, w.0);
      none = λ e. omega (arith, left (drop r.read batch) Finished (ends (ap pauses e) ∙ e), length-drop r.read batch, w.0);
      short = λ e. omega (arith, left (drop r.read batch) Cut (ends (ap pauses e) ∙ e), length-drop r.read batch, w.0);
    }

sized_far : (batch : List ℕ) (offset : ℕ) (out : List ℕ) → Sized batch offset out (stopped Offset out)
sized_far batch offset out =
    record {
      size = refl;
      room = omega arith;
      few = omega arith;
      inside = omega arith;
      fits = λ f. omega arith;
      none = λ e. let z : ◌≡◌ {A = ℕ} 0 1 = cc in absurd (omega arith);
      short = λ e. let z : ◌≡◌ {A = ℕ} 0 1 = cc in absurd (omega arith);
    }

pub sized : (batch : List ℕ) (offset : ℕ) (out : List ℕ) (b : ℕ) → Sized batch offset out (call_of batch offset out b)
sized batch offset out b = go (leb (2 ^ 64) (offset + length batch)) refl
  where
    go : (t : Bool) → leb (2 ^ 64) (offset + length batch) ≡ t → Sized batch offset out (call_of batch offset out b)
    go true e = rw (far batch offset out b e) (sized_far batch offset out)
    go false e = sized_near batch offset out b (leb-false (2 ^ 64) (offset + length batch) e)

-- a call that pauses has judged a record, where it has budget and room for one
why_goes : (s : Stop) (j n b w : ℕ) (out : List ℕ) (h : Result Head NoRecord) → Why s j n b w out h → w ≡ verdict_size * j → 0 < b → verdict_size ≤ length out
    → pauses s ≡ true → 0 < j
why_goes Finished j n b w out h y e f g p = let z : ◌≡◌ {A = ℕ} 0 1 = cc in absurd (omega arith)
why_goes Budget j n b w out h y e f g p = omega (arith, y)
why_goes Room j n b w out h y e f g p = omega (arith, y.1)
why_goes Cut j n b w out h y e f g p = let z : ◌≡◌ {A = ℕ} 0 1 = cc in absurd (omega arith)
why_goes Offset j n b w out h y e f g p = absurd y
why_goes Long j n b w out h y e f g p = let z : ◌≡◌ {A = ℕ} 0 1 = cc in absurd (omega arith)

pub goes : (batch : List ℕ) (offset : ℕ) (out : List ℕ) (b : ℕ) → 0 < b → verdict_size ≤ length out
    → pauses (call_of batch offset out b).stop ≡ true → 0 < (call_of batch offset out b).judged
goes batch offset out b f g p = go (leb (2 ^ 64) (offset + length batch)) refl
  where
    go : (t : Bool) → leb (2 ^ 64) (offset + length batch) ≡ t → 0 < (call_of batch offset out b).judged
    go true e =
        let q : false ≡ true = rw (far batch offset out b e) at p in
        let z : ◌≡◌ {A = ℕ} 0 1 = cc in absurd (omega arith)
    go false e =
        let r = call_of batch offset out b in
        let es = records_of batch offset in
        let t = counted batch offset out b (leb-false (2 ^ 64) (offset + length batch) e) in
        why_goes r.stop r.judged (length es) b r.written out (head_of (drop (sizes es) batch)) t.why t.written f g p
