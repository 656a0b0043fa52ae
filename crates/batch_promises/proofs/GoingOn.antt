-- Calls one after another judge the batch's whole records in turn: whatever their budgets and rooms, in sum they give the verdicts of the first of them.
use Prim.Native.Nat.{ℕ, ◌+◌, ◌*◌, ◌^◌, ◌≤◌, ◌<◌}
use mathlib.Core.Path.{◌≡◌, refl, sym, ap, ◌∙◌}
use mathlib.Core.Bool.{Bool, true, false, cond}
use mathlib.Core.List.{List, [], ◌∷◌, ◌++◌}
use native.Mathlib.Omega.{arith}
use lib.Dec.{leb}
use lib.ListN.{length, take, drop, length-drop, length-append, take-append-drop}
use lib.Seq.{drop-drop, take_at, take-add, take-length, take-append-le, length-take-le}
use Rattle.record.specs.Head.{head_of}
use Rattle.record.specs.Records.{records_of, sizes, offsets_of, Increasing}
use Rattle.std.specs.Prelude.{Result}
use Rattle.record.specs.declared.Head.{Head}
use Rattle.record.specs.declared.NoRecord.{NoRecord}
use Rattle.record.proofs.Records.{walks, unique, rest, append, inside, increasing, rising, sizes-none, sizes-least, sizes-append}
use Rattle.verdict.specs.Verdict.{verdict_size}
use Rattle.batch.specs.Verdicts.{verdicts_of}
use Rattle.batch.specs.Walk.{end_of, Outcome, walk, call_of}
use Rattle.batch.specs.declared.Stop.{Stop}
use Rattle.batch.specs.declared.Stop.TheVariants.{Finished, Budget, Room, Cut, Offset, Long}
use Rattle.batch.proofs.Verdicts.{length-verdicts_of, verdicts_of-none, verdicts_of-append}
use Rattle.batch.proofs.Laws.{far, near}
use Rattle.batch_promises.specs.Count.{Why, Counted}
use Rattle.batch_promises.specs.GoingOn.{Sum, sum_of, plus, pauses, all_of, Call, go_on}
use Rattle.batch_promises.specs.Offsets.{offsets_in}
use Rattle.batch_promises.proofs.Offsets.{offsets_read}
use Rattle.batch_promises.proofs.Count.{told}

-- what calls did in sum: the first of the batch's records
pub record Part (batch : List ℕ) (offset : ℕ) (s : Sum) : Type 0 where
  pub most : s.judged ≤ length (records_of batch offset)
  pub read : s.read ≡ sizes (take s.judged (records_of batch offset))
  pub bytes : s.bytes ≡ verdicts_of (take s.judged (records_of batch offset))

-- and all of them where the last call does not pause
pub record Did (batch : List ℕ) (offset : ℕ) (s : Sum) : Type 0 where
  pub part : Part batch offset s
  pub ends : pauses s.stop ≡ false
      → (s.judged ≡ length (records_of batch offset)) × (end_of (head_of (drop (sizes (records_of batch offset)) batch)) ≡ s.stop)

-- before the first call nothing is done
pub nothing_done : (batch : List ℕ) (offset : ℕ) (y : Stop) → Part batch offset (record { stop = y; judged = 0; read = 0; bytes = [] })
nothing_done batch offset y = record { most = omega arith; read = sym sizes-none; bytes = sym verdicts_of-none }

no : {A : Type 0} → true ≡ false → A
no e = let z : ◌≡◌ {A = ℕ} 0 1 = cc in absurd (omega arith)

-- a stop that does not pause is the one where the records end
all-judged : (s : Stop) (j n b w : ℕ) (out : List ℕ) (h : Result Head NoRecord) → Why s j n b w out h → pauses s ≡ false → (j ≡ n) × (end_of h ≡ s)
all-judged Finished j n b w out h y p = y
all-judged Budget j n b w out h y p = no p
all-judged Room j n b w out h y p = no p
all-judged Cut j n b w out h y p = y
all-judged Offset j n b w out h y p = absurd y
all-judged Long j n b w out h y p = y

pub did : (batch : List ℕ) (offset : ℕ) (out : List ℕ) (b : ℕ) (r : Outcome) → Counted batch (records_of batch offset) out b r → Did batch offset (sum_of r)
did batch offset out b r t =
    let es = records_of batch offset in
    let v = verdicts_of (take r.judged es) in
    let l : length v ≡ r.written =
    omega (arith, length-verdicts_of (take r.judged es), length-take-le r.judged es t.most, t.written) in
    record {
      part =
          record {
            most = t.most;
            read = t.read;
            bytes = ap (take r.written) t.bytes ∙ take_at v (drop r.written out) r.written l;
          };
      ends = all-judged r.stop r.judged (length es) b r.written out (head_of (drop (sizes es) batch)) t.why;
    }

-- what is read lies in the batch, and each record has a head of four bytes
pub within : (batch : List ℕ) (offset : ℕ) (s : Sum) → Part batch offset s → (s.read ≤ length batch) × (4 * s.judged ≤ s.read)
within batch offset s p =
    let es = records_of batch offset in (
      rw p.read (inside (walks batch offset) s.judged),
      omega (arith, p.read, sizes-least (take s.judged es), length-take-le s.judged es p.most),
    )

-- the bytes of what was done are a verdict's for each record judged
pub part_bytes : (all : List ℕ) (offset : ℕ) (s : Sum) → Part all offset s → length s.bytes ≡ verdict_size * s.judged
part_bytes all offset s p =
    let es = records_of all offset in
    omega (arith, ap length p.bytes, length-verdicts_of (take s.judged es), length-take-le s.judged es p.most)

-- the offsets that their verdicts hold are the records', each below every later one
module _ (batch : List ℕ) (offset : ℕ) (s : Sum) (p : Part batch offset s) (h : offset + length batch < 2 ^ 64) where
  pub part_offsets : offsets_in s.judged s.bytes ≡ offsets_of (take s.judged (records_of batch offset))
  part_offsets = rw p.bytes (offsets_read (walks batch offset) h s.judged p.most)

  pub part_rises : Increasing (offsets_in s.judged s.bytes)
  part_rises = rw part_offsets (increasing (rising (walks batch offset) s.judged))

-- the records of a batch stay the first where more bytes follow it
pub part_longer : (batch : List ℕ) (offset : ℕ) (s : Sum) → Part batch offset s → (more : List ℕ) → Part (batch ++ more) offset s
part_longer batch offset s p more =
    let es = records_of batch offset in
    let fs = records_of (drop (sizes es) batch ++ more) (offset + sizes es) in
    let e : records_of (batch ++ more) offset ≡ es ++ fs =
    unique (append (walks batch offset) more fs (walks (drop (sizes es) batch ++ more) (offset + sizes es))) in
    let t : take s.judged (es ++ fs) ≡ take s.judged es = take-append-le s.judged es fs p.most in
    record {
      most = rw e (omega (arith, p.most, length-append es fs));
      read = rw (e, t) p.read;
      bytes = rw (e, t) p.bytes;
    }

-- calls, and then others from the bytes read on
module _ (batch : List ℕ) (offset : ℕ) (r s : Sum) (d : Part batch offset r) where
  next-records : records_of (drop r.read batch) (offset + r.read) ≡ drop r.judged (records_of batch offset)
  next-records = rw d.read (unique (rest (walks batch offset) r.judged d.most))

  pub part-plus : Part (drop r.read batch) (offset + r.read) s → Part batch offset (plus r s)
  part-plus f =
      let es = records_of batch offset in
      let a = take-add r.judged s.judged es in
      record {
        most = omega (arith, ap length next-records, length-drop r.judged es, f.most, d.most);
        read = rw (a, sizes-append, ← d.read, f.read, next-records);
        bytes = rw (a, verdicts_of-append, ← d.bytes, f.bytes, next-records);
      }

  pub did_plus : Did (drop r.read batch) (offset + r.read) s → Did batch offset (plus r s)
  did_plus f =
      let es = records_of batch offset in
      let j = r.judged in
      let z : sizes es ≡ r.read + sizes (drop j es) =
      ap sizes (sym (take-append-drop j es)) ∙ sizes-append (take j es) (drop j es) ∙ rw d.read in
      record {
        part = part-plus f.part;
        ends = λ p.
            let g = f.ends p in
            (omega (arith, g.0, ap length next-records, length-drop j es, d.most), rw (z, ← drop-drop (sizes (drop j es)) r.read batch, ← next-records) g.1);
      }

-- calls that end give what one call over all the records gives
pub did_all : (batch : List ℕ) (offset : ℕ) (s : Sum) → Did batch offset s → pauses s.stop ≡ false → s ≡ all_of batch offset
did_all batch offset s d p =
    let es = records_of batch offset in
    let g = d.ends p in
    let t : take s.judged es ≡ es = rw g.0 (take-length es) in
    rw (g.1, ← g.0, ap sizes (sym t) ∙ sym d.part.read, ap verdicts_of (sym t) ∙ sym d.part.bytes)

-- calls one after another
pub did_call : (batch : List ℕ) (offset : ℕ) (out : List ℕ) (b : ℕ) → offset + length batch < 2 ^ 64 → Did batch offset (sum_of (call_of batch offset out b))
did_call batch offset out b h = rw (near batch offset out b h) (did batch offset out b (walk b batch offset out) (told b batch offset out))

either_way : (t : Bool) (batch : List ℕ) (offset : ℕ) (r g : Sum) → Did batch offset r → Did (drop r.read batch) (offset + r.read) g
    → Did batch offset (cond t (plus r g) r)
either_way true batch offset r g d f = did_plus batch offset r g d.part f
either_way false batch offset r g d f = d

pub did_on : (cs : List Call) (c : Call) (batch : List ℕ) (offset : ℕ) → offset + length batch < 2 ^ 64 → Did batch offset (go_on cs c batch offset)
unfolding go_on
did_on [] c batch offset h = did_call batch offset c.out c.budget h
did_on (d ∷ cs) c batch offset h =
    let r = call_of batch offset c.out c.budget in
    let f = did_call batch offset c.out c.budget h in
    either_way (pauses r.stop) batch offset (sum_of r) (go_on cs d (drop r.read batch) (offset + r.read)) f
    (did_on cs d (drop r.read batch) (offset + r.read) (omega (arith, (within batch offset (sum_of r) f.part).0, length-drop r.read batch)))

-- where offset and length come to 2^64 no call does anything
pub far_on : (cs : List Call) (c : Call) (batch : List ℕ) (offset : ℕ) → leb (2 ^ 64) (offset + length batch) ≡ true
    → go_on cs c batch offset ≡ record { stop = Offset; judged = 0; read = 0; bytes = [] }
unfolding go_on
far_on [] c batch offset h = simp (far batch offset c.out c.budget h)
far_on (d ∷ cs) c batch offset h = simp (far batch offset c.out c.budget h)

-- one call with budget and room for every record does not pause
enough : (s : Stop) (j n b w : ℕ) (out : List ℕ) (h : Result Head NoRecord) → Why s j n b w out h → w ≡ verdict_size * j → n < b → verdict_size * n ≤ length out → j ≤ n
    → pauses s ≡ false
enough Finished j n b w out h y e f g i = refl
enough Budget j n b w out h y e f g i = absurd (omega (arith, y))
enough Room j n b w out h y e f g i = absurd (omega (arith, y.0, y.1))
enough Cut j n b w out h y e f g i = refl
enough Offset j n b w out h y e f g i = refl
enough Long j n b w out h y e f g i = refl

pub all_in_one : (batch : List ℕ) (offset : ℕ) (out : List ℕ) (b : ℕ) → offset + length batch < 2 ^ 64
    → length (records_of batch offset) < b → verdict_size * length (records_of batch offset) ≤ length out
    → sum_of (call_of batch offset out b) ≡ all_of batch offset
all_in_one batch offset out b h f g =
    let r = walk b batch offset out in
    let t = told b batch offset out in
    let es = records_of batch offset in
    let p = enough r.stop r.judged (length es) b r.written out (head_of (drop (sizes es) batch)) t.why t.written f g t.most in
    rw (near batch offset out b h) (did_all batch offset (sum_of r) (did batch offset out b r t) p)
