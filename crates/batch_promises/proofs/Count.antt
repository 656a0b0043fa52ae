-- The walk judges the first of the batch's whole records, as many as budget and room allow, and writes their verdicts one after another.
use Prim.Native.Nat.{ℕ, zero, suc, ◌+◌, ◌≤◌}
use mathlib.Core.Path.{◌≡◌, refl, sym, ap, ◌∙◌}
use mathlib.Core.Bool.{Bool, true, false}
use mathlib.Core.List.{List, ◌∷◌, ◌++◌, append_assoc}
use native.Mathlib.Omega.{arith}
use native.Mathlib.Numerals.{sub-one}
use lib.ListN.{length, take, drop, length-drop}
use lib.Seq.{drop-drop}
use Rattle.record.specs.Head.{Record, head_of}
use Rattle.record.specs.Records.{RecordAt, record_at, records_of, sizes}
use Rattle.std.specs.Prelude.{Result, Ok, Err}
use Rattle.record.specs.declared.Head.{Head}
use Rattle.record.specs.declared.NoRecord.{NoRecord}
use Rattle.record.proofs.Heads.{stands}
use Rattle.record.proofs.Records.{Walks, none, one, walks, first, size, sizes-none}
use Rattle.verdict.specs.Verdict.{verdict_size}
use Rattle.batch.specs.Verdicts.{verdict_of}
use Rattle.batch.specs.Walk.{next_of, Outcome, stopped, ahead, walk}
use Rattle.batch.specs.declared.Stop.{Stop}
use Rattle.batch.specs.declared.Stop.TheVariants.{Finished, Budget, Room, Cut, Offset, Long}
use Rattle.batch.proofs.Acts.{Stopping, stopping, judged}
use Rattle.batch.proofs.Verdicts.{verdicts_of-none, verdicts_of-more}
use Rattle.batch.proofs.Laws.{walk-stop, walk-judged}
use Rattle.batch_promises.specs.Count.{Why, Counted}

never : (b : Bool) → b ≡ false → b ≡ true → ⊥
never b p q = let z : true ≡ false = sym q ∙ p in let y : ◌≡◌ {A = ℕ} 0 1 = cc in omega arith

-- where a call stops at once
why-stop : {batch : List ℕ} {o : ℕ} {es : List RecordAt} → Walks batch o es → (out : List ℕ) (b : ℕ) (s : Stop)
    → Stopping (head_of batch) (length out) b s → Why s 0 (length es) b 0 out (head_of (drop (sizes es) batch))
why-stop (none h) out b Finished p = (refl, rw sizes-none p.1)
why-stop (none h) out b Budget p = sym p
why-stop (none h) out b Room p = absurd (never _ h p.0)
why-stop (none h) out b Cut p = (refl, rw sizes-none p.1)
why-stop (none h) out b Offset p = p
why-stop (none h) out b Long p = (refl, rw sizes-none p.1)
why-stop (one k n es e w) out b Finished p = absurd (never _ p.0 (ap stands e))
why-stop (one k n es e w) out b Budget p = sym p
why-stop (one k n es e w) out b Room p = (omega arith, omega (arith, p.1))
why-stop (one k n es e w) out b Cut p = absurd (never _ p.0 (ap stands e))
why-stop (one k n es e w) out b Offset p = p
why-stop (one k n es e w) out b Long p = absurd (never _ p.0 (ap stands e))

-- with one record more before it
why-more : (s : Stop) (j n b w : ℕ) (out : List ℕ) (h : Result Head NoRecord) → verdict_size ≤ length out → Why s j n b w (drop verdict_size out) h
    → Why s (suc j) (suc n) (suc b) (verdict_size + w) out h
why-more Finished j n b w out h f p = (omega (arith, p.0), p.1)
why-more Budget j n b w out h f p = omega (arith, p)
why-more Room j n b w out h f p = (omega (arith, p.0), omega (arith, p.1, length-drop verdict_size out))
why-more Cut j n b w out h f p = (omega (arith, p.0), p.1)
why-more Offset j n b w out h f p = p
why-more Long j n b w out h f p = (omega (arith, p.0), p.1)

told_stop : (batch : List ℕ) (o : ℕ) (out : List ℕ) (b : ℕ) (s : Stop) → next_of (head_of batch) (length out) b ≡ Err s
    → Counted batch (records_of batch o) out b (stopped s out)
told_stop batch o out b s e =
    record {
      most = omega arith;
      within = omega arith;
      written = omega arith;
      room = omega arith;
      read = sym sizes-none;
      bytes = rw verdicts_of-none;
      why = why-stop (walks batch o) out b s (stopping (head_of batch) (length out) b s e);
    }

told_judged : (batch : List ℕ) (o : ℕ) (es : List RecordAt) (out : List ℕ) (b k n : ℕ) (r : Outcome) → head_of batch ≡ Record k n → verdict_size ≤ length out
    → Counted (drop (4 + n) batch) es (drop verdict_size out) b r
    → Counted batch (record_at batch o k n ∷ es) out (suc b) (ahead 1 (4 + n) verdict_size (verdict_of (record_at batch o k n)) r)
told_judged batch o es out b k n r e f t =
    let q : 1 + r.judged ≡ suc r.judged = omega arith in
    record {
      most = omega (arith, t.most);
      within = omega (arith, t.within);
      written = omega (arith, t.written);
      room = omega (arith, t.room, length-drop verdict_size out);
      read = rw (q, size batch o k n (take r.judged es) e, t.read);
      bytes = rw (q, verdicts_of-more) (ap (λ (l : List ℕ). verdict_of (record_at batch o k n) ++ l) t.bytes ∙ simp (append_assoc, drop-drop));
      why = rw (q, size batch o k n es e, ← drop-drop (sizes es) (4 + n) batch)
          (why-more r.stop r.judged (length es) b r.written out _ f t.why);
    }

pub told : (b : ℕ) (batch : List ℕ) (o : ℕ) (out : List ℕ) → Counted batch (records_of batch o) out b (walk b batch o out)
told zero batch o out = go (next_of (head_of batch) (length out) 0) refl
  where
    go : (t : Result Head Stop) → next_of (head_of batch) (length out) 0 ≡ t → Counted batch (records_of batch o) out 0 (walk 0 batch o out)
    go (Err s) e = rw (walk-stop 0 batch o out s e) (told_stop batch o out 0 s e)
    go (Ok a) e = absurd (omega (arith, (judged (head_of batch) (length out) 0 a e).left))
told (suc b) batch o out =
    go (next_of (head_of batch) (length out) (suc b)) refl (λ n. told b (drop (4 + n) batch) (o + (4 + n)) (drop verdict_size out))
  where
    go : (t : Result Head Stop) → next_of (head_of batch) (length out) (suc b) ≡ t
        → ((n : ℕ) → Counted (drop (4 + n) batch) (records_of (drop (4 + n) batch) (o + (4 + n))) (drop verdict_size out) b
        (walk b (drop (4 + n) batch) (o + (4 + n)) (drop verdict_size out)))
        → Counted batch (records_of batch o) out (suc b) (walk (suc b) batch o out)
    go (Err s) e ih = rw (walk-stop (suc b) batch o out s e) (told_stop batch o out (suc b) s e)
    go (Ok a) e ih =
        let k = a.kind in
        let n = a.length in
        let h = judged (head_of batch) (length out) (suc b) a e in
        rw (walk-judged (suc b) batch o out a e, sub-one, first batch o k n h.head)
        (told_judged batch o (records_of (drop (4 + n) batch) (o + (4 + n))) out b k n
        (walk b (drop (4 + n) batch) (o + (4 + n)) (drop verdict_size out)) h.head h.space (ih n))
