-- Laws of the walk that the proofs of the code cite: one turn of it, the value of a record at a place, and the loop's invariant.
use Prim.Native.Nat.{ℕ, zero, suc, ◌+◌, ◌-◌, ◌^◌, ◌≤◌, ◌<◌}
use mathlib.Core.Path.{◌≡◌, refl, sym, ap, ◌∙◌}
use mathlib.Core.Bool.{true}
use mathlib.Core.List.{List, ◌++◌, append_assoc}
use native.Mathlib.Omega.{arith}
use native.Mathlib.Nat.{add-zero, zero-add, sub-zero, add_assoc, sub-add-eq}
use native.Mathlib.Numerals.{sub-one}
use lib.Dec.{leb}
use lib.ListN.{length, take, drop, length-drop, length-append}
use lib.Seq.{drop-drop, take_at, drop_at, length-take-le}
use borrow.Author.Tests.{lt-leb}
use Rattle.std.specs.Prelude.{Result, Ok, Err}
use Rattle.record.specs.Head.{head_of}
use Rattle.record.specs.Records.{record_at}
use Rattle.record.specs.declared.Head.{Head}
use Rattle.record.proofs.Heads.{whole}
use Rattle.record.proofs.Parts.{to_end, put_back}
use Rattle.verdict.specs.Verdict.{verdict_size}
use Rattle.batch.specs.Verdicts.{verdict_of}
use Rattle.batch.specs.Walk.{next_of, stopped, ahead, walk, call_of}
use Rattle.batch.specs.Inner.{act_out}
use Rattle.batch.specs.declared.Stop.{Stop}
use Rattle.batch.specs.declared.Stop.TheVariants.{Offset}
use Rattle.batch.proofs.Acts.{Judged, judged}
use Rattle.batch.proofs.Verdicts.{length-verdict_of}

pub walk-stop : (b : ℕ) (batch : List ℕ) (offset : ℕ) (out : List ℕ) (s : Stop)
    → next_of (head_of batch) (length out) b ≡ Err s → walk b batch offset out ≡ stopped s out
unfolding walk
walk-stop zero batch offset out s e = simp e
walk-stop (suc b) batch offset out s e = simp e

pub walk-judged : (b : ℕ) (batch : List ℕ) (offset : ℕ) (out : List ℕ) (a : Head)
    → next_of (head_of batch) (length out) b ≡ Ok a
    → walk b batch offset out
    ≡ ahead 1 (4 + a.length) verdict_size (verdict_of (record_at batch offset a.kind a.length))
    (walk (b - 1) (drop (4 + a.length) batch) (offset + (4 + a.length)) (drop verdict_size out))
unfolding walk
walk-judged zero batch offset out a e = absurd (omega (arith, (judged (head_of batch) (length out) 0 a e).left))
walk-judged (suc b) batch offset out a e = simp (e, sub-one)

-- a call where offset and length come to 2^64, and where they do not
pub far : (batch : List ℕ) (offset : ℕ) (out : List ℕ) (b : ℕ) → leb (2 ^ 64) (offset + length batch) ≡ true → call_of batch offset out b ≡ stopped Offset out
unfolding call_of
far batch offset out b h = simp h

pub near : (batch : List ℕ) (offset : ℕ) (out : List ℕ) (b : ℕ) → offset + length batch < 2 ^ 64 → call_of batch offset out b ≡ walk b batch offset out
unfolding call_of
near batch offset out b h = simp (lt-leb (2 ^ 64) (offset + length batch) h)

-- the loop's invariant: what the whole walk gives is what is done so far, and then the walk on what is left
pub record Going (batch : List ℕ) (offset : ℕ) (out₀ : List ℕ) (budget : ℕ) (out : List ℕ) (done at w : ℕ) : Type 0 where
  pub spent : done ≤ budget
  pub inside : at ≤ length batch
  pub room : w ≤ length out
  pub same : length out ≡ length out₀
  pub rest : walk budget batch offset out₀
      ≡ ahead done at w (take w out) (walk (budget - done) (drop at batch) (offset + at) (drop w out))

pub start : (batch : List ℕ) (offset : ℕ) (out : List ℕ) (budget : ℕ) → Going batch offset out budget out 0 0 0
start batch offset out budget =
    record { spent = omega arith; inside = omega arith; room = omega arith; same = refl; rest = simp (zero-add, add-zero, sub-zero) }

-- one turn of the loop, from what `judge_next` ensures of its result and of the part of the output that it was lent
module _ {batch : List ℕ} {offset : ℕ} {out₀ : List ℕ} {budget : ℕ} {out : List ℕ} {done at w : ℕ} {r : Result Head Stop} {new : List ℕ}
    (g : Going batch offset out₀ budget out done at w)
    (v : r ≡ next_of (head_of (take (length batch - at) (drop at batch))) (length (take (length out - w) (drop w out))) (budget - done))
    (o : new ≡ act_out r (take (length batch - at) (drop at batch)) (offset + at) (take (length out - w) (drop w out))) where
  -- the output once that part is back
  abbrev last : List ℕ
  last = take w out ++ (new ++ drop (length out - w) (drop w out))

  told : next_of (head_of (drop at batch)) (length (drop w out)) (budget - done) ≡ r
  told = sym (simp to_end at v)

  back : last ≡ take w out ++ act_out r (drop at batch) (offset + at) (drop w out)
  back = put_back w out new _ (simp to_end at o)

  pub stop : {s : Stop} → r ≡ Err s → walk budget batch offset out₀ ≡ record { stop = s; judged = done; read = at; written = w; out = last }
  stop {s} e =
      g.rest ∙ ap (ahead done at w (take w out)) (walk-stop (budget - done) (drop at batch) (offset + at) (drop w out) s (told ∙ e))
      ∙ simp (back, e, add-zero)

  may : {a : Head} → r ≡ Ok a → Judged (head_of (drop at batch)) (length (drop w out)) (budget - done) a
  may e = judged _ _ _ _ (told ∙ e)

  -- a turn that judges had budget left, and its record lies in the batch
  pub spare : {a : Head} → r ≡ Ok a → done < budget
  spare e = omega (arith, (may e).left)

  pub reach : {a : Head} → r ≡ Ok a → at + (4 + a.length) ≤ length batch
  reach e = omega (arith, (whole _ _ _ (may e).head).fits, length-drop at batch, g.inside)

  pub again : {a : Head} → r ≡ Ok a → Going batch offset out₀ budget last (done + 1) (at + (4 + a.length)) (w + verdict_size)
  again {a} e =
      let k = a.kind in
      let n = a.length in
      let h = may e in
      let f = reach e in
      let v : List ℕ = verdict_of (record_at (drop at batch) (offset + at) k n) in
      let d : List ℕ = drop verdict_size (drop w out) in
      let p : List ℕ = take w out ++ v in
      let lp : length p ≡ w + verdict_size =
      omega (arith, length-append (take w out) v, length-take-le w out g.room, length-verdict_of (record_at (drop at batch) (offset + at) k n)) in
      let o : last ≡ p ++ d = back ∙ simp (e, append_assoc) in
      let ft : take (w + verdict_size) last ≡ p = ap (take (w + verdict_size)) o ∙ take_at p d (w + verdict_size) lp in
      let fd : drop (w + verdict_size) last ≡ d = ap (drop (w + verdict_size)) o ∙ drop_at p d (w + verdict_size) lp in
      let lo : length last ≡ length p + length d = ap length o ∙ length-append p d in
      record {
        spent = omega arith;
        inside = omega (arith, length-drop at batch);
        room = omega arith;
        same = omega (arith, length-drop w out, length-drop verdict_size (drop w out), g.same);
        rest = g.rest ∙ ap (ahead done at w (take w out)) (walk-judged (budget - done) (drop at batch) (offset + at) (drop w out) a (told ∙ e))
            ∙ rw (ft, fd) (simp (add_assoc, append_assoc, drop-drop, sub-add-eq));
      }
