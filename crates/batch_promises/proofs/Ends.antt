-- What stands where the whole records of a batch end, by the stop there; and that a length above the limit ends them whatever bytes follow.
use Prim.Native.Nat.{ℕ, ◌+◌, ◌≤◌, ◌<◌}
use mathlib.Core.Path.{◌≡◌, refl, sym, ap, subst, ◌∙◌}
use mathlib.Core.Bool.{true}
use mathlib.Core.List.{List, [], ◌++◌, append-nil}
use native.Mathlib.Omega.{arith}
use lib.ListN.{length, drop}
use lib.Seq.{drop-append-le}
use Rattle.record.specs.Head.{head_limit, head_of}
use Rattle.record.specs.Records.{records_of, sizes}
use Rattle.std.specs.Prelude.{Result, Ok, Err}
use Rattle.record.specs.declared.Head.{Head}
use Rattle.record.specs.declared.NoRecord.{NoRecord}
use Rattle.record.specs.declared.NoRecord.TheVariants.{End, Short, TooLong, CutShort}
use Rattle.record.proofs.Heads.{says, long_on, stands}
use Rattle.record.proofs.Records.{walks, none, unique, append}
use Rattle.batch.specs.Verdicts.{verdicts_of}
use Rattle.batch.specs.Walk.{end_of}
use Rattle.batch.specs.declared.Stop.{Stop}
use Rattle.batch.specs.declared.Stop.TheVariants.{Finished, Budget, Room, Cut, Offset, Long}
use Rattle.batch_promises.specs.GoingOn.{Sum, pauses, all_of}
use Rattle.batch_promises.proofs.GoingOn.{Did, did_all, within}

-- no bytes; fewer than the longest record has; a length above the limit
abbrev pub Left : Stop → List ℕ → Type 0
Left Finished s = length s ≡ 0
Left Budget s = ⊥
Left Room s = stands (head_of s) ≡ true
Left Cut s = length s < 4 + head_limit
Left Offset s = ⊥
Left Long s = head_of s ≡ Err TooLong

by_head : (s : List ℕ) (h : Result Head NoRecord) → head_of s ≡ h → Left (end_of h) s
by_head s (Err End) e = says s (Err End) e
by_head s (Err Short) e = let w = says s (Err Short) e in omega (arith, w.1)
by_head s (Err TooLong) e = e
by_head s (Err CutShort) e = let w = says s (Err CutShort) e in omega (arith, w.1, w.2)
by_head s (Ok a) e = ap stands e

pub left : (s : List ℕ) (y : Stop) → end_of (head_of s) ≡ y → Left y s
left s y e = subst (λ (x : Stop). Left x s) e (by_head s (head_of s) refl)

-- calls that end at stop 35 are right however the input goes on
module _ (all : List ℕ) (offset : ℕ) (s : Sum) (d : Did all offset s) (e : s.stop ≡ Long) (rest : List ℕ) where
  all_of_lem : s ≡ all_of all offset
  all_of_lem = did_all all offset s d (ap pauses e)

  stop_is : end_of (head_of (drop (sizes (records_of all offset)) all)) ≡ Long
  stop_is = (d.ends (ap pauses e)).1 ∙ e

  long_there : head_of (drop (sizes (records_of all offset)) all ++ rest) ≡ Err TooLong
  long_there = long_on (drop (sizes (records_of all offset)) all) rest (left _ Long stop_is)

  same-records : records_of (all ++ rest) offset ≡ records_of all offset
  same-records = unique (append (walks all offset) rest [] (none (ap stands long_there))) ∙ append-nil (records_of all offset)

  pub long_all : all_of (all ++ rest) offset ≡ s
  long_all =
      let es = records_of all offset in
      let inside : sizes es ≤ length all = omega (arith, (within all offset s d.part).0, ap (λ (x : Sum). x.read) all_of_lem) in
      rw (same-records, drop-append-le (sizes es) all rest inside, long_there)
      (ap (λ (x : Stop). record { stop = x; judged = length es; read = sizes es; bytes = verdicts_of es }) (sym stop_is) ∙ sym all_of_lem)
