-- However the input is cut into reads and calls, what is done in sum is the first of the input's records, and the text is their lines.
use Prim.Native.Nat.{ℕ, ◌+◌, ◌^◌, ◌<◌}
use mathlib.Core.Path.{◌≡◌, refl, sym, ap, subst, ◌∙◌}
use mathlib.Core.List.{List, [], ◌∷◌, ◌++◌, append_assoc, append-nil}
use native.Mathlib.Nat.{add-zero}
use native.Mathlib.Omega.{arith}
use lib.ListN.{length, drop, length-append, length-drop}
use lib.Seq.{drop-append-le, drop-drop}
use Rattle.batch.specs.Walk.{call_of}
use Rattle.batch_promises.specs.GoingOn.{sum_of, Call}
use Rattle.batch_promises.proofs.GoingOn.{Part, Did, nothing_done, part_bytes, part_longer, did_plus, did_call, within}
use Rattle.report.specs.Text.{verdict_lines}
use Rattle.report.proofs.Texts.{text-append}
use Rattle.turn.specs.Turn.{call_lines}
use Rattle.turn_promises.specs.Stream.{Event, more, call, Stream, started, taken, called, feed, input}

-- the state after some events, by all that came in
pub record Fed (offset : ℕ) (all : List ℕ) (s : Stream) : Type 0 where
  pub place : s.offset ≡ offset + s.done.read
  pub rest : s.held ≡ drop s.done.read all
  pub lines : s.text ≡ verdict_lines s.done.judged s.done.bytes
  pub part : Part all offset s.done

pub fed_start : (offset : ℕ) → Fed offset [] (started offset)
unfolding verdict_lines
fed_start offset = record { place = sym (add-zero offset); rest = refl; lines = refl; part = nothing_done [] offset (started offset).done.stop }

fed_more : (offset : ℕ) (all b : List ℕ) (s : Stream) → Fed offset all s → Fed offset (all ++ b) (taken b s)
fed_more offset all b s f =
    record {
      place = f.place;
      rest = rw f.rest (sym (drop-append-le s.done.read all b (within all offset s.done f.part).0));
      lines = f.lines;
      part = part_longer all offset s.done f.part b;
    }

-- one call more: its records follow, and all are judged where it does not pause
fed_call : (offset : ℕ) (all : List ℕ) (s : Stream) (c : Call) → offset + length all < 2 ^ 64 → Fed offset all s
    → Fed offset all (called c s) × Did all offset (called c s).done
fed_call offset all s c h f =
    let d = s.done in
    let r = call_of s.held s.offset c.out c.budget in
    let w = (within all offset d f.part).0 in
    let l : s.offset + length s.held < 2 ^ 64 = omega (arith, f.place, ap length f.rest, length-drop d.read all, w) in
    let e : Did (drop d.read all) (offset + d.read) (sum_of r) =
    subst (λ (b : List ℕ). Did b (offset + d.read) (sum_of r)) f.rest
    (subst (λ (o : ℕ). Did s.held o (sum_of r)) f.place (did_call s.held s.offset c.out c.budget l)) in
    let g = did_plus all offset d (sum_of r) f.part e in (
      record {
        place = omega (arith, f.place);
        rest = ap (drop r.read) f.rest ∙ drop-drop r.read d.read all;
        lines = ap (λ (t : List ℕ). t ++ call_lines r) f.lines ∙ sym (text-append d.judged r.judged d.bytes (sum_of r).bytes (part_bytes all offset d f.part));
        part = g.part;
      },
      g,
    )

pub fed : (offset : ℕ) (es : List Event) (all : List ℕ) (s : Stream) → offset + length (all ++ input es) < 2 ^ 64 → Fed offset all s
    → Fed offset (all ++ input es) (feed es s)
unfolding feed input
fed offset [] all s h f = rw append-nil f
fed offset (more b ∷ es) all s h f =
    rw append_assoc at (fed offset es (all ++ b) (taken b s) (rw append_assoc h) (fed_more offset all b s f))
fed offset (call c ∷ es) all s h f =
    fed offset es all (called c s) h (fed_call offset all s c (omega (arith, length-append all (input es))) f).0

module _ (es : List Event) (c : Call) (offset : ℕ) (h : offset + length (input es) < 2 ^ 64) where
  pub ended : Fed offset (input es) (called c (feed es (started offset))) × Did (input es) offset (called c (feed es (started offset))).done
  ended = fed_call offset (input es) (feed es (started offset)) c h (fed offset es [] (started offset) h (fed_start offset))
