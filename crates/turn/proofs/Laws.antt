-- Laws of one turn: the room for verdicts, and what `run` and `lines` give together.
use Prim.Native.Nat.{ℕ, ◌*◌, ◌/◌, ◌≤◌}
use mathlib.Core.Path.{◌≡◌, refl, sym, ap, subst, ◌∙◌}
use mathlib.Core.Bool.{Bool, true, false, cond}
use mathlib.Core.List.{List, ◌++◌}
use native.Mathlib.Omega.{arith}
use lib.Dec.{ltb}
use lib.ListN.{length, take, drop, length-append}
use lib.Seq.{take-append-le, length-take-le}
use borrow.Author.Tests.{ltb-true, ltb-false}
use Rattle.record.specs.Number.{Bytes}
use Rattle.record.proofs.Numbers.{bytes_take}
use Rattle.verdict.specs.Verdict.{verdict_size}
use Rattle.batch.specs.Walk.{Outcome, outcome_of, call_of}
use Rattle.batch.specs.declared.Ran.{Ran}
use Rattle.batch_promises.proofs.Sizes.{Sized, sized}
use Rattle.report.specs.Text.{line_most, Rendering, rendering, rendered, rendering_of}
use Rattle.report.specs.declared.Rendered.{Rendered}
use Rattle.report.proofs.Texts.{rendered-all}
use Rattle.turn.specs.Turn.{room_of, turning, turn_of, turning_of}

room_fits : (o t : ℕ) → (room_of o t ≤ o) × (room_of o t ≤ t / line_most * verdict_size)
room_fits o t = go (ltb (t / line_most * verdict_size) o) refl
  where
    go : (b : Bool) → ltb (t / line_most * verdict_size) o ≡ b
        → (cond b (t / line_most * verdict_size) o ≤ o) × (cond b (t / line_most * verdict_size) o ≤ t / line_most * verdict_size)
    go true e = (omega (arith, ltb-true (t / line_most * verdict_size) o e), omega arith)
    go false e = (omega arith, omega (arith, ltb-false (t / line_most * verdict_size) o e))

pub room-least : (o t : ℕ) → verdict_size ≤ o → line_most ≤ t → verdict_size ≤ room_of o t
room-least o t f g = go (ltb (t / line_most * verdict_size) o)
  where
    go : (b : Bool) → verdict_size ≤ cond b (t / line_most * verdict_size) o
    go true = omega arith
    go false = f

pub room_in : (o t n : ℕ) → n ≡ room_of o t → n ≤ o
room_in o t n h = rw h (room_fits o t).0

-- one turn, from what `run` and `lines` ensure
module _ (held : List ℕ) (offset : ℕ) (out text₀ : List ℕ) (budget n : ℕ) (hn : n ≡ room_of (length out) (length text₀))
    (r : Ran) (last : List ℕ) (q : outcome_of r last ≡ call_of held offset (take n out) budget) (inside : r.written ≤ length last) where
  pub whole_out : r.written ≤ length (last ++ drop n out)
  whole_out = omega (arith, inside, length-append last (drop n out))

  pub verdicts_are : r.written ≡ length (take r.written (last ++ drop n out))
  verdicts_are = sym (length-take-le r.written (last ++ drop n out) whole_out)

  sizes : Sized held offset (take n out) (outcome_of r last)
  sizes = subst (λ (o : Outcome). Sized held offset (take n out) o) (sym q) (sized held offset (take n out) budget)

  module _ (text₁ : List ℕ) (t : Rendered) (l : rendering_of t text₁ ≡ rendered (take r.written (last ++ drop n out)) text₀)
      (b : Bytes (last ++ drop n out)) where
    all_lines : rendering_of t text₁ ≡ rendering r.judged (take r.written last) text₀
    all_lines =
        rw (take-append-le r.written last (drop n out) inside) at
        (l ∙ rendered-all r.judged (take r.written (last ++ drop n out)) text₀
        (bytes_take (last ++ drop n out) r.written b) (sym verdicts_are ∙ sizes.size)
        (omega (arith, sizes.size, sizes.room, length-take-le n out (room_in (length out) (length text₀) n hn), hn, (room_fits (length out) (length text₀)).1)))

    by_call : turning_of (record { stop = r.stop; judged = r.judged; read = r.read; text = t.written }) (last ++ drop n out) text₁
        ≡ turning (outcome_of r last) (drop n out) text₀
    by_call = rw (ap (λ (x : Rendering). x.written) all_lines, ap (λ (x : Rendering). x.out) all_lines)

    pub turned : turning_of (record { stop = r.stop; judged = r.judged; read = r.read; text = t.written }) (last ++ drop n out) text₁
        ≡ turn_of held offset out text₀ budget
    unfolding turn_of
    turned =
        by_call ∙ ap (λ (o : Outcome). turning o (drop n out) text₀) q
        ∙ ap (λ (m : ℕ). turning (call_of held offset (take m out) budget) (drop m out) text₀) hn
