-- `iban::drop_blanks` meets its contract. The invariant: the text so far, and the characters that are left, are the field's in electronic format.
use Rattle.std.proofs.Common.{rules}
use mathlib.Core.Path.{sym, ap, ◌∙◌}
use native.Mathlib.Omega.{arith}
use borrow.Author.Tests.{ltb-true, eqb-true}
use Rattle.std.proofs.lemmas.Result.{err_from_is_err_and}
use Rattle.answer.proofs.Laws.{test_held_true}
use Rattle.utf8.specs.Chars.{left}
use Rattle.utf8.proofs.Walks.{room_more, prefix_inside}
use Rattle.iban.proofs.Blanks.{starts, at_end, past_blank, past_char, beyond_ascii, no_character, ends}
use Rattle.iban.proofs.drop_blanks.Goals as goal

pub loop-place-init : goal.loop-place-init
loop-place-init c = starts _ _ _ (ap left c.into_iter-place-iterator.ensures.into_iter_gives ∙ c.new-place-items.ensures.left) c.zeros-text.ensures

pub overflow_add-end : goal.overflow_add-end
overflow_add-end c =
    omega (arith, room_more _ _ _ c.in-Some.ensures.steps, prefix_inside c.args.s.now, (at_end _ _ _ _ _ c.loop-place.invariant _ _ _ c.in-Some.ensures.steps).0)

pub loop-place-preserved-then-is_white_space : goal.loop-place-preserved-then-is_white_space
loop-place-preserved-then-is_white_space c =
    past_blank _ _ _ _ _ c.loop-place.invariant _ _ _ c.in-Some.ensures.steps (sym c.is_white_space.ensures ∙ c.if-is_white_space.true)

pub returns-in_err-must : goal.returns-in_err-must
returns-in_err-must c =
    let p = err_from_is_err_and c.from_residual.result c.from_residual.ensures.1 in
    rw (p.1, p.2)
    (beyond_ascii _ _ _ _ _ c.loop-place.invariant _ _ _ c.in-Some.ensures.steps _ (sym c.is_white_space.ensures ∙ c.if-is_white_space.false) (search rules))

pub overflow_cast-c : goal.overflow_cast-c
overflow_cast-c c = omega (arith, ltb-true _ _ (test_held_true _ _ _ (sym c.must.ensures ∙ c.in_ok-must.was)))

pub loop-place-preserved : goal.loop-place-preserved
loop-place-preserved c =
    rw c.put.ensures
    (past_char _ _ _ _ _ c.loop-place.invariant _ _ _ c.in-Some.ensures.steps (sym c.is_white_space.ensures ∙ c.if-is_white_space.false)
    (ltb-true _ _ (test_held_true _ _ _ (sym c.must.ensures ∙ c.in_ok-must.was))))

pub returns-in_err-must-2 : goal.returns-in_err-must-2
returns-in_err-must-2 c =
    let p = err_from_is_err_and c.from_residual-in_err-must-2.result c.from_residual-in_err-must-2.ensures.1 in
    rw (p.1, p.2)
    (no_character _ _ _ _ _ c.loop-place.invariant c.in-None.ensures.steps.0 _ (search rules))

pub returns : goal.returns
returns c =
    ends _ _ _ _ _ c.loop-place.invariant c.in-None.ensures.steps.0 (eqb-true _ _ (test_held_true _ _ _ (sym c.must-2.ensures ∙ c.in_ok-must-2.was)))
