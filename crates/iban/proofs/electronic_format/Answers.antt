-- `iban::electronic_format` meets its contract: the first pass, the count, and the class steps on the text, whose places are put back into the lent field.
use mathlib.Core.Path.{sym, ◌∙◌}
use native.Mathlib.Omega.{arith}
use Rattle.std.proofs.lemmas.Result.{err_from_is_err_and}
use Rattle.iban.proofs.Formats.{dropped_refuses, count_refuses, room, format_whole, format_wrong}
use Rattle.iban.proofs.electronic_format.Goals as goal

pub returns-in_err-e : goal.returns-in_err-e
returns-in_err-e c =
    let p = err_from_is_err_and c.from_residual.result c.from_residual.ensures.1 in
    rw (p.1, p.2) (dropped_refuses _ _ c.without_blanks.ensures _ c.in_err-e.was)

pub returns-in_err-count_step : goal.returns-in_err-count_step
returns-in_err-count_step c =
    let p = err_from_is_err_and c.from_residual-in_err-count_step.result c.from_residual-in_err-count_step.ensures.1 in
    rw (p.1, p.2) (count_refuses _ _ c.without_blanks.ensures _ c.in_ok-e.was _ (sym c.count_step.ensures ∙ c.in_err-count_step.was))

pub shared_ref_as_front-characters : goal.shared_ref_as_front-characters
shared_ref_as_front-characters c =
    let w = room _ _ c.without_blanks.ensures _ c.in_ok-e.was (sym c.count_step.ensures ∙ c.in_ok-count_step.was) in
    omega (arith, w)

pub returns-in-Ok : goal.returns-in-Ok
returns-in-Ok c =
    format_whole _ _ c.without_blanks.ensures _ c.in_ok-e.was (sym c.count_step.ensures ∙ c.in_ok-count_step.was) (sym c.class_steps.ensures ∙ c.in-Ok.is)

pub returns-in-Err : goal.returns-in-Err
returns-in-Err c =
    rw c.reason_in.ensures
    (format_wrong _ _ c.without_blanks.ensures _ c.in_ok-e.was (sym c.count_step.ensures ∙ c.in_ok-count_step.was) _ (sym c.class_steps.ensures ∙ c.in-Err.is))
