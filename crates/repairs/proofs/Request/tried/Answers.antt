-- `Request::tried` meets its contract: the steps one by one, and then the load of the text that was asked for.
use mathlib.Core.Path.{sym, ◌∙◌}
use Rattle.std.proofs.lemmas.Result.{err_from_is_err_and}
use Rattle.repairs.proofs.Repairs.{inside, sheet_stops, given_stops, text_stops, repairs}
use Rattle.repairs.proofs.Request.tried.Goals as goal

pub returns-in_err-sheet_step : goal.returns-in_err-sheet_step
returns-in_err-sheet_step c =
    let p = err_from_is_err_and c.from_residual.result c.from_residual.ensures.1 in
    rw (p.1, p.2) (sheet_stops _ _ _ (sym c.sheet_step.ensures ∙ c.in_err-sheet_step.was))

pub returns-in_err-given_steps : goal.returns-in_err-given_steps
returns-in_err-given_steps c =
    let p = err_from_is_err_and c.from_residual-in_err-given_steps.result c.from_residual-in_err-given_steps.ensures.1 in
    rw (p.1, p.2) (given_stops _ _ (sym c.sheet_step.ensures ∙ c.in_ok-sheet_step.was) _ (sym c.given_steps.ensures ∙ c.in_err-given_steps.was))

pub asked-requires : goal.asked-requires
asked-requires c = inside _ _ (sym c.sheet_step.ensures ∙ c.in_ok-sheet_step.was) (sym c.given_steps.ensures ∙ c.in_ok-given_steps.was)

pub returns-in_err-text_step : goal.returns-in_err-text_step
returns-in_err-text_step c =
    let p = err_from_is_err_and c.from_residual-in_err-text_step.result c.from_residual-in_err-text_step.ensures.1 in
    rw (p.1, p.2)
    (text_stops _ _ (sym c.sheet_step.ensures ∙ c.in_ok-sheet_step.was) (sym c.given_steps.ensures ∙ c.in_ok-given_steps.was) _
    (rw c.asked.ensures at c.held-t.ensures) _ (sym c.text_step.ensures ∙ c.in_err-text_step.was))

pub returns : goal.returns
returns c =
    c.load.ensures
    ∙ repairs _ _ (sym c.sheet_step.ensures ∙ c.in_ok-sheet_step.was) (sym c.given_steps.ensures ∙ c.in_ok-given_steps.was) _
    (rw c.asked.ensures at c.held-t.ensures) (sym c.text_step.ensures ∙ c.in_ok-text_step.was)
