-- `datetime::clock_part` meets its contract: the first of its six steps stops them all.
use Rattle.std.proofs.Common.{sym, ◌∙◌}
use Rattle.std.proofs.lemmas.Result.{err_from_is_err_and}
use Rattle.answer.proofs.Laws.{stops}
use Rattle.datetime.specs.Datetime.{clock_part}
use Rattle.datetime.proofs.clock_part.Goals as goal

pub returns-in_err-literal : goal.returns-in_err-literal
unfolding clock_part
returns-in_err-literal c =
    let p = err_from_is_err_and c.from_residual.result c.from_residual.ensures.1 in
    rw (p.1, p.2) (sym (stops _ (stops _ (stops _ (stops _ (stops _ (sym c.literal.ensures ∙ c.in_err-literal.was)))))))
