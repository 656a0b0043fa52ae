-- `datetime::offset_part` meets its contract: fewer than five bytes stand there where the field ends before the fifth.
use Rattle.std.proofs.Common.{refl, sym, length}
use Rattle.std.proofs.lemmas.Result.{err_from_is_err_and}
use Rattle.answer.proofs.Laws.{stops}
use Rattle.datetime.specs.Datetime.{offset_part}
use Rattle.datetime.proofs.Digits.{five_there}
use Rattle.datetime.proofs.offset_part.Goals as goal

pub returns-in_err-must : goal.returns-in_err-must
unfolding offset_part
returns-in_err-must c =
    let p = err_from_is_err_and c.from_residual.result c.from_residual.ensures.1 in
    rw (p.1, p.2) (sym (stops _ (stops _ (stops _ (stops _ (rw (five_there _ c.args.i (length c.args.s.now) refl, ← c.saturating_sub.ensures, ← c.must.ensures) c.in_err-must.was))))))
