-- `common::fraction` meets its contract: by the count of bytes its steps are the definition's, and one digit's tenfold fits.
use Rattle.std.proofs.Common.{sym, ◌∙◌, ◌+◌, length, arith}
use Rattle.common.proofs.Reading.{whole-most, read}
use Rattle.common.proofs.fraction.Goals as goal

pub overflow_mul-result : goal.overflow_mul-result
overflow_mul-result c =
    let w = read _ _ (sym c.whole.ensures ∙ c.in_ok-n.was) in
    omega (arith, w.1, whole-most c.args.s.now c.args.from (length c.args.s.now) (c.args.check + 1) 1 (omega arith) w.0)
