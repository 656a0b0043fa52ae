-- `text::number_of` meets its contract: digits that follow make a number no smaller.
use Rattle.std.proofs.Common.{◌≡◌, ◌+◌, ◌*◌, sym, ap, ◌∙◌, arith}
use lib.Seq.{take_all}
use Rattle.text.specs.Decimal.{number_written}
use Rattle.text.proofs.Decimals.{number-none, number_more, number_grows, fits, over, fitted-is, over-is}
use Rattle.text.proofs.number_of.Goals as goal

pub loop-b-init : goal.loop-b-init
loop-b-init c = (omega arith, omega (arith, number-none))

pub returns-in_err-n : goal.returns-in_err-n
returns-in_err-n c =
    let m = over-is (c.loop-b.n * 10 + c.digit.result) (sym c.with_digit.ensures ∙ c.in_err-n.was) in
    rw c.from_residual.ensures
    (over (number_written c.args.t.now)
    (omega (arith, c.digit.ensures.value, number_more c.args.t.now c.loop-b.b-index c.loop-b-test.true, number_grows (c.loop-b.b-index + 1) c.args.t.now)))

pub loop-b-preserved : goal.loop-b-preserved
loop-b-preserved c =
    let m = fitted-is (c.loop-b.n * 10 + c.digit.result) c.in_ok-n.n (sym c.with_digit.ensures ∙ c.in_ok-n.was) in
    (omega arith, omega (arith, c.digit.ensures.value, number_more c.args.t.now c.loop-b.b-index c.loop-b-test.true))

pub returns : goal.returns
returns c =
    let whole : c.loop-b.n ≡ number_written c.args.t.now = c.loop-b.invariant.1 ∙ ap number_written (take_all c.loop-b.b-index c.args.t.now (omega arith)) in
    rw (← whole) (fits c.loop-b.n c.loop-b.invariant.0)
