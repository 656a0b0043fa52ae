-- `codes::packed_fit` meets its contract: once the number is past 32 bits it stays past them.
use Rattle.std.proofs.Common.{◌≡◌, ◌+◌, ◌*◌, arith, ◌≤◌, length, drop, get_or, ◌∙◌, sym}
use lib.ListN.{drop_of_length-le}
use Rattle.codes.proofs.Laws.{packed_grows, packed_next, number_fits, number_past}
use Rattle.codes.proofs.packed_fit.Goals as goal

pub returns-in_err-checked_mul : goal.returns-in_err-checked_mul
returns-in_err-checked_mul c =
    let n = c.in_err-checked_mul.ensures in
    rw c.from_residual.ensures
    (number_past c.args.code.now (omega (arith, n, packed_next c.loop-b.n c.args.code.now c.loop-b.b-index c.loop-b-test.true, packed_grows (256 * c.loop-b.n + get_or c.args.code.now c.loop-b.b-index 0) (drop (c.loop-b.b-index + 1) c.args.code.now))))

pub returns-in_err-n : goal.returns-in_err-n
returns-in_err-n c =
    let m = c.in_ok-checked_mul.ensures in
    let n = c.in_err-n.ensures in
    rw c.from_residual-in_err-n.ensures
    (number_past c.args.code.now (omega (arith, m.1, n, c.from.ensures, packed_next c.loop-b.n c.args.code.now c.loop-b.b-index c.loop-b-test.true, packed_grows (256 * c.loop-b.n + get_or c.args.code.now c.loop-b.b-index 0) (drop (c.loop-b.b-index + 1) c.args.code.now))))

pub loop-b-preserved : goal.loop-b-preserved
loop-b-preserved c =
    let m = c.in_ok-checked_mul.ensures in
    let n = c.in_ok-n.ensures in
    let e : c.in_ok-n.n ≡ 256 * c.loop-b.n + get_or c.args.code.now c.loop-b.b-index 0 = omega (arith, m.1, n.1, c.from.ensures) in
    (omega (arith, n.0, n.1), rw e (sym (packed_next c.loop-b.n c.args.code.now c.loop-b.b-index c.loop-b-test.true) ∙ c.loop-b.invariant.1))

pub returns : goal.returns
returns c =
    let over : length c.args.code.now ≤ c.loop-b.b-index = omega arith in
    number_fits c.args.code.now c.loop-b.n c.loop-b.invariant.0 (rw (drop_of_length-le c.args.code.now over) at c.loop-b.invariant.1)
