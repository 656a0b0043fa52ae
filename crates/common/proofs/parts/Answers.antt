-- `common::parts` meets its contract: the steps are the definition's, and the numbers that they leave are those of the cents.
use Rattle.std.proofs.Common.{◌≡◌, sym, ◌∙◌, ◌+◌, ◌*◌}
use Rattle.text.specs.Field.{dot}
use Rattle.common.proofs.Reading.{read, total_is}
use Rattle.common.specs.Cents.{parts, cents}
use Rattle.common.proofs.parts.Goals as goal

pub returns : goal.returns
unfolding parts cents
returns c =
    let w = read _ _ (sym c.whole.ensures ∙ c.in_ok-n.was) in
    let f = read _ _ (sym c.fraction.ensures ∙ c.in_ok-m.was) in
    let d : dot c.args.s.now ≡ c.args.dot = sym c.requires.0 in
    rw (c.ok_or.ensures.value, c.total.ensures, c.from.ensures, d, ← c.past.ensures, ← w.1, ← f.1)
    (total_is (100 * c.in_ok-n.n + c.in_ok-m.m) (c.args.check + 9) w.0 f.0)
