-- `common::Part::digits` meets its contract: one digit more makes the number of one digit more. Where that does not fit in 64 bits, the whole
-- number does not, and the search from i on decides.
use Rattle.std.proofs.Common.{rules, ◌≡◌, ◌+◌, ◌-◌, ◌*◌, sym, ◌∙◌, arith}
use Rattle.answer.specs.Result.{Pass}
use Rattle.text.specs.Field.{first_wrong, wrong_from}
use Rattle.text.specs.declared.Set.TheVariants.{Digits}
use Rattle.text.proofs.Decimals.{over-is}
use Rattle.common.proofs.Reading.{digits-past, number-part, number-next}
use Rattle.common.proofs.Part.digits.Goals as goal

pub returns-in_default : goal.returns-in_default
unfolding first_wrong
returns-in_default c =
    let over = over-is (c.loop-i.n * 10 + c.from-in-loop-i.result) (sym c.with_digit.ensures ∙ c.in_default.is) in
    let next = number-next c.args.self.now.s.now c.args.at c.loop-i.i c.loop-i.invariant.0 (omega arith) in
    let grown = number-part c.args.self.now.s.now c.args.at (c.loop-i.i + 1) c.args.self.now.to (omega arith) in
    let left : wrong_from Digits c.args.self.now.s.now c.loop-i.i (c.args.self.now.to - c.loop-i.i) (c.args.self.now.check + 1) ≡ Pass = search rules in
    rw c.from-in_default.ensures
    (digits-past c.args.self.now.s.now c.args.at c.args.self.now.to (c.args.self.now.check + 1)
    (c.loop-i.invariant.4 ∙ left) (omega (arith, c.from-in-loop-i.ensures)))
