-- `text::wrong_from` meets its contract: a byte that is allowed stands in the field, and the search goes on past it.
use Rattle.std.proofs.Common.{rules, ◌≡◌, ◌+◌, ◌-◌, sym, ◌∙◌, arith, get_or, Ok, Err}
use Rattle.std.proofs.lemmas.Result.{err_from_is_err_and}
use Rattle.answer.specs.Steps.{must}
use Rattle.answer.specs.declared.Reason.TheVariants.{Wrong}
use Rattle.answer.proofs.Laws.{stops, passes, test_held}
use Rattle.text.specs.Class.{allowed}
use Rattle.text.proofs.Fields.{allowed-inside, wrong_step, wrong_none}
use Rattle.text.proofs.wrong_from.Goals as goal

pub returns-in_err-must : goal.returns-in_err-must
returns-in_err-must c =
    let p = err_from_is_err_and c.from_residual.result c.from_residual.ensures.1 in
    let m : must (allowed c.args.set (get_or c.args.s.now (c.args.from + c.loop-k.k) 0)) (Wrong (c.args.from + c.loop-k.k)) c.args.check ≡ Err c.in_err-must.field-0.0
    = search rules in
    rw (p.1, p.2)
    (sym (c.loop-k.invariant.1 ∙ wrong_step c.args.set c.args.s.now (c.args.from + c.loop-k.k) c.args.check (c.args.n - c.loop-k.k) (omega arith) ∙ stops _ m))

pub loop-k-preserved : goal.loop-k-preserved
loop-k-preserved c =
    let m : must (allowed c.args.set (get_or c.args.s.now (c.args.from + c.loop-k.k) 0)) (Wrong (c.args.from + c.loop-k.k)) c.args.check ≡ Ok tt
    = search rules in (
      (λ h. omega (arith, allowed-inside c.args.set c.args.s.now (c.args.from + c.loop-k.k) (test_held _ _ _ m))),
      let q : c.args.n - (c.loop-k.k + 1) ≡ c.args.n - c.loop-k.k - 1 = omega arith in
          let f : c.args.from + (c.loop-k.k + 1) ≡ c.args.from + c.loop-k.k + 1 = omega arith in
          rw (q, f)
          (c.loop-k.invariant.1 ∙ wrong_step c.args.set c.args.s.now (c.args.from + c.loop-k.k) c.args.check (c.args.n - c.loop-k.k) (omega arith) ∙ passes _ m),
    )

pub returns : goal.returns
returns c =
    let none : c.args.n - c.loop-k.k ≡ 0 = omega arith in
    sym (c.loop-k.invariant.1 ∙ rw none (sym (wrong_none c.args.set c.args.s.now (c.args.from + c.loop-k.k) c.args.check)))
