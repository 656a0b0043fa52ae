-- `field::check_field` meets its contract: the way suits the kind, and so its order gives the definition's answer.
use Rattle.std.proofs.lemmas.Result.{err_from_is_err_and}
use Rattle.field.proofs.Ways.{unknown_refuses, refused, accepted, late_refused, rule_refused}
use Rattle.field.proofs.check_field.Goals as goal

pub returns-in_err-rule : goal.returns-in_err-rule
returns-in_err-rule c =
    let p = err_from_is_err_and c.from_residual.result c.from_residual.ensures.1 in
    let n = c.in_err-rule.ensures in
    rw (p.1, p.2, n.0) (unknown_refuses c.args.kind c.args.value.now n.1)

pub returns-in_err-before_rule : goal.returns-in_err-before_rule
returns-in_err-before_rule c =
    let p = err_from_is_err_and c.from_residual-in_err-before_rule.result c.from_residual-in_err-before_rule.ensures.1 in
    let n = c.in_ok-rule.ensures in
    rw (p.1, p.2, ← n) (refused _ _ _ c.way-way.ensures c.before_rule.ensures c.in_err-before_rule.was)

pub returns-in-Ok : goal.returns-in-Ok
returns-in-Ok c =
    let n = c.in_ok-rule.ensures in
    rw (← n) (accepted _ _ _ c.way-way.ensures c.before_rule.ensures c.in_ok-before_rule.was c.ask.ensures _ c.in-Ok.is)

pub returns-in_err-after_rule-in-Err : goal.returns-in_err-after_rule-in-Err
returns-in_err-after_rule-in-Err c =
    let p = err_from_is_err_and c.from_residual-in_err-after_rule-in-Err.result c.from_residual-in_err-after_rule-in-Err.ensures.1 in
    let n = c.in_ok-rule.ensures in
    rw (p.1, p.2, ← n)
    (late_refused _ _ _ c.way-way.ensures c.before_rule.ensures c.in_ok-before_rule.was c.ask.ensures c.in-Err.is c.after_rule.ensures c.in_err-after_rule-in-Err.was)

pub returns-in_ok-after_rule-in-Err : goal.returns-in_ok-after_rule-in-Err
returns-in_ok-after_rule-in-Err c =
    let n = c.in_ok-rule.ensures in
    rw (← n)
    (rule_refused _ _ _ c.way-way.ensures c.before_rule.ensures c.in_ok-before_rule.was c.ask.ensures c.in-Err.is c.after_rule.ensures c.in_ok-after_rule-in-Err.was)
