-- `serve` meets its contract: each turn adds to what went before, and the last of them is what the result says.
use mathlib.Core.Path.{◌≡◌}
use native.Mathlib.Omega.{arith}
use borrow.Author.Rules.{rules}
use Rattle.std.specs.Prelude.{Ok, true, false}
use Rattle.std.proofs.lemmas.Result.{err_from_is_err_and}
use Rattle.service.specs.Run.{last_ahead}
use Rattle.service.proofs.Laws.{going_start, going_on, going_over}
use Rattle.service.proofs.Bytes.{flowing_start, flowing_on, passed}
use Rattle.service.proofs.run.Run.serve.Goals as goal

pub loop-init : goal.loop-init
loop-init g c = (going_start _, flowing_start _ _)

pub returns-in_err-step : goal.returns-in_err-step
returns-in_err-step g c =
    let p = err_from_is_err_and c.from_residual.result c.from_residual.ensures.1 in
    let e : c.step.result ≡ last_ahead c.from_residual.result = rw (p.1, p.2) c.in_err-step.was in
    record {
      served = going_over _ _ c.loop.invariant.0 _ _ c.step.ensures.turn_adds _ e;
      passed = passed _ _ _ _ _ _ _ _ c.loop.invariant.0 c.loop.invariant.1 _ _ c.step.ensures.turn_adds c.step.ensures.took c.step.ensures.gave _ e;
    }

pub loop-smaller : goal.loop-smaller
loop-smaller g c =
    let e : c.step.result ≡ Ok true = search rules in
    omega (arith, c.step.ensures.moved e)

pub loop-preserved : goal.loop-preserved
loop-preserved g c =
    let e : c.step.result ≡ Ok true = search rules in
    (going_on _ _ c.loop.invariant.0 _ _ c.step.ensures.turn_adds e, flowing_on _ _ _ _ _ _ _ _ c.loop.invariant.1 _ _ c.step.ensures.took c.step.ensures.gave e)

pub returns : goal.returns
returns g c =
    let e : c.step.result ≡ Ok false = search rules in
    record {
      served = going_over _ _ c.loop.invariant.0 _ _ c.step.ensures.turn_adds _ e;
      passed = passed _ _ _ _ _ _ _ _ c.loop.invariant.0 c.loop.invariant.1 _ _ c.step.ensures.turn_adds c.step.ensures.took c.step.ensures.gave _ e;
    }
