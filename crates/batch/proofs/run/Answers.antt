-- `batch::run` meets its contract: each turn moves one record from what is left to what is done.
use Rattle.std.proofs.Common.{rules, ◌+◌, ◌^◌, ◌∙◌, sym, length, arith}
use borrow.Author.Tests.{le-leb}
use Rattle.batch.proofs.Laws.{far, near, stop, spare, reach, again}
use Rattle.batch.proofs.run.Goals as goal

pub returns-then-is_none-clause-out_after : goal.returns-then-is_none-clause-out_after
returns-then-is_none-clause-out_after c = sym (far _ _ _ _ (le-leb (2 ^ 64) (c.args.offset + length c.args.batch.now) (search rules)))

pub returns-in-Err-clause-out_after : goal.returns-in-Err-clause-out_after
returns-in-Err-clause-out_after c =
    sym (near c.args.batch.now c.args.offset c.args.out.now c.args.budget (search rules) ∙ stop c.loop-stop.invariant c.judge_next.ensures.value c.judge_next.ensures.out_after c.in-Err.is)

pub overflow_add-ran : goal.overflow_add-ran
overflow_add-ran c = omega (arith, spare c.loop-stop.invariant c.judge_next.ensures.value c.judge_next.ensures.out_after c.in-Ok.is)

pub overflow_add-ran-in-Ok : goal.overflow_add-ran-in-Ok
overflow_add-ran-in-Ok c = omega (arith, reach c.loop-stop.invariant c.judge_next.ensures.value c.judge_next.ensures.out_after c.in-Ok.is)

pub overflow_add-ran-in-Ok-2 : goal.overflow_add-ran-in-Ok-2
overflow_add-ran-in-Ok-2 c = omega (arith, reach c.loop-stop.invariant c.judge_next.ensures.value c.judge_next.ensures.out_after c.in-Ok.is)

pub loop-stop-smaller : goal.loop-stop-smaller
loop-stop-smaller c = omega (arith, spare c.loop-stop.invariant c.judge_next.ensures.value c.judge_next.ensures.out_after c.in-Ok.is)

pub loop-stop-preserved : goal.loop-stop-preserved
loop-stop-preserved c = again c.loop-stop.invariant c.judge_next.ensures.value c.judge_next.ensures.out_after c.in-Ok.is
