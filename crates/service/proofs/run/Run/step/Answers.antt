-- `step` meets its contract: the call is one event more, its lines are what is written, and where it neither pauses nor ends there is room to read on.
use borrow.Author.Rules.{rules}
use Rattle.service.proofs.Laws.{turned_call, turned_more}
use Rattle.service.proofs.run.Run.step.Goals as goal

pub returns-in_err-map_err-clause-turn_adds : goal.returns-in_err-map_err-clause-turn_adds
returns-in_err-map_err-clause-turn_adds g c = turned_call _ _ c.judge.ensures _ (λ e. search rules)

pub returns-in-Budget-clause-turn_adds : goal.returns-in-Budget-clause-turn_adds
returns-in-Budget-clause-turn_adds g c = turned_call _ _ c.judge.ensures _ (λ e. search rules)

pub returns-in-Finished-clause-turn_adds : goal.returns-in-Finished-clause-turn_adds
returns-in-Finished-clause-turn_adds g c = turned_more _ _ c.judge.ensures _ _ (search rules) c.read_more.ensures.more

pub returns-in-Offset-clause-turn_adds : goal.returns-in-Offset-clause-turn_adds
returns-in-Offset-clause-turn_adds g c = turned_call _ _ c.judge.ensures _ (λ e. search rules)
