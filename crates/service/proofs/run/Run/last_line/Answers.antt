-- `last_line` meets its contract: the line lies inside the text, and what was read is the offset less the first one.
use borrow.Author.Rules.{rules}
use Rattle.report.proofs.Texts.{last-front, last-inside}
use Rattle.service.proofs.run.Run.last_line.Goals as goal

pub invariant_of-self-clause-inside : goal.invariant_of-self-clause-inside
invariant_of-self-clause-inside c = last-inside _ _ _ _ _ _ c.last_line-self.ensures c.last_line-self.auto.out

pub returns : goal.returns
returns c = rw (← c.from.ensures, ← c.from-2.ensures) (last-front _ _ _ _ _ _ c.last_line-self.ensures (search rules))
