-- `judge` meets its contract: the sums fit since the call reads no more than is held, up to an offset below 2^64.
use mathlib.Core.Path.{refl}
use native.Mathlib.Omega.{arith}
use borrow.Author.Rules.{rules}
use Rattle.service.proofs.Laws.{read-inside, read_fits, few, lines-inside, judging}
use Rattle.service.proofs.run.Run.judge.Goals as goal

pub overflow_add-self : goal.overflow_add-self
overflow_add-self c =
    search (rules, read-inside c.args.self.now c.turn-t.result _ _ c.turn-t.ensures, c.args.self.now.within)

pub overflow_add-self-2 : goal.overflow_add-self-2
overflow_add-self-2 c =
    record { fits = read_fits c.args.self.now c.turn-t.result _ _ c.turn-t.ensures (search rules) }

pub overflow_add-self-3 : goal.overflow_add-self-3
overflow_add-self-3 c =
    let y = read_fits c.args.self.now c.turn-t.result _ _ c.turn-t.ensures (search rules) in
    search (rules, y, few c.args.self.now c.turn-t.result _ _ c.turn-t.ensures, c.args.self.now.counts)

pub invariant_of-self : goal.invariant_of-self
invariant_of-self c =
    record {
      order = read-inside c.args.self.now c.turn-t.result _ _ c.turn-t.ensures;
      within = search rules;
      counts = omega (arith, few c.args.self.now c.turn-t.result _ _ c.turn-t.ensures, c.args.self.now.counts);
      inside = lines-inside c.args.self.now c.turn-t.result _ _ c.turn-t.ensures;
    }

pub returns : goal.returns
returns c =
    judging c.args.self.now c.turn-t.result _ _ c.turn-t.ensures _ (search rules) refl refl refl refl refl refl refl refl refl (search rules) (search rules) (search rules)
