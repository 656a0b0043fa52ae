-- `read_more` meets its contract: what is held stands at the front, and the bytes that come in stand after it.
use mathlib.Core.Path.{◌≡◌, refl, ◌∙◌}
use native.Mathlib.Omega.{arith}
use borrow.Author.Rules.{rules}
use borrow.Rule.Slice.PartMut.{same_len_mid}
use Rattle.std.specs.Prelude.{Ok, ◌-◌}
use Rattle.std.proofs.lemmas.Result.{IfOk-at_ok, MatchResult-at_ok}
use Rattle.service.proofs.Laws.{has_more, front_held, came_is, none_read}
use Rattle.service.proofs.run.Run.read_more.Goals as goal

pub returns-in_err-n-clause-more : goal.returns-in_err-n-clause-more
returns-in_err-n-clause-more g c =
    has_more c.args.self.now _ 0 c.shift.ensures.at (omega (arith, c.shift.ensures.end)) (front_held _ _ _ _ c.shift.ensures) c.shift.ensures.start c.shift.ensures.offset c.shift.ensures.judged c.shift.ensures.stop c.shift.ensures.told (c.shift.ensures.came ∙ c.requires.none_came) _ (λ _. refl)

pub invariant_of-self-2-clause-within : goal.invariant_of-self-2-clause-within
invariant_of-self-2-clause-within g c =
    let k : c.read.result ≡ Ok c.in_ok-n.n = search rules in
    let t = c.shift.new.self in
    omega (arith, IfOk-at_ok _ k c.read.ensures.bound, same_len_mid t.end (65536 - t.end) t.buf c.read.new.buf c.read.auto.buf, t.within)

pub returns-clause-more : goal.returns-clause-more
returns-clause-more g c =
    has_more c.args.self.now _ c.in_ok-n.n c.shift.ensures.at (omega (arith, c.shift.ensures.end)) (front_held _ _ _ _ c.shift.ensures) c.shift.ensures.start c.shift.ensures.offset c.shift.ensures.judged c.shift.ensures.stop c.shift.ensures.told refl _ (none_read c.in_ok-n.n)

pub returns-clause-took : goal.returns-clause-took
returns-clause-took g c =
    let k : c.read.result ≡ Ok c.in_ok-n.n = search rules in
    let b = MatchResult-at_ok _ _ _ k c.read.ensures.bytes in
    record {
      taken = rw (came_is _ _ _ _ c.shift.new.self.within _ (IfOk-at_ok _ k c.read.ensures.bound).0) b.0;
      end = λ a _. b.1 (none_read c.in_ok-n.n a) (search rules);
    }
