-- `text::allowed_front` meets its contract: what the search has found is how many bytes the set allows at the front.
use Rattle.std.proofs.Common.{◌≡◌, ◌∙◌, rules, true, false}
use Rattle.std.proofs.lemmas.Iterator.{IsFirst-from_position, YieldsList-from_slice}
use borrow.Author.Tests.{tests}
use Rattle.text.specs.Class.{allowed}
use Rattle.text.proofs.Fields.{front_is}
use Rattle.text.proofs.allowed_front.Goals as goal

pub returns : goal.returns
returns c =
    c.unwrap_or.ensures
    ∙ front_is c.args.set c.args.t.now _
    (IsFirst-from_position _ _ _ (λ x. allowed c.args.set x ≡ false) (λ x. allowed c.args.set x ≡ true) c.position.ensures.ran (YieldsList-from_slice c.args.t.now cc)
    (λ x q k. search (rules, tests)) (λ x q k. search (rules, tests)))
