-- `text::first_place` meets its contract: what the search has found is the first place.
use Rattle.std.proofs.Common.{◌≡◌, ◌∙◌, rules}
use Rattle.std.proofs.lemmas.Iterator.{IsFirst-from_position, YieldsList-from_slice}
use mathlib.Core.Logic.{◌≢◌}
use borrow.Author.Tests.{tests}
use Rattle.text.proofs.Fields.{first_place_is}
use Rattle.text.proofs.first_place.Goals as goal

pub returns : goal.returns
returns c =
    c.unwrap_or.ensures
    ∙ first_place_is c.args.b c.args.s.now _
    (IsFirst-from_position _ _ _ (λ x. x ≡ c.args.b) (λ x. x ≢ c.args.b) c.position.ensures.ran (YieldsList-from_slice c.args.s.now cc)
    (λ x q k. search (rules, tests)) (λ x q k. search (rules, tests)))
