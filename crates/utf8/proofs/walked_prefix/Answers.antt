-- `utf8::walked_prefix` meets its contract: the widths of the characters add up to the prefix, which is within the text.
use Rattle.std.proofs.Common.{rules, tests, arith, refl, ◌∙◌, ◌^◌, ◌<◌}
use Rattle.std.proofs.lemmas.Iterator.{YieldsList-from_map}
use Rattle.std.proofs.lemmas.Iterator.Consumers.{YieldsList-from_first, YieldsList-at, fits_by_from_yields_list, sum_by_from_yields_List}
use Rattle.utf8.specs.Chars.{left}
use Rattle.utf8.proofs.Walks.{room, room_start, prefix_inside}
use Rattle.utf8.proofs.walked_prefix.Goals as goal

pub sum-requires-clause-fits : goal.sum-requires-clause-fits
sum-requires-clause-fits c =
    let few : room (left c.new.result) < 2 ^ 64 = omega (arith, room_start _ _ c.new.ensures.left, prefix_inside c.args.s.now) in
    fits_by_from_yields_list (λ p. p.1.width) (left c.new.result) c.map.result _
    (YieldsList-from_map _ (λ p. p.1.width) (YieldsList-at c.map.ensures.source (YieldsList-from_first (λ x. x) left _ refl)) c.map.ensures.closure (λ x r q k. search (rules, tests)))
    few

pub returns : goal.returns
returns c =
    sum_by_from_yields_List (λ p. p.1.width) (left c.new.result) c.map.result _ c.sum.ensures.ran
    (YieldsList-from_map _ (λ p. p.1.width) (YieldsList-at c.map.ensures.source (YieldsList-from_first (λ x. x) left _ refl)) c.map.ensures.closure (λ x r q k. search (rules, tests)))
    ∙ room_start _ _ c.new.ensures.left
