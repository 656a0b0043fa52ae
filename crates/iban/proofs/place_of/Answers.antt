-- `iban::place_of` meets its contract: the k-th of the characters that are no blank.
use Rattle.std.proofs.Common.{rules, tests, refl}
use Rattle.std.proofs.lemmas.Iterator.Consumers.{YieldsList-from_first, YieldsList-from_filter, YieldsList-at, nth_from_yields_List}
use Rattle.utf8.specs.Chars.{left}
use Rattle.iban.proofs.Electronics.{black, place_of_nth}
use Rattle.iban.proofs.place_of.Goals as goal

pub returns : goal.returns
returns c =
    let e = nth_from_yields_List _ _ c.args.k c.nth.ensures.ran
    (YieldsList-from_filter _ black (YieldsList-at c.filter.ensures.source (YieldsList-from_first (λ x. x) left _ refl)) c.filter.ensures.closure (λ x r q k. search (rules, tests))) in
    place_of_nth c.args.s.now c.args.k (left c.new.result) c.nth.result c.map_or.result c.new.ensures.left e (search rules)
