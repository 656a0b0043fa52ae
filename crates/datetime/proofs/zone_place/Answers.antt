-- `datetime::zone_place` meets its contract: a `.` stands inside the field, and the digits that the search takes after it are the row's.
use lib.Seq.{take_all}
use lib.ListN.{length-drop}
use Rattle.std.proofs.Common.{◌∙◌, ◌-◌, rules, ap, ◌+◌, drop, arith, length}
use Rattle.std.proofs.lemmas.Iterator.{YieldsList-from_slice}
use Rattle.std.proofs.lemmas.Iterator.Search.{YieldsList-from_take_while}
use Rattle.std.proofs.lemmas.Iterator.Consumers.{count_from_yields_List, YieldsList-at}
use borrow.Author.Tests.{eq-eqb}
use Rattle.text.specs.Class.{is_digit}
use Rattle.text.proofs.Fields.{inside}
use Rattle.datetime.specs.Datetime.{zone_place, digits_end}
use Rattle.datetime.proofs.Digits.{run_is}
use Rattle.datetime.proofs.zone_place.Goals as goal

pub slice_bounds-iter-start : goal.slice_bounds-iter-start
slice_bounds-iter-start c = omega (arith, c.at.ensures, inside c.args.s.now 19 (omega (arith, c.at.ensures)))

pub returns-then-at-eq46 : goal.returns-then-at-eq46
unfolding zone_place digits_end
returns-then-at-eq46 c =
    rw (← c.at.ensures, eq-eqb _ _ c.if-at-eq46.true, ← run_is (drop 20 c.args.s.now))
    (ap (λ n. 20 + n)
    (count_from_yields_List c.take_while.result _ c.count.ensures.ran
    (YieldsList-from_take_while _ is_digit
    (YieldsList-at c.take_while.ensures.source (YieldsList-from_slice (drop 20 c.args.s.now) (c.iter.ensures.rest ∙ take_all (length c.args.s.now - 20) (drop 20 c.args.s.now) (omega (arith, length-drop 20 c.args.s.now)))))
    c.take_while.ensures.closure c.take_while.ensures.done (λ x b q k. search rules))))
