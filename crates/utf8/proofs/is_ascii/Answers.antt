-- `utf8::is_ascii` meets its contract: the whole eights and the last eight bytes are all of the text.
use Rattle.std.proofs.Common.{◌≡◌, rules, tests, ◌∙◌, ap, length, ◌/◌}
use Rattle.std.specs.List.{list_all}
use Rattle.std.specs.Simd.{first_chunks}
use Rattle.std.proofs.lemmas.Iterator.{YieldsList-from_slice}
use Rattle.std.proofs.lemmas.Iterator.Search.{all_from_yields_List}
use Rattle.utf8.specs.Chars.{ascii}
use Rattle.utf8.proofs.Ascii.{eights_not, eights_last}
use Rattle.utf8.proofs.is_ascii.Goals as goal

pub returns-then-all : goal.returns-then-all
returns-then-all c =
    let s = c.args.s.now in
    let all : c.all.result ≡ list_all ascii (first_chunks 8 (length s / 8) s) =
    all_from_yields_List ascii _ _ c.all.result c.all.ensures.ran (YieldsList-from_slice (first_chunks 8 (length s / 8) s) (c.iter.ensures.rest ∙ c.as_chunks.ensures.front)) (λ x b q k. search (rules, tests)) in
    c.few_ascii.ensures ∙ ap ascii c.in-Some.ensures.cases.1.same ∙ eights_last s c.all.result all c.if-all.true

pub returns-else-all : goal.returns-else-all
returns-else-all c =
    let s = c.args.s.now in
    let all : c.all.result ≡ list_all ascii (first_chunks 8 (length s / 8) s) =
    all_from_yields_List ascii _ _ c.all.result c.all.ensures.ran (YieldsList-from_slice (first_chunks 8 (length s / 8) s) (c.iter.ensures.rest ∙ c.as_chunks.ensures.front)) (λ x b q k. search (rules, tests)) in
    c.if-all.false ∙ eights_not s c.all.result all c.if-all.false
