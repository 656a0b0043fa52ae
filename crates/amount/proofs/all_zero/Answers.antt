-- `amount::all_zero` meets its contract: the library's search is the definition's.
use Rattle.std.proofs.Common.{rules}
use Rattle.std.proofs.lemmas.Iterator.{YieldsList-from_slice}
use Rattle.std.proofs.lemmas.Iterator.Search.{any_from_yields_List}
use Rattle.text.specs.Ranges.{within}
use Rattle.amount.proofs.Zeros.{zeros}
use Rattle.amount.proofs.all_zero.Goals as goal

pub returns : goal.returns
returns c =
    zeros c.args.s.now (any_from_yields_List (within 49 57) _ _ _ c.any.ensures.ran (YieldsList-from_slice c.args.s.now cc) (λ x b q k. search rules))
