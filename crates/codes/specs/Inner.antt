-- What the functions of `codes` compute: a code's number, where it has so many bits; and the rule over a table of such numbers. Not what a
-- reader has to believe: that is `code_rule`, over the list.
use Rattle.std.specs.Prelude.{ℕ, ◌^◌, List, ltb, cond, Option, Some, None}
use Rattle.answer.specs.Steps.{check, must, ◌and_then◌, ◌or_accept◌}
use Rattle.answer.specs.Result.{Answer}
use Rattle.answer.specs.declared.Reason.TheVariants.{NotListed}
use Rattle.codes.specs.Codes.{well_spelt, packed, among}

unfoldable pub packed_fit : List ℕ → Option ℕ
packed_fit s = cond (ltb (packed s) (2 ^ 32)) (Some (packed s)) None

unfoldable pub table_rule : ℕ → ℕ → List ℕ → List ℕ → Answer
table_rule kind n table s = well_spelt kind n s and_then must (among table (packed s)) NotListed (check kind 5) or_accept 0
