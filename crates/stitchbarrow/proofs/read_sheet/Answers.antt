-- `stitchbarrow::read_sheet` meets its contract: the four parts, each read from its place.
use native.Mathlib.Omega.{arith}
use mathlib.Core.Path.{◌∙◌}
use Rattle.record.proofs.Numbers.{number-most, part-read}
use Rattle.stitchbarrow.specs.Sheets.{sheet_at}
use Rattle.stitchbarrow.proofs.read_sheet.Goals as goal

pub overflow_cast-kind : goal.overflow_cast-kind
overflow_cast-kind c =
    let b = c.args.b.now in
    omega (arith, c.read_number-kind.ensures, part-read b 0 2 (omega arith), number-most b (λ i. (c.type_inv.b i).fits) 0 2)

pub returns : goal.returns
unfolding sheet_at
returns c =
    let b = c.args.b.now in
    rw (
      c.read_number-kind.ensures ∙ part-read b 0 2 (omega arith),
      c.read_number-length.ensures ∙ part-read b 2 2 (omega arith),
      c.read_number-remainder.ensures ∙ part-read b 4 8 (omega arith),
      c.copy_from_slice.ensures.after,
    )
