-- `stitchbarrow::write_sheet` meets its contract: the four parts, each written to its place.
use native.Mathlib.Omega.{arith}
use mathlib.Core.List.{◌++◌}
use lib.ListN.{drop}
use borrow.Rule.Slice.PartMut.{put_mid}
use Rattle.record.proofs.Numbers.{part-written}
use Rattle.stitchbarrow.proofs.Laws.{laid}
use Rattle.stitchbarrow.proofs.write_sheet.Goals as goal

pub returns : goal.returns
returns c =
    let s = c.args.s in
    let b = c.args.b.now in
    let w1 = c.write_number.new.b in
    let w2 = c.write_number-2.new.b in
    let w3 = c.write_number-3.new.b in
    let b1 = w1 ++ drop 2 b in
    let b2 = put_mid 2 2 b1 w2 in
    laid s b w1 w2 w3 c.copy_from_slice.new.self
    (part-written 0 2 s.kind b w1 (omega arith) (rw c.from.ensures at c.write_number.ensures))
    (part-written 2 2 s.length b1 w2 (omega arith) c.write_number-2.ensures)
    (part-written 4 8 s.remainder b2 w3 (omega arith) c.write_number-3.ensures)
    c.copy_from_slice.ensures.after
