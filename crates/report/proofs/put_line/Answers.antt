-- `report::put_line` meets its contract: its fields are written one after the other, and what is left of the row has room each time.
use mathlib.Core.Path.{refl}
use Rattle.report.proofs.Puts.{row_is, front, next-room, next}
use Rattle.report.proofs.put_line.Goals as goal

pub put_field-n-requires : goal.put_field-n-requires
put_field-n-requires c =
    let h = rw (row_is c.args.v _ _ _ refl refl refl) at c.requires in
    front _ _ (front _ _ (front _ _ (front _ _ h)))

pub put_field-n-requires-2 : goal.put_field-n-requires-2
put_field-n-requires-2 c =
    let h = rw (row_is c.args.v _ _ _ c.from.ensures refl refl) at c.requires in
    next-room _ _ (front _ _ (front _ _ (front _ _ h))) c.put_field-n.ensures

pub put_field-n-requires-3 : goal.put_field-n-requires-3
put_field-n-requires-3 c =
    let h = rw (row_is c.args.v _ _ _ c.from.ensures c.from-2.ensures refl) at c.requires in
    let i = front _ _ (front _ _ h) in
    next-room _ _ i (next _ _ (front _ _ i) c.put_field-n.ensures c.put_field-n-2.ensures)

pub put_field-n-requires-4 : goal.put_field-n-requires-4
put_field-n-requires-4 c =
    let h = rw (row_is c.args.v _ _ _ c.from.ensures c.from-2.ensures c.from-3.ensures) at c.requires in
    let i = front _ _ h in
    let j = front _ _ i in
    let p = next _ _ (front _ _ j) c.put_field-n.ensures c.put_field-n-2.ensures in
    next-room _ _ i (next _ _ j p c.put_field-n-3.ensures)

pub put_field-requires : goal.put_field-requires
put_field-requires c =
    let h = rw (row_is c.args.v _ _ _ c.from.ensures c.from-2.ensures c.from-3.ensures) at c.requires in
    let i = front _ _ h in
    let j = front _ _ i in
    let p = next _ _ (front _ _ j) c.put_field-n.ensures c.put_field-n-2.ensures in
    let q = next _ _ j p c.put_field-n-3.ensures in
    next-room _ _ h (next _ _ i q c.put_field-n-4.ensures)

pub returns : goal.returns
returns c =
    let e = row_is c.args.v _ _ _ c.from.ensures c.from-2.ensures c.from-3.ensures in
    let h = rw e at c.requires in
    let i = front _ _ h in
    let j = front _ _ i in
    let p = next _ _ (front _ _ j) c.put_field-n.ensures c.put_field-n-2.ensures in
    let q = next _ _ j p c.put_field-n-3.ensures in
    rw e (next _ _ h (next _ _ i q c.put_field-n-4.ensures) c.put_field.ensures)
