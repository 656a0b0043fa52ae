-- `turn::turn` meets its contract: the call has room for no more verdicts than have lines in the text, so all are written.
use mathlib.Core.Path.{sym}
use lib.Seq.{length-take-le}
use borrow.Author.Rules.{rules}
use Rattle.turn.proofs.Laws.{room_in, whole_out, verdicts_are, turned}
use Rattle.turn.proofs.turn.Goals as goal

pub slice_bounds-run-end : goal.slice_bounds-run-end
slice_bounds-run-end c = room_in _ _ _ c.room-n.ensures

pub slice_bounds-run-end-2 : goal.slice_bounds-run-end-2
slice_bounds-run-end-2 c = sym (length-take-le _ _ (room_in _ _ _ c.room-n.ensures))

pub slice_bounds-lines-end : goal.slice_bounds-lines-end
slice_bounds-lines-end c =
    whole_out c.args.held.now c.args.offset c.args.out.now c.args.text.now c.args.budget c.room-n.result c.room-n.ensures c.run-r.result c.run-r.new.out c.run-r.ensures.out_after c.run-r.ensures.read_in_bounds.1

pub slice_bounds-lines-end-2 : goal.slice_bounds-lines-end-2
slice_bounds-lines-end-2 c =
    verdicts_are c.args.held.now c.args.offset c.args.out.now c.args.text.now c.args.budget c.room-n.result c.room-n.ensures c.run-r.result c.run-r.new.out c.run-r.ensures.out_after c.run-r.ensures.read_in_bounds.1

pub returns : goal.returns
returns c =
    turned c.args.held.now c.args.offset c.args.out.now c.args.text.now c.args.budget c.room-n.result c.room-n.ensures c.run-r.result c.run-r.new.out c.run-r.ensures.out_after c.run-r.ensures.read_in_bounds.1 _ c.lines-t.result c.lines-t.ensures (λ i. search rules)
