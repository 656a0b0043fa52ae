-- `stitchbarrow::reply` meets its contract: nothing is written where a slice is too short, and else the sheet's bytes and the answer's.
use mathlib.Core.Path.{ap}
use native.Mathlib.Omega.{arith}
use Rattle.stitchbarrow.specs.Reply.{Reply, answer_reply, handed}
use Rattle.stitchbarrow.proofs.Replies.{short-sheet, short-answer, both_written}
use Rattle.stitchbarrow.proofs.reply.Goals as goal

pub returns-then-sheet-lt-SHEET_SIZE : goal.returns-then-sheet-lt-SHEET_SIZE
returns-then-sheet-lt-SHEET_SIZE g c f h = short-sheet _ _ _ (omega arith)

pub returns-then-answer-lt-ANSWER_SIZE : goal.returns-then-answer-lt-ANSWER_SIZE
returns-then-answer-lt-ANSWER_SIZE g c f h = short-answer _ _ _ (omega arith) (omega arith)

pub returns : goal.returns
unfolding handed answer_reply
returns g c f h =
    let a = c.tell.ensures in
    let d = h _ _ c.call-done.ensures in
    rw (c.write_sheet.ensures, ap (λ (x : Reply). x.code) a, ap (λ (x : Reply). x.bytes) a, d, c.read_sheet.ensures)
    (both_written _ _ _ (omega arith) (omega arith))
