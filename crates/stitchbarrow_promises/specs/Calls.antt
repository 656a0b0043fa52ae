-- Calls one after the other on the same two slices: each reads the bytes that the one before it left.
use Rattle.std.specs.Prelude.{List, [], ◌∷◌}
use Rattle.repairs.specs.declared.Request.{Request}
use Rattle.repairs.specs.Repairs.{repair_of}
use Rattle.stitchbarrow.specs.Sheets.{sheet_at}
use Rattle.stitchbarrow.specs.Reply.{SheetReply, sheet_reply}

unfoldable pub replies_after : SheetReply → List Request → SheetReply
replies_after r [] = r
replies_after r (q ∷ qs) = replies_after (sheet_reply (repair_of (sheet_at r.sheet) q) r.sheet r.answer) qs
