-- Definitions that only inner functions of `stitchbarrow` cite: a reader of the promises can pass over them.
use Rattle.std.specs.Prelude.{ℕ, ◌≡◌, List}
use Rattle.sheet.specs.declared.Sheet.{Sheet}
use Rattle.sheet.specs.declared.Repaired.{Repaired}
use Rattle.stitchbarrow.specs.Sheets.{sheet_at}
use Rattle.stitchbarrow.specs.Reply.{SheetReply, sheet_reply}

-- What a call on a sheet replies, where `made` says what the call makes of a sheet: whatever function gives that, the reply is of that function.
abbrev pub Replies : (Sheet → Repaired → Type 0) → List ℕ → List ℕ → SheetReply → Type 0
Replies made sheet answer r = (f : Sheet → Repaired) → ((s : Sheet) (d : Repaired) → made s d → d ≡ f s) → r ≡ sheet_reply (f (sheet_at sheet)) sheet answer
