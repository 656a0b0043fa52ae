-- The reply of a load or a repair: nothing is written where a slice is too short, and both are where neither is.
use Prim.Native.Nat.{ℕ, ◌≤◌, ◌<◌}
use mathlib.Core.Path.{◌≡◌}
use mathlib.Core.List.{List}
use borrow.Author.Tests.{lt-ltb, le-ltb}
use lib.ListN.{length}
use Rattle.sheet.specs.declared.Repaired.{Repaired}
use Rattle.stitchbarrow.specs.Sheets.{sheet_size}
use Rattle.stitchbarrow.specs.Reply.{answer_size, handed, sheet_reply}

module _ (r : Repaired) (sheet answer : List ℕ) where
  pub short-sheet : length sheet < sheet_size → record { code = 255; sheet = sheet; answer = answer } ≡ sheet_reply r sheet answer
  unfolding sheet_reply
  short-sheet s = rw (lt-ltb (length sheet) sheet_size s)

  pub short-answer : sheet_size ≤ length sheet → length answer < answer_size → record { code = 255; sheet = sheet; answer = answer } ≡ sheet_reply r sheet answer
  unfolding sheet_reply
  short-answer s a = rw (le-ltb (length sheet) sheet_size s, lt-ltb (length answer) answer_size a)

  pub both_written : sheet_size ≤ length sheet → answer_size ≤ length answer → handed r sheet answer ≡ sheet_reply r sheet answer
  unfolding sheet_reply
  both_written s a = rw (le-ltb (length sheet) sheet_size s, le-ltb (length answer) answer_size a)
