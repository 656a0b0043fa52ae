-- `iban::drop_ascii_blanks`'s loop. The invariant: as in `drop_blanks`, where the characters that are left are those of the bytes from there on.
use lib.ListN.{drop}
use Rattle.utf8.specs.Chars.{chars, placed}
use Rattle.iban.proofs.Blanks.{Dropping}
use Rattle.iban.proofs.drop_ascii_blanks.Given as goal

abbrev pub invariant-loop-b : goal.invariant-loop-b
invariant-loop-b l = Dropping l.s (placed l.b-index (chars (drop l.b-index l.s))) l.b-index l.count l.text
