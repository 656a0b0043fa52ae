-- `iban::drop_blanks`'s loop. The invariant: the text so far, and the characters that are left, are the field's in electronic format.
use Rattle.utf8.specs.Chars.{left}
use Rattle.iban.proofs.Blanks.{Dropping}
use Rattle.iban.proofs.drop_blanks.Given as goal

abbrev pub invariant-loop-place : goal.invariant-loop-place
invariant-loop-place l = Dropping l.s (left l.place-iterator) l.end l.count l.text
