-- `utf8::valid_prefix` meets its contract: an ASCII text is its own prefix, and any other is walked.
use mathlib.Core.Path.{sym, ◌∙◌}
use Rattle.utf8.proofs.Ascii.{ascii_prefix}
use Rattle.utf8.proofs.valid_prefix.Goals as goal

pub returns-then-is_ascii : goal.returns-then-is_ascii
returns-then-is_ascii c = sym (ascii_prefix _ (sym c.is_ascii.ensures ∙ c.if-is_ascii.true))
