-- `sheet::load` meets its contract: where the check answers 0 or 5, the steps before the remainder passed, and the field has its sheet.
use mathlib.Core.Path.{sym}
use Rattle.sheet.proofs.Loads.{load_written}
use Rattle.sheet.proofs.load.Goals as goal

pub returns-then-is_summed : goal.returns-then-is_summed
returns-then-is_summed c =
    load_written _ _ _ _ _ _ (sym c.if-not-is_sheet_kind.ensures) c.check_field-answer.ensures (sym c.if-is_summed.ensures) c.sheet_of.ensures c.unwrap_or-sheet.ensures
