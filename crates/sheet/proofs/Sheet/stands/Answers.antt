-- `Sheet::stands` meets its contract: the empty sheet does not, any other where a load of its own text gives it.
use mathlib.Core.Path.{◌∙◌, sym, ap}
use mathlib.Core.Bool.{not}
use Rattle.sheet.specs.declared.Repaired.{Repaired}
use Rattle.sheet.proofs.Sheets.{same_to, differs, empty_falls, by_own}
use Rattle.sheet.proofs.Sheet.stands.Goals as goal

pub returns-then-ne : goal.returns-then-ne
returns-then-ne c =
    same_to _ _ _ _ c.eq.ensures (rw (c.held.ensures, c.empty-then-ne.ensures) at (ap (λ (r : Repaired). r.sheet) c.load.ensures))
    ∙ sym (by_own _ (differs _ _ _ c.empty.ensures c.ne.ensures ∙ ap not c.if-ne.true))

pub returns-else-ne : goal.returns-else-ne
returns-else-ne c = c.if-ne.false ∙ sym (empty_falls _ (differs _ _ _ c.empty.ensures c.ne.ensures ∙ ap not c.if-ne.false))
