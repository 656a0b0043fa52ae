-- `sheet::characters` meets its contract: an IBAN's, from its electronic format.
use Rattle.sheet.specs.Sheets.{characters}
use Rattle.sheet.proofs.Loads.{format_characters}
use Rattle.sheet.proofs.characters.Goals as goal

pub returns-in-1 : goal.returns-in-1
unfolding characters
returns-in-1 c = rw c.in-1.is (format_characters _ _ _ _ c.electronic_format.ensures c.map.ensures.cases)
