-- Definitions that only inner functions of `sheet` cite: a reader of the promises can pass over them.
use Rattle.std.specs.Prelude.{ℕ, List, take}
use Rattle.sheet.specs.Sheets.{remainder_by}
use Rattle.sheet.specs.declared.Sheet.{Sheet}

-- a sheet of these parts, with the remainder of its text
abbrev pub sheet_with : ℕ → ℕ → List ℕ → Sheet
sheet_with kind n text = record { kind = kind; length = n; remainder = remainder_by kind (take n text); text = text }
