-- SCOPE, "The repair sheet": "Load takes a field of kind 1 or 2 that passes every step but the remainder ... It answers 0 or 5 as the
-- check does, and otherwise the check's refusal with the old sheet returned; any other kind is 12."
use Rattle.std.specs.Prelude.{ℕ, Bool, false, ◌||◌, cond, List, eqb}
use Rattle.answer.specs.Table.{number_of}
use Rattle.answer.specs.Result.{Answer, Refused}
use Rattle.answer.specs.declared.Reason.{Reason}
use Rattle.answer.specs.declared.Reason.TheVariants.{UnknownKind}
use Rattle.field.specs.Field.{check_field}
use Rattle.sheet.specs.Sheets.{sheet_kind, held_text, sheet_of, empty_sheet, held, same_sheet}
use Rattle.sheet.specs.declared.Sheet.{Sheet}
use Rattle.sheet.specs.declared.Repaired.{Repaired}

-- a call that was refused returns the sheet that went in
abbrev pub refusal : Sheet → Reason → ℕ → Repaired
refusal s r k = record { answer = Refused r k; sheet = s }

-- 0 or 5: every step but the remainder passed
unfoldable pub summed : Answer → Bool
summed a = eqb (number_of a) 0 || eqb (number_of a) 5

unfoldable pub load_of : ℕ → List ℕ → Sheet → Repaired
load_of kind s old =
    cond (sheet_kind kind)
    (record { answer = check_field kind s; sheet = cond (summed (check_field kind s)) (sheet_of kind (held_text kind s)) old })
    (refusal old (UnknownKind kind) 24)

-- a sheet stands where it is not empty, and is the one that loading its own text into an empty sheet gives
unfoldable pub standing : Sheet → Bool
standing s = cond (same_sheet s empty_sheet) false (same_sheet (load_of s.kind (held s) empty_sheet).sheet s)
