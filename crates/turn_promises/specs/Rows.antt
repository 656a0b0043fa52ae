-- SCOPE, "The batch": the program's text has a row for each record, of its offset, its kind and the three numbers of its field's answer.
use Rattle.std.specs.Prelude.{ℕ, List, [], ◌∷◌, ◌++◌}
use Rattle.answer.specs.Table.{number_of, place_of, value_of}
use Rattle.field.specs.Field.{check_field}
use Rattle.record.specs.Records.{RecordAt}
use Rattle.report.specs.Text.{numbers_line}

abbrev pub record_line : RecordAt → List ℕ
record_line e =
    let a = check_field e.kind e.value in
    numbers_line (e.offset ∷ e.kind ∷ number_of a ∷ place_of a ∷ value_of a ∷ [])

abbrev pub record_lines : List RecordAt → List ℕ
record_lines [] = []
record_lines (e ∷ es) = record_line e ++ record_lines es
