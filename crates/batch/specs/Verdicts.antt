-- SCOPE, "The batch": "Each record yields 24 bytes, written where the verdict before it ended".
use Rattle.std.specs.Prelude.{List, [], ◌∷◌, ◌++◌, ℕ}
use Rattle.field.specs.Field.{check_field}
use Rattle.record.specs.Records.{RecordAt}
use Rattle.verdict.specs.Verdict.{verdict}

-- what a record yields: the verdict of its rule on its value
unfoldable pub verdict_of : RecordAt → List ℕ
verdict_of e = verdict e.kind e.offset (check_field e.kind e.value)

-- and records, one after another
unfoldable pub verdicts_of : List RecordAt → List ℕ
verdicts_of [] = []
verdicts_of (e ∷ es) = verdict_of e ++ verdicts_of es
