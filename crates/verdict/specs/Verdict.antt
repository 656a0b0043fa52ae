-- SCOPE, "The batch": the bytes that a record yields, "length 20 and the kind, two bytes each; the record's stream offset, eight; the answer, one; zero, one; place, two; number, eight; all little-endian".
use Rattle.std.specs.Prelude.{ℕ, ◌-◌, cond, List, ◌∷◌, ◌++◌, ltb, length, get_or}
use Rattle.answer.specs.Table.{number_of, place_of, value_of}
use Rattle.answer.specs.Result.{Answer}
use Rattle.record.specs.Number.{to_bytes, little_at}
use Rattle.verdict.specs.declared.Verdict.{Verdict}

-- how many bytes each record yields
abbrev pub verdict_size : ℕ
verdict_size = 24

-- an answer's part of them: the answer, zero, place, number
unfoldable pub answer_bytes : Answer → List ℕ
answer_bytes a = number_of a ∷ 0 ∷ to_bytes 2 (place_of a) ++ to_bytes 8 (value_of a)

-- the length counts what follows the first four bytes, as in a record
unfoldable pub verdict : ℕ → ℕ → Answer → List ℕ
verdict kind offset a = to_bytes 2 (verdict_size - 4) ++ (to_bytes 2 kind ++ (to_bytes 8 offset ++ answer_bytes a))

-- what the verdict at the start of v says, by the places where its numbers stand; fewer bytes than a verdict has say nothing
unfoldable pub read_verdict : List ℕ → Verdict
read_verdict v =
    cond (ltb (length v) verdict_size) (record { offset = 0; kind = 0; answer = 0; place = 0; number = 0 })
    (record {
      offset = little_at v 4 8;
      kind = little_at v 2 2;
      answer = get_or v 12 0;
      place = little_at v 14 2;
      number = little_at v 16 8;
    })

-- what a verdict says that was written with this kind, offset and answer
abbrev pub saying : ℕ → ℕ → Answer → Verdict
saying kind offset a = record { offset = offset; kind = kind; answer = number_of a; place = place_of a; number = value_of a }
