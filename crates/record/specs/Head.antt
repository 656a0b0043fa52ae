-- SCOPE, "The batch": "A record is a value length (two bytes, little-endian), a kind (two bytes, little-endian), the value."
use Rattle.std.specs.Prelude.{ℕ, ◌+◌, List, Result, Ok, Err, ltb, eqb, length, cond}
use Rattle.record.specs.Number.{little_at}
use Rattle.record.specs.declared.Head.{Head}
use Rattle.record.specs.declared.NoRecord.{NoRecord}
use Rattle.record.specs.declared.NoRecord.TheVariants.{End, Short, TooLong, CutShort}

-- the longest value that a head may announce
abbrev pub head_limit : ℕ
head_limit = 8192

-- the head of a whole record, of this kind and with a value of this length
abbrev pub Record : ℕ → ℕ → Result Head NoRecord
Record k n = Ok (record { kind = k; length = n })

-- what stands at the start of a batch: no bytes; fewer than 4; a length above the limit; a value cut short; a whole record
unfoldable pub head_of : List ℕ → Result Head NoRecord
head_of s =
    cond (eqb (length s) 0) (Err End)
    (cond (ltb (length s) 4) (Err Short)
    (cond (ltb head_limit (little_at s 0 2)) (Err TooLong)
    (cond (ltb (length s) (4 + little_at s 0 2)) (Err CutShort)
    (Record (little_at s 2 2) (little_at s 0 2)))))
