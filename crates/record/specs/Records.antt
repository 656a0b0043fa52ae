-- SCOPE, "The batch": the whole records at the start of a batch, each with its stream offset, up to the first place where none stands.
use Rattle.std.specs.Prelude.{ℕ, zero, suc, ◌+◌, ◌<◌, List, [], ◌∷◌, Result, Ok, Err, map, length, get_or, take, drop}
use Rattle.record.specs.Head.{head_of}
use Rattle.record.specs.declared.Head.{Head}
use Rattle.record.specs.declared.NoRecord.{NoRecord}

-- a record: the stream offset of its first byte, its kind and its value
pub record RecordAt : Type 0 where
  pub offset : ℕ
  pub kind : ℕ
  pub value : List ℕ

-- the record at the start of a batch, by what its head says
abbrev pub record_at : List ℕ → ℕ → ℕ → ℕ → RecordAt
record_at batch offset k n = record { offset = offset; kind = k; value = take n (drop 4 batch) }

-- a whole record, and then those past its bytes, of which one is passed already; where none stands they end
abbrev pub records_by : Result Head NoRecord → List ℕ → ℕ → (ℕ → List RecordAt) → List RecordAt
records_by (Err e) batch offset rest = []
records_by (Ok h) batch offset rest = record_at batch offset h.kind h.length ∷ rest (3 + h.length)

-- the records of a batch past its first n bytes
unfoldable pub records_past : ℕ → List ℕ → ℕ → List RecordAt
records_past n [] offset = []
records_past zero (b ∷ s) offset = records_by (head_of (b ∷ s)) (b ∷ s) offset (λ n. records_past n s (suc offset))
records_past (suc n) (b ∷ s) offset = records_past n s (suc offset)

-- the whole records of a batch whose first byte has this stream offset, up to the first place where none stands
abbrev pub records_of : List ℕ → ℕ → List RecordAt
records_of batch offset = records_past 0 batch offset

-- how many bytes records take
unfoldable pub sizes : List RecordAt → ℕ
sizes [] = 0
sizes (e ∷ es) = 4 + length e.value + sizes es

-- their stream offsets
abbrev pub offsets_of : List RecordAt → List ℕ
offsets_of es = map (λ e. e.offset) es

-- each number is below every later one
abbrev pub Increasing : List ℕ → Type 0
Increasing l = (i j : ℕ) → i < j → j < length l → get_or l i 0 < get_or l j 0
