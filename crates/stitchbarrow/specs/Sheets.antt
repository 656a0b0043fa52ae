-- A sheet in bytes: kind 2, length 2, remainder 8, text 34, little-endian; 46 in all, and all zero when empty.
use Rattle.std.specs.Prelude.{ℕ, List, ◌++◌, take, drop}
use Rattle.record.specs.Number.{to_bytes, little_at}
use Rattle.sheet.specs.declared.Sheet.{Sheet}

abbrev pub sheet_size : ℕ
sheet_size = 46

-- the sheet that the first 46 bytes of a list write, whether or not a load gave it
unfoldable pub sheet_at : List ℕ → Sheet
sheet_at b = record { kind = little_at b 0 2; length = little_at b 2 2; remainder = little_at b 4 8; text = take 34 (drop 12 b) }

unfoldable pub sheet_bytes : Sheet → List ℕ
sheet_bytes s = to_bytes 2 s.kind ++ (to_bytes 2 s.length ++ (to_bytes 8 s.remainder ++ s.text))
