-- SCOPE, "The batch": the numbers of records and verdicts are "all little-endian", the lowest byte first.
use Rattle.std.specs.Prelude.{ℕ, zero, suc, ◌+◌, ◌*◌, ◌/◌, ◌%◌, ◌<◌, List, [], ◌∷◌, get_or, take, drop}

-- the k lowest bytes of x
abbrev pub to_bytes : ℕ → ℕ → List ℕ
to_bytes zero x = []
to_bytes (suc k) x = x % 256 ∷ to_bytes k (x / 256)

-- the number that bytes write
abbrev pub from_bytes : List ℕ → ℕ
from_bytes [] = 0
from_bytes (b ∷ s) = b + 256 * from_bytes s

-- the number that k bytes at a place write
abbrev pub little_at : List ℕ → ℕ → ℕ → ℕ
little_at s at k = from_bytes (take k (drop at s))

-- every element is a byte
abbrev pub Bytes : List ℕ → Type 0
Bytes b = (i : ℕ) → get_or b i 0 < 256
