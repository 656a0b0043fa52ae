-- The number that decimal digits write, the first the highest: each digit at the weight of the power of ten for the digits behind it.
use Rattle.std.specs.Prelude.{ℕ, ◌+◌, ◌-◌, ◌*◌, ◌^◌, List, [], ◌∷◌, map, ltb, length, cond, Option, Some, None}

unfoldable pub decimal : List ℕ → ℕ
decimal [] = 0
decimal (d ∷ ds) = d * 10 ^ length ds + decimal ds

-- the value of an ASCII digit
abbrev pub digit_of : ℕ → ℕ
digit_of b = b - 48

-- the number that a text of ASCII digits writes
unfoldable pub number_written : List ℕ → ℕ
number_written t = decimal (map digit_of t)

-- SCOPE's limit of 64 bits: a number of 2^64 or more does not fit
unfoldable pub fitted : ℕ → Option ℕ
fitted n = cond (ltb n (2 ^ 64)) (Some n) None
