-- RFC 3629, sections 3 and 4: which bytes make a character of UTF-8 (the table of section 4's syntax), and the bits that they carry (the table of section 3).
use Rattle.std.specs.Prelude.{ℕ, ◌+◌, ◌*◌, ◌%◌, Bool, false, ◌&&◌, ◌||◌, cond, List, [], ◌∷◌, Option, Some, None, ltb, eqb, get_or}
use Rattle.text.specs.Ranges.{within, Span, span, find}
use Rattle.utf8.specs.declared.Lead.{Lead}
use Rattle.utf8.specs.declared.Char.{Char}

-- a character of w bytes, whose second byte is from l to h, and whose others are UTF8-tail, %x80-BF
abbrev pub lead : ℕ → ℕ → ℕ → Option Lead
lead w l h = Some (record { width = w; low = l; high = h })

-- section 4: the first byte's range; how many bytes; the second byte's range
abbrev pub leads : List (Span (Option Lead))
leads =
    span 0x00 0x7F (lead 1 0 0) ∷  -- UTF8-1 = %x00-7F
    span 0xC2 0xDF (lead 2 0x80 0xBF) ∷  -- UTF8-2 = %xC2-DF UTF8-tail
    span 0xE0 0xE0 (lead 3 0xA0 0xBF) ∷  -- UTF8-3 = %xE0 %xA0-BF UTF8-tail /
    span 0xE1 0xEC (lead 3 0x80 0xBF) ∷  --          %xE1-EC 2( UTF8-tail ) /
    span 0xED 0xED (lead 3 0x80 0x9F) ∷  --          %xED %x80-9F UTF8-tail /
    span 0xEE 0xEF (lead 3 0x80 0xBF) ∷  --          %xEE-EF 2( UTF8-tail )
    span 0xF0 0xF0 (lead 4 0x90 0xBF) ∷  -- UTF8-4 = %xF0 %x90-BF 2( UTF8-tail ) /
    span 0xF1 0xF3 (lead 4 0x80 0xBF) ∷  --          %xF1-F3 3( UTF8-tail ) /
    span 0xF4 0xF4 (lead 4 0x80 0x8F) ∷  --          %xF4 %x80-8F 2( UTF8-tail )
    []

-- no character starts with any other byte
unfoldable pub lead_of : ℕ → Option Lead
lead_of = find None leads

-- where a character of w bytes has a k-th byte, it is from lo to hi
unfoldable pub needed : ℕ → ℕ → ℕ → ℕ → ℕ → Bool
needed k w lo hi x = ltb w k || within lo hi x

-- the bytes after the first: the second is in the row's range, and the others are UTF8-tail
unfoldable pub well_formed : Lead → ℕ → ℕ → ℕ → Bool
well_formed l b c d =
    cond (eqb l.width 0) false
    (needed 2 l.width l.low l.high b && (needed 3 l.width 0x80 0xBF c && needed 4 l.width 0x80 0xBF d))

-- section 3: the x of 0xxxxxxx, 110xxxxx 10xxxxxx, 1110xxxx 10xxxxxx 10xxxxxx, 11110xxx 10xxxxxx 10xxxxxx 10xxxxxx
unfoldable pub scalar_of : ℕ → ℕ → ℕ → ℕ → ℕ → ℕ
scalar_of w a b c d =
    cond (eqb w 1) a
    (cond (eqb w 2) (a % 32 * 64 + b % 64)
    (cond (eqb w 3) (a % 16 * 4096 + b % 64 * 64 + c % 64)
    (a % 8 * 262144 + b % 64 * 4096 + c % 64 * 64 + d % 64)))

-- a scalar value that is written with w bytes
abbrev pub ch : ℕ → ℕ → Char
ch c w = record { scalar = c; width = w }

-- what a row says of the bytes a, b, c and d
abbrev pub by_row : Option Lead → ℕ → ℕ → ℕ → ℕ → Option Char
by_row None a b c d = None
by_row (Some l) a b c d = cond (well_formed l b c d) (Some (ch (scalar_of l.width a b c d) l.width)) None

unfoldable pub char_of : ℕ → ℕ → ℕ → ℕ → Option Char
char_of a b c d = by_row (lead_of a) a b c d

-- UTF8-char: the character at the front of a text (past its end we read 0, which no row has as a later byte)
unfoldable pub front : List ℕ → Option Char
front [] = None
front (a ∷ s) = char_of a (get_or s 0 0) (get_or s 1 0) (get_or s 2 0)
