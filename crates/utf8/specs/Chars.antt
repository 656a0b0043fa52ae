-- RFC 3629, section 4, UTF8-octets = *( UTF8-char ): the characters of a text, up to the first place where none starts.
use Rattle.std.specs.Prelude.{ℕ, zero, suc, pred, ◌+◌, Bool, true, ◌&&◌, List, [], ◌∷◌, Option, Some, None, ltb, drop}
use Rattle.utf8.specs.Rfc3629.{front}
pub use Rattle.utf8.specs.Rfc3629.{ch}
use Rattle.utf8.specs.declared.Char.{Char}
use Rattle.utf8.specs.declared.Walk.{Walk}

-- the character that was found, and then those past its other bytes; its first is passed already
abbrev pub then : Option Char → (ℕ → List Char) → List Char
then None rest = []
then (Some c) rest = c ∷ rest (pred c.width)

-- the characters of a text past its first k bytes
unfoldable pub chars_past : ℕ → List ℕ → List Char
chars_past k [] = []
chars_past zero (a ∷ s) = then (front (a ∷ s)) (λ k. chars_past k s)
chars_past (suc k) (a ∷ s) = chars_past k s

abbrev pub chars : List ℕ → List Char
chars s = chars_past 0 s

-- how many bytes they take
unfoldable pub widths : List Char → ℕ
widths [] = 0
widths (c ∷ cs) = c.width + widths cs

-- characters that follow each other from a place on, each with its place
unfoldable pub placed : ℕ → List Char → List (ℕ × Char)
placed at [] = []
placed at (c ∷ cs) = (at, c) ∷ placed (at + c.width) cs

-- those that a walk over a text has left
unfoldable pub left : Walk → List (ℕ × Char)
left w = placed w.at (chars (drop w.at w.text.now))

-- the length of the longest well-formed prefix
unfoldable pub valid_prefix : List ℕ → ℕ
valid_prefix s = widths (chars s)

-- the US-ASCII texts of section 3: every byte is below 128
unfoldable pub ascii : List ℕ → Bool
ascii [] = true
ascii (a ∷ s) = ltb a 128 && ascii s
