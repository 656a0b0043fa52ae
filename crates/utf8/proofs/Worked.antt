-- Worked examples: the texts of RFC 3629, section 7, ill-formed ones of the kinds that its sections 3 and 10 name, and code points in and beside White_Space.
use Prim.Native.Nat.{ℕ}
use mathlib.Core.Path.{◌≡◌, refl}
use mathlib.Core.Bool.{Bool, true, false}
use mathlib.Core.List.{List, [], ◌∷◌, map}
use Rattle.utf8.specs.declared.Char.{Char}
use Rattle.utf8.specs.Rfc3629.{lead_of, needed, well_formed, scalar_of, ch, char_of, front}
use Rattle.utf8.specs.Chars.{chars_past, chars, widths, valid_prefix, ascii}
use Rattle.utf8.specs.Space.{white_space}

-- a text's characters, each with its width, and the length of its longest well-formed prefix
record Read : Type 0 where
  is : List Char
  prefix : ℕ

abbrev read : List ℕ → Read
read s = record { is = chars s; prefix = valid_prefix s }

abbrev says : List Char → ℕ → Read
says cs n = record { is = cs; prefix = n }

abbrev texts : List (List ℕ)
texts =
    (0x41 ∷ 0xE2 ∷ 0x89 ∷ 0xA2 ∷ 0xCE ∷ 0x91 ∷ 0x2E ∷ []) ∷  -- A, not identical to, Alpha, full stop
    (0xED ∷ 0x95 ∷ 0x9C ∷ 0xEA ∷ 0xB5 ∷ 0xAD ∷ 0xEC ∷ 0x96 ∷ 0xB4 ∷ []) ∷  -- Korean
    (0xE6 ∷ 0x97 ∷ 0xA5 ∷ 0xE6 ∷ 0x9C ∷ 0xAC ∷ 0xE8 ∷ 0xAA ∷ 0x9E ∷ []) ∷  -- Japanese
    (0xEF ∷ 0xBB ∷ 0xBF ∷ 0xF0 ∷ 0xA3 ∷ 0x8E ∷ 0xB4 ∷ []) ∷  -- a byte order mark, and U+233B4
    (0xC0 ∷ 0x80 ∷ []) ∷  -- overlong: U+0000 in two bytes
    (0xE0 ∷ 0x80 ∷ 0xAF ∷ []) ∷  -- overlong: "/" in three bytes
    (0xED ∷ 0xA0 ∷ 0x80 ∷ []) ∷  -- the surrogate D800
    (0xF4 ∷ 0x90 ∷ 0x80 ∷ 0x80 ∷ []) ∷  -- past U+10FFFF
    (0x41 ∷ 0xC2 ∷ 0xA0 ∷ 0xE2 ∷ 0x89 ∷ []) ∷  -- the last character is cut
    (0x2F ∷ 0xC0 ∷ 0xAE ∷ 0x2E ∷ 0x2F ∷ []) ∷  -- section 10's "/../" in disguise
    []

abbrev plain : List (List ℕ)
plain = (0x00 ∷ 0x7F ∷ []) ∷ (0x00 ∷ 0x80 ∷ []) ∷ []

abbrev points : List ℕ
points = 0x08 ∷ 0x09 ∷ 0x20 ∷ 0x85 ∷ 0xA0 ∷ 0x180E ∷ 0x200A ∷ 0x200B ∷ 0x2029 ∷ 0x3000 ∷ 0xFEFF ∷ []

record Answers : Type 0 where
  texts : List Read
  plain : List Bool
  points : List Bool

abbrev answers : Answers
answers =
    record {
      texts =
          says (ch 0x41 1 ∷ ch 0x2262 3 ∷ ch 0x391 2 ∷ ch 0x2E 1 ∷ []) 7 ∷
          says (ch 0xD55C 3 ∷ ch 0xAD6D 3 ∷ ch 0xC5B4 3 ∷ []) 9 ∷
          says (ch 0x65E5 3 ∷ ch 0x672C 3 ∷ ch 0x8A9E 3 ∷ []) 9 ∷
          says (ch 0xFEFF 3 ∷ ch 0x233B4 4 ∷ []) 7 ∷
          says [] 0 ∷
          says [] 0 ∷
          says [] 0 ∷
          says [] 0 ∷
          says (ch 0x41 1 ∷ ch 0xA0 2 ∷ []) 3 ∷
          says (ch 0x2F 1 ∷ []) 1 ∷
          [];
      plain = true ∷ false ∷ [];
      points = false ∷ true ∷ true ∷ true ∷ true ∷ false ∷ true ∷ false ∷ true ∷ true ∷ false ∷ [];
    }

pub worked : record {
  texts = map read texts;
  plain = map ascii plain;
  points = map white_space points;
} ≡ answers
unfolding lead_of needed well_formed scalar_of char_of front chars_past widths valid_prefix ascii white_space
worked = refl
