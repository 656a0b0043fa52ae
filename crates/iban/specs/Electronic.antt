-- ISO 13616 has an IBAN in electronic format, without blanks, and in print format, with blanks. SCOPE, kind 1: "Drop every White_Space
-- character": a field's characters in electronic format, each with its place in the field as it was lent.
use Rattle.std.specs.Prelude.{ℕ, zero, suc, ◌+◌, List, [], ◌∷◌, map, cond}
use Rattle.utf8.specs.Chars.{chars}
use Rattle.utf8.specs.declared.Char.{Char}
use Rattle.utf8.specs.Space.{white_space}

-- a character: the place of its first byte in the lent field, and its scalar value
pub record Character : Type 0 where
  pub place : ℕ
  pub scalar : ℕ

-- of characters that start at a place, those that are no blank
unfoldable pub electronic_from : ℕ → List Char → List Character
electronic_from at [] = []
electronic_from at (c ∷ cs) =
    cond (white_space c.scalar) (electronic_from (at + c.width) cs) (record { place = at; scalar = c.scalar } ∷ electronic_from (at + c.width) cs)

unfoldable pub electronic : List ℕ → List Character
electronic s = electronic_from 0 (chars s)

-- the text that characters write
unfoldable pub text_of : List Character → List ℕ
text_of l = map (λ c. c.scalar) l

-- the field's text in electronic format
abbrev pub electronic_text : List ℕ → List ℕ
electronic_text s = text_of (electronic s)

-- the place in the lent field of the k-th character, counted from 0
unfoldable pub place_in : ℕ → List Character → ℕ
place_in k [] = 0
place_in zero (c ∷ l) = c.place
place_in (suc k) (c ∷ l) = place_in k l
