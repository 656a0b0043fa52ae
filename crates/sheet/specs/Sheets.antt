-- SCOPE, "The repair sheet": "The held text of at most 34 characters goes in and comes back by value, with kind 1 or 2, length and
-- remainder. .. The empty sheet is zero throughout, and bytes past the length are always zero."
use Rattle.std.specs.Prelude.{ℕ, Bool, ◌&&◌, cond, List, [], eqb, length, take}
use Rattle.answer.specs.Result.{Step}
use Rattle.text.specs.Ranges.{within}
use Rattle.text.specs.Same.{same_text}
use Rattle.checkdigit.specs.Sum.{remainder_of, iban_remainder}
use Rattle.iban.specs.Electronic.{electronic_text}
use Rattle.iban.specs.Iban.{iban_characters}
use Rattle.iban.specs.Format.{padded}
use Rattle.lei.specs.Lei.{lei_characters}
use Rattle.sheet.specs.declared.Sheet.{Sheet}

-- the kinds of a sheet
abbrev pub sheet_kind : ℕ → Bool
sheet_kind kind = within 1 2 kind

-- "an IBAN is held without its blanks", in electronic format; an LEI as it stands
unfoldable pub held_text : ℕ → List ℕ → List ℕ
held_text kind s = cond (eqb kind 1) (electronic_text s) s

-- every step of the kind's rule but the remainder
unfoldable pub characters : ℕ → List ℕ → Step
characters kind s = cond (eqb kind 1) (iban_characters s) (lei_characters s)

-- the remainder of a held text
unfoldable pub remainder_by : ℕ → List ℕ → ℕ
remainder_by kind t = cond (eqb kind 1) (iban_remainder t) (remainder_of t)

-- the sheet that holds a text
unfoldable pub sheet_of : ℕ → List ℕ → Sheet
sheet_of kind t = record { kind = kind; length = length t; remainder = remainder_by kind t; text = padded 34 t }

unfoldable pub empty_sheet : Sheet
empty_sheet = record { kind = 0; length = 0; remainder = 0; text = padded 34 [] }

-- the text that a sheet says it holds
abbrev pub held : Sheet → List ℕ
held s = take s.length s.text

-- two sheets are equal in all four parts
unfoldable pub same_sheet : Sheet → Sheet → Bool
same_sheet a b =
    eqb a.kind b.kind
    && (eqb a.length b.length
    && (eqb a.remainder b.remainder
    && same_text a.text b.text))

-- the check digits' first place: characters 3 and 4 of an IBAN, the last two of an LEI
abbrev pub digits_place : ℕ → ℕ
digits_place kind = cond (eqb kind 1) 2 18
