-- ISO 7064, the pure system MOD 97-10, and ISO 13616, where it validates check digits: each character is written as the decimal digits of
-- its value, all these digits together are read as ONE number, and that number is divided by 97. An IBAN's first four characters go to
-- its end before that; an LEI (ISO 17442) is taken as it stands.
use Rattle.std.specs.Prelude.{ℕ, ◌+◌, ◌*◌, ◌/◌, ◌%◌, ◌^◌, ◌<◌, ◌≡◌, List, [], ◌∷◌, ◌++◌, length, take, drop, set, get_or, cond}
use Rattle.text.specs.Class.{is_digit}
use Rattle.text.specs.Decimal.{decimal, digit_of}
use Rattle.checkdigit.specs.Letter.{letter_value}

-- a digit counts for itself, any other character as a letter does (the rules let letters and digits through only)
unfoldable pub character_value : ℕ → ℕ
character_value b = cond (is_digit b) (digit_of b) (letter_value b)

-- .. the first written with one decimal digit, the other with two
unfoldable pub character_digits : ℕ → List ℕ
character_digits b = cond (is_digit b) (character_value b ∷ []) (character_value b / 10 ∷ character_value b % 10 ∷ [])

unfoldable pub expand : List ℕ → List ℕ
expand [] = []
expand (b ∷ t) = character_digits b ++ expand t

-- the one number that the expanded text writes
abbrev pub number : List ℕ → ℕ
number t = decimal (expand t)

unfoldable pub remainder_of : List ℕ → ℕ
remainder_of t = number t % 97

-- an IBAN's first four characters go to the end
unfoldable pub rearranged : List ℕ → List ℕ
rearranged t = drop 4 t ++ take 4 t

unfoldable pub iban_remainder : List ℕ → ℕ
iban_remainder t = remainder_of (rearranged t)

-- the number that n's decimal digits write with the text's after them
unfoldable pub number_after : ℕ → List ℕ → ℕ
number_after n t = n * 10 ^ length (expand t) + number t

-- .. and its remainder
unfoldable pub continued : ℕ → List ℕ → ℕ
continued r t = number_after r t % 97

-- a result that is the remainder x
pub record Remains (x r : ℕ) : Type 0 where
  pub is : r ≡ x
  pub low : r < 97

-- the characters at two places change places
abbrev pub exchanged : List ℕ → ℕ → ℕ → List ℕ
exchanged t i j = set (set t i (get_or t j 0)) j (get_or t i 0)
