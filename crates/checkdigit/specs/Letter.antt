-- What a letter counts for, and what a slip is. ISO 13616, where it validates check digits, turns A into 10, B into 11 and so on to Z, 35;
-- SCOPE, "The ten kinds", goes on by the same rule for small letters: "a letter for its ASCII code less 55, so .. a is 42, z is 67".
use Rattle.std.specs.Prelude.{ℕ, ◌-◌, Bool, ◌&&◌, ◌||◌, ◌≢◌, T}
use Rattle.text.specs.Class.{is_digit, is_letter}

unfoldable pub letter_value : ℕ → ℕ
letter_value b = b - 55

-- two digits, or two letters
abbrev pub alike : ℕ → ℕ → Bool
alike a b = (is_digit a && is_digit b) || (is_letter a && is_letter b)

-- a slip: another digit for a digit, another letter for a letter
pub record Slip (a b : ℕ) : Type 0 where
  pub kind : T (alike a b)
  pub other : a ≢ b
