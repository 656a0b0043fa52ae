-- Check digits. ISO 7064, MOD 97-10, where it generates them: two digits 00 are put in their place, and 98 less the remainder of that text
-- is written there instead; SCOPE, "The repair sheet": "always 02..98".
use Rattle.std.specs.Prelude.{ℕ, ◌+◌, ◌-◌, ◌/◌, ◌%◌, ◌≤◌, ◌≡◌, List, [], ◌∷◌, set}

-- from the remainder that digits 00 give; a number of 97 or more counts by its own remainder
abbrev pub check_digits : ℕ → ℕ
check_digits r = 98 - r % 97

pub record Fills (r d : ℕ) : Type 0 where
  pub is : d ≡ check_digits r
  pub least : 2 ≤ d
  pub most : d ≤ 98

-- d as two characters
abbrev pub two_characters : ℕ → List ℕ
two_characters d = (48 + d / 10) ∷ (48 + d % 10) ∷ []

-- .. and these at places i and i + 1 of a text
abbrev pub stamped : List ℕ → ℕ → ℕ → List ℕ
stamped t i d = set (set t i (48 + d / 10)) (i + 1) (48 + d % 10)
