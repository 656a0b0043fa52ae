-- A number in decimal, as SCOPE's text writes it ("The batch"): the fewest ASCII digits that write it, the highest first.
use Rattle.std.specs.Prelude.{ℕ, zero, suc, ◌+◌, ◌/◌, ◌%◌, Bool, true, false, List, [], ◌∷◌, ◌++◌, ltb}

-- x in no more than k steps, where the truth value says whether it is below 10:
-- then it is one digit; else the digits of its tenth part come first, and then the last
unfoldable pub decimal_digits_in : ℕ → Bool → ℕ → List ℕ
decimal_digits_in zero b x = (48 + x) ∷ []
decimal_digits_in (suc k) true x = (48 + x) ∷ []
decimal_digits_in (suc k) false x = decimal_digits_in k (ltb (x / 10) 10) (x / 10) ++ ((48 + x % 10) ∷ [])

-- x steps are always enough
unfoldable pub decimal_digits : ℕ → List ℕ
decimal_digits x = decimal_digits_in x (ltb x 10) x
