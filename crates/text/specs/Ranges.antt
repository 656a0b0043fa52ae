-- Ranges of numbers, and tables of them as the public documents print them: a row says what stands for each number from lo to hi.
use Rattle.std.specs.Prelude.{ℕ, Bool, ◌&&◌, cond, List, [], ◌∷◌, leb}

-- lo ≤ x ≤ hi
abbrev pub within : ℕ → ℕ → ℕ → Bool
within lo hi x = leb lo x && leb x hi

pub record Span (A : Type 0) : Type 0 where
  pub lo : ℕ
  pub hi : ℕ
  pub is : A

abbrev pub span : {A : Type 0} → ℕ → ℕ → A → Span A
span lo hi a = record { lo = lo; hi = hi; is = a }

-- what the first row whose range holds x says, and d where none does
abbrev pub find : {A : Type 0} → A → List (Span A) → ℕ → A
find d [] x = d
find d (r ∷ rs) x = cond (within r.lo r.hi x) r.is (find d rs x)
