-- Definitions that only inner functions of `report` cite: a reader of the promises can pass over them.
use Rattle.std.specs.Prelude.{ℕ, ◌≡◌, List, length}
use Rattle.report.specs.Text.{at_start}

-- t was written at the start of a buffer, and r is how many bytes it has
pub record Put (t : List ℕ) (out₀ out : List ℕ) (r : ℕ) : Type 0 where
  pub end : r ≡ length t
  pub is : out ≡ at_start t out₀
