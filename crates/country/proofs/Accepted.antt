-- A country code that is accepted is ASCII.
use Prim.Native.Nat.{ℕ}
use mathlib.Core.Path.{◌≡◌}
use mathlib.Core.List.{List}
use lib.ListN.{length}
use Rattle.answer.specs.Result.{Accepted}
use Rattle.text.proofs.Low.{Low}
use Rattle.codes.proofs.Laws.{code-low}
use Rattle.country.specs.Country.{countries, country_answer}

pub country_low : (s : List ℕ) (n : ℕ) → country_answer s ≡ Accepted n → Low s 0 (length s)
unfolding country_answer
country_low s n e = code-low 7 2 s countries n e
