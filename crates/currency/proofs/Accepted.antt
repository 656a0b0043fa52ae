-- A currency code that is accepted is ASCII.
use Prim.Native.Nat.{ℕ}
use mathlib.Core.Path.{◌≡◌}
use mathlib.Core.List.{List}
use lib.ListN.{length}
use Rattle.answer.specs.Result.{Accepted}
use Rattle.text.proofs.Low.{Low}
use Rattle.codes.proofs.Laws.{code-low}
use Rattle.currency.specs.Currency.{currencies, currency_answer}

pub currency_low : (s : List ℕ) (n : ℕ) → currency_answer s ≡ Accepted n → Low s 0 (length s)
unfolding currency_answer
currency_low s n e = code-low 8 3 s currencies n e
