-- What the rule of a currency code says fits a verdict.
use Prim.Native.Nat.{ℕ}
use mathlib.Core.List.{List}
use native.Mathlib.Omega.{arith}
use Rattle.text.proofs.Near.{Small, Short}
use Rattle.codes.proofs.Places.{code_small}
use Rattle.currency.specs.Currency.{currencies, currency_answer}

pub currency_small : (s : List ℕ) → Short s → Small (currency_answer s)
unfolding currency_answer
currency_small s h = code_small 8 3 currencies s (omega arith) h
