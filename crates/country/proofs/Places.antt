-- What the rule of a country code says fits a verdict.
use Prim.Native.Nat.{ℕ}
use mathlib.Core.List.{List}
use native.Mathlib.Omega.{arith}
use Rattle.text.proofs.Near.{Small, Short}
use Rattle.codes.proofs.Places.{code_small}
use Rattle.country.specs.Country.{countries, country_answer}

pub country_small : (s : List ℕ) → Short s → Small (country_answer s)
unfolding country_answer
country_small s h = code_small 7 2 countries s (omega arith) h
