-- The list of kind 8: how many codes it has, and that each is three bytes long.
use mathlib.Core.Path.{◌≡◌, refl}
use lib.Dec.{T}
use lib.ListN.{length}
use Rattle.codes.proofs.Laws.{fit}
use Rattle.currency.specs.Currency.{currencies}

pub counted : length currencies ≡ 183
unfolding currencies
counted = refl

pub formed : T (fit 3 currencies)
unfolding currencies
formed = tt
