-- The list of kind 7: how many codes it has, and that each is two bytes long.
use mathlib.Core.Path.{◌≡◌, refl}
use lib.Dec.{T}
use lib.ListN.{length}
use Rattle.codes.proofs.Laws.{fit}
use Rattle.country.specs.Country.{countries}

pub counted : length countries ≡ 250
unfolding countries
counted = refl

pub formed : T (fit 2 countries)
unfolding countries
formed = tt
