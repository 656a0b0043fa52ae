-- `iban::zeros` meets its contract: 34 zeros pad the empty text.
use mathlib.Core.Path.{refl}
use Rattle.iban.specs.Format.{padded}
use Rattle.iban.proofs.zeros.Goals as goal

pub returns : goal.returns
unfolding padded
returns c = refl
