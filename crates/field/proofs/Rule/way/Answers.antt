-- `field::Rule::way` meets its contract: every rule but the IBAN's accepts ASCII only.
use Rattle.field.proofs.Ways.{rule_suits}
use Rattle.field.proofs.Rule.way.Goals as goal

pub returns-in_default : goal.returns-in_default
returns-in_default c = rule_suits c.args.self c.in_default.not-Iban
