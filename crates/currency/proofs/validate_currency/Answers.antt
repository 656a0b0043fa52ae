-- `currency::validate_currency` meets its contract: the table is the list's codes packed, which is computed over the whole table at once.
use Rattle.std.proofs.Common.{◌∙◌}
use Rattle.codes.proofs.Laws.{by_table}
use Rattle.currency.specs.Currency.{currencies, currency_answer}
use Rattle.currency.proofs.Promises.{formed}
use Rattle.currency.proofs.validate_currency.Goals as goal

pub returns : goal.returns
unfolding currency_answer currencies
returns c = c.validate_code.ensures ∙ by_table 8 3 c.args.s.now currencies formed
