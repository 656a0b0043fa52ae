-- `country::validate_country` meets its contract: the table is the list's codes packed, which is computed over the whole table at once.
use Rattle.std.proofs.Common.{◌∙◌}
use Rattle.codes.proofs.Laws.{by_table}
use Rattle.country.specs.Country.{countries, country_answer}
use Rattle.country.proofs.Promises.{formed}
use Rattle.country.proofs.validate_country.Goals as goal

pub returns : goal.returns
unfolding country_answer countries
returns c = c.validate_code.ensures ∙ by_table 7 2 c.args.s.now countries formed
