use Rattle.name_meaning.proofs.FittingTables.{tables-fit}
use Rattle.name_meaning.proofs.laws.tables.laws.tables_fit_queries.Goals as goal

pub returns : goal.returns
returns c = tables-fit
