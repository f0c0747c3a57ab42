use Rattle.contribution.proofs.OrderOfQueries.{same_meaning}
use Rattle.contribution.proofs.TablesRead.{tables_fit-same_tables}
use Rattle.contribution.proofs.laws.order.order_of_rows_is_free.Goals as goal

pub returns-clause-meaning : goal.returns-clause-meaning
returns-clause-meaning c = same_meaning

pub returns-clause-fitting : goal.returns-clause-fitting
returns-clause-fitting c = tables_fit-same_tables
