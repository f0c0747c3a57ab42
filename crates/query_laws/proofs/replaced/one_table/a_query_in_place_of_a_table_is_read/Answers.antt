use Rattle.query_laws.proofs.OneTable.{from-read_over, in-read_over, fit-standing}
use Rattle.query_laws.proofs.replaced.one_table.a_query_in_place_of_a_table_is_read.Goals as goal

pub returns-clause-tables : goal.returns-clause-tables
returns-clause-tables c id p q read = (from-read_over id p q read, in-read_over id p q read)

pub returns-clause-fitting : goal.returns-clause-fitting
returns-clause-fitting c id p q db f g = fit-standing id p q db f g
