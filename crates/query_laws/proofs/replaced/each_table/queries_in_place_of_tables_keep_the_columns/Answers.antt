use Rattle.query_laws.proofs.KeptColumns.{kinds-over, shape-over}
use Rattle.query_laws.proofs.KeptForms.{formed-over}
use Rattle.query_laws.proofs.replaced.each_table.queries_in_place_of_tables_keep_the_columns.Goals as goal

pub returns-clause-kinds : goal.returns-clause-kinds
returns-clause-kinds c = kinds-over

pub returns-clause-places : goal.returns-clause-places
returns-clause-places c = shape-over

pub returns-clause-formed : goal.returns-clause-formed
returns-clause-formed c at q outer h closed f = formed-over at q outer h closed f
