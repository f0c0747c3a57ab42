use Rattle.query_laws.proofs.KeptColumns.{kinds-over, shape-over}
use Rattle.query_laws.proofs.KeptForms.{formed-over}
use Rattle.query_laws.proofs.OneTable.{columns-standing, closed-standing}
use Rattle.query_laws.proofs.replaced.one_table.a_query_in_place_of_a_table_keeps_the_columns.Goals as goal
use Rattle.query_laws.specs.replaced.OverQueries.{standing}

pub returns-clause-kinds : goal.returns-clause-kinds
returns-clause-kinds c id p q places reads = kinds-over (standing id p) q (columns-standing id p q places reads)

pub returns-clause-places : goal.returns-clause-places
returns-clause-places c id p q places reads = shape-over (standing id p) q (columns-standing id p q places reads)

pub returns-clause-formed : goal.returns-clause-formed
returns-clause-formed c id p q outer closed places reads f =
    formed-over (standing id p) q outer (columns-standing id p q places reads) (closed-standing id p closed q) f
