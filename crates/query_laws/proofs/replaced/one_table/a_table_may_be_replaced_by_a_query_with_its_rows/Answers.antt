use Rattle.query_laws.proofs.KeptMeaning.{same_meaning-over}
use Rattle.query_laws.proofs.OneTable.{table-standing}
use Rattle.query_laws.proofs.replaced.one_table.a_table_may_be_replaced_by_a_query_with_its_rows.Goals as goal
use Rattle.query_laws.specs.replaced.OverQueries.{standing}

pub returns : goal.returns
returns c id p q db env closed places rows reads = same_meaning-over (standing id p) q db env (table-standing id p closed db rows q places reads)
