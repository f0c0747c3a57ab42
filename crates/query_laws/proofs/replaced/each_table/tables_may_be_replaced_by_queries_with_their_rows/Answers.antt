use Rattle.query_laws.proofs.KeptMeaning.{same_meaning-over}
use Rattle.query_laws.proofs.replaced.each_table.tables_may_be_replaced_by_queries_with_their_rows.Goals as goal

pub returns : goal.returns
returns c = same_meaning-over
