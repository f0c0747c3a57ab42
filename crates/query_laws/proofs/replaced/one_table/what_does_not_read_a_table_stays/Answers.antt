use Rattle.query_laws.proofs.OneTable.{own-standing}
use Rattle.query_laws.proofs.OwnTables.{over-own_tables}
use Rattle.query_laws.proofs.replaced.one_table.what_does_not_read_a_table_stays.Goals as goal
use Rattle.query_laws.specs.replaced.OverQueries.{standing}

pub returns : goal.returns
returns c id p q unread = over-own_tables (standing id p) q (own-standing id p q unread)
