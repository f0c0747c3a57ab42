use Rattle.query_laws.proofs.OwnTables.{over-own_tables}
use Rattle.query_laws.proofs.replaced.each_table.tables_in_their_own_places_change_nothing.Goals as goal

pub returns : goal.returns
returns c = over-own_tables
