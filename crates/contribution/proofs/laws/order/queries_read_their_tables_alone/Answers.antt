use Rattle.contribution.proofs.TablesRead.{denote-equal_tables}
use Rattle.contribution.proofs.laws.order.queries_read_their_tables_alone.Goals as goal

pub returns : goal.returns
returns c = denote-equal_tables
