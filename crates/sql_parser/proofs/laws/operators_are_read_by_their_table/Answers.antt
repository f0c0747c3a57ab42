use Rattle.sql_parser.proofs.Tabled.{tabled}
use Rattle.sql_parser.proofs.laws.operators_are_read_by_their_table.Goals as goal

pub returns : goal.returns
returns c = tabled
