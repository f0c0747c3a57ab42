use Rattle.sql_printer.proofs.rows.ShownQueries.{answer-read}
use Rattle.sql_printer.proofs.rows.an_answer_is_read_with_its_rows.Goals as goal

pub returns : goal.returns
returns c = answer-read
