use Rattle.csv_tables.proofs.ReadBack.{records-answer}
use Rattle.csv_tables.proofs.laws.answers_read_back.Goals as goal

pub returns : goal.returns
returns c = records-answer
