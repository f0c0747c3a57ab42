use Rattle.sql_printer.proofs.answers.ReadAnswers.{answer-read}
use Rattle.sql_printer.proofs.answers.a_printed_answer_is_read_back.Goals as goal

pub returns : goal.returns
returns c = answer-read
