use Rattle.sql_printer.proofs.answers.ReadAnswers.{answer-read}
use Rattle.sql_printer.proofs.answers.ReadRows.{means-answer}
use Rattle.sql_printer.proofs.answers.a_printed_answer_means_the_answer.Goals as goal

pub returns : goal.returns
returns c = λ contents tables q kind more some form w named narrow few names keys same within tree d.
    means-answer contents tables q kind more some form w named names keys tree
    (answer-read contents tables q kind more some form w named narrow few names keys same within tree d)
