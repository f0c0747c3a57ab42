use Rattle.sql_printer.proofs.forms.FitsQueries.{answer-fits}
use Rattle.sql_printer.proofs.forms.laws.a_printed_answer_can_be_written.Goals as goal

pub returns : goal.returns
returns c = λ tables q names keys characters named form printable within.
    answer-fits tables characters q names keys form printable named within
