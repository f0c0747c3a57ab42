use Rattle.sql_printer.proofs.forms.EndedTexts.{ended-form}
use Rattle.sql_printer.proofs.forms.laws.an_ended_text_is_one_query.Goals as goal

pub returns : goal.returns
returns c = ended-form
