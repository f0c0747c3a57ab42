use Rattle.statement_meaning.proofs.Provenance.{fronts}
use Rattle.statement_meaning.proofs.laws.answers.laws.no_answered_row_is_lost.Goals as goal

pub returns : goal.returns
returns c = fronts
