use Rattle.statement_meaning.proofs.Wide.{as-wide}
use Rattle.statement_meaning.proofs.laws.answers.laws.answers_are_as_wide_as_their_headers.Goals as goal

pub returns : goal.returns
returns c = as-wide
