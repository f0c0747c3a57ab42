use Rattle.statement_meaning.proofs.Kept.{query-keeps}
use Rattle.statement_meaning.proofs.laws.answers.laws.a_query_changes_nothing.Goals as goal

pub returns : goal.returns
returns c = query-keeps
