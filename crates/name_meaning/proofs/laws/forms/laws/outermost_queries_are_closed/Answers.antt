use Rattle.name_meaning.proofs.TreeLaws.{query-closed}
use Rattle.name_meaning.proofs.laws.forms.laws.outermost_queries_are_closed.Goals as goal

pub returns : goal.returns
returns c catalog tree around sound regular whole none wanted = query-closed catalog tree around sound regular whole none wanted
