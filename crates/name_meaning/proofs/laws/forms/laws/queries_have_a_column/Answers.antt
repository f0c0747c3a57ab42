use Rattle.name_meaning.proofs.TreeLaws.{query-wide}
use Rattle.name_meaning.proofs.laws.forms.laws.queries_have_a_column.Goals as goal

pub returns : goal.returns
returns c catalog tree around sound regular whole wanted = query-wide catalog tree around sound regular whole wanted
