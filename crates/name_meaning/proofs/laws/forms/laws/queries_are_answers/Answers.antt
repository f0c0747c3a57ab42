use Rattle.name_meaning.proofs.TreeLaws.{query-answer}
use Rattle.name_meaning.proofs.laws.forms.laws.queries_are_answers.Goals as goal

pub returns : goal.returns
returns c catalog tree around sound regular whole = query-answer catalog tree around sound regular whole
