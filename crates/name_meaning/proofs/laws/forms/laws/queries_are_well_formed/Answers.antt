use Rattle.name_meaning.proofs.TreeLaws.{query-formed}
use Rattle.name_meaning.proofs.laws.forms.laws.queries_are_well_formed.Goals as goal

pub returns : goal.returns
returns c catalog tree around sound regular whole rows hold wanted = query-formed catalog tree around sound regular whole rows hold wanted
