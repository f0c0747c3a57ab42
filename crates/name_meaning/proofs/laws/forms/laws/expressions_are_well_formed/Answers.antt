use Rattle.name_meaning.proofs.TreeLaws.{expr-formed}
use Rattle.name_meaning.proofs.laws.forms.laws.expressions_are_well_formed.Goals as goal

pub returns : goal.returns
returns c catalog tree here sound regular whole wanted before = expr-formed catalog tree here sound regular whole wanted before
