use Rattle.statement_meaning.proofs.Adds.{whole-adds}
use Rattle.statement_meaning.proofs.laws.whole_statements_add_soundly.Goals as goal

pub returns : goal.returns
returns c = whole-adds
