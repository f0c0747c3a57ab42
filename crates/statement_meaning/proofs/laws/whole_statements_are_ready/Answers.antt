use Rattle.statement_meaning.proofs.Ready.{whole-ready}
use Rattle.statement_meaning.proofs.laws.whole_statements_are_ready.Goals as goal

pub returns : goal.returns
returns c = whole-ready
