use Rattle.statement_meaning.proofs.Unspent.{no-number}
use Rattle.statement_meaning.proofs.laws.no_rule_wants_a_number.Goals as goal

pub returns : goal.returns
returns c = no-number
