use Rattle.statement_meaning.proofs.Left.{left-rows}
use Rattle.statement_meaning.proofs.laws.delete_leaves_the_other_rows.Goals as goal

pub returns : goal.returns
returns c = left-rows
