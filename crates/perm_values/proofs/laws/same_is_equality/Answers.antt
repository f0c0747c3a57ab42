use Rattle.perm_values.specs.ValueLaws.{row_decides}
use Rattle.perm_values.proofs.laws.same_is_equality.Goals as goal

pub returns-clause-of_rows : goal.returns-clause-of_rows
returns-clause-of_rows c = row_decides
