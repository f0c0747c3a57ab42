use Rattle.contribution.proofs.ListedRows.{answers-of_contributing_rows}
use Rattle.contribution.proofs.laws.witnesses.contributing_rows_keep_the_value.Goals as goal
use Rattle.bag_algebra.proofs.Outcomes.{answers-each}

pub returns-clause-all_rows : goal.returns-clause-all_rows
returns-clause-all_rows c = answers-each

pub returns-clause-contributing_rows : goal.returns-clause-contributing_rows
returns-clause-contributing_rows c = answers-of_contributing_rows
