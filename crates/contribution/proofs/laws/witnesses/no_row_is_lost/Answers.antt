use Rattle.contribution.proofs.ListedRows.{row-listed, no_list-where_bad}
use Rattle.contribution.proofs.laws.witnesses.no_row_is_lost.Goals as goal

pub returns-clause-good : goal.returns-clause-good
returns-clause-good c = row-listed

pub returns-clause-bad : goal.returns-clause-bad
returns-clause-bad c = no_list-where_bad
