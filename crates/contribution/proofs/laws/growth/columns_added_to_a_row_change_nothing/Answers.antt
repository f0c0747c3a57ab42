use Rattle.contribution.proofs.AddedColumns.{columns-added, subs-same, condition_with_subs-same, items_with_subs-same}
use Rattle.contribution.proofs.laws.growth.columns_added_to_a_row_change_nothing.Goals as goal

pub returns-clause-columns : goal.returns-clause-columns
returns-clause-columns c = columns-added

pub returns-clause-sublinks : goal.returns-clause-sublinks
returns-clause-sublinks c = subs-same

pub returns-clause-condition : goal.returns-clause-condition
returns-clause-condition c = condition_with_subs-same

pub returns-clause-items : goal.returns-clause-items
returns-clause-items c = items_with_subs-same
