use Rattle.query_laws.proofs.ApplyLists.{apply-lists}
use Rattle.query_laws.proofs.witnesses.lists.dependent_join_lists_rows_under_left_rows.Goals as goal

pub returns : goal.returns
returns c = apply-lists
