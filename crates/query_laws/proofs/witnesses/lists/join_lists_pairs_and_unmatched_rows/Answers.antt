use Rattle.query_laws.proofs.JoinLists.{join-lists}
use Rattle.query_laws.proofs.witnesses.lists.join_lists_pairs_and_unmatched_rows.Goals as goal

pub returns : goal.returns
returns c = join-lists
