use Rattle.query_laws.proofs.NodeLists.{aggregate-lists}
use Rattle.query_laws.proofs.witnesses.lists.aggregate_lists_its_class.Goals as goal

pub returns : goal.returns
returns c = aggregate-lists
