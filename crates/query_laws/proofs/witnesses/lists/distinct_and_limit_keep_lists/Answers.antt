use Rattle.query_laws.proofs.NodeLists.{distinct-lists, limit-lists}
use Rattle.query_laws.proofs.witnesses.lists.distinct_and_limit_keep_lists.Goals as goal

pub returns-clause-distinct : goal.returns-clause-distinct
returns-clause-distinct c = distinct-lists

pub returns-clause-limit : goal.returns-clause-limit
returns-clause-limit c = limit-lists
