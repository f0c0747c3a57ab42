use Rattle.query_laws.proofs.NodeLists.{union-lists, intersect-lists, except-lists}
use Rattle.query_laws.proofs.witnesses.lists.set_operations_combine_lists.Goals as goal

pub returns-clause-union : goal.returns-clause-union
returns-clause-union c db env t w all left right = union-lists db env t w left right all

pub returns-clause-intersect : goal.returns-clause-intersect
returns-clause-intersect c db env t w all left right = intersect-lists db env t w left right all

pub returns-clause-except : goal.returns-clause-except
returns-clause-except c db env t w all left right = except-lists db env t w left right all
