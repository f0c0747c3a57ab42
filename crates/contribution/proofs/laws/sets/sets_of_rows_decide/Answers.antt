use Rattle.contribution.proofs.SetsOfNodes.{filter-same_set, project-same_set, join-same_set, apply-same_set, union-same_set, intersect-same_set, except-same_set, distinct-same_set, distinct-is_free}
use Rattle.contribution.proofs.laws.sets.sets_of_rows_decide.Goals as goal

pub returns-clause-filter : goal.returns-clause-filter
returns-clause-filter c = filter-same_set

pub returns-clause-project : goal.returns-clause-project
returns-clause-project c = project-same_set

pub returns-clause-join : goal.returns-clause-join
returns-clause-join c = join-same_set

pub returns-clause-apply : goal.returns-clause-apply
returns-clause-apply c = apply-same_set

pub returns-clause-union : goal.returns-clause-union
returns-clause-union c = union-same_set

pub returns-clause-intersect : goal.returns-clause-intersect
returns-clause-intersect c = intersect-same_set

pub returns-clause-except : goal.returns-clause-except
returns-clause-except c = except-same_set

pub returns-clause-distinct : goal.returns-clause-distinct
returns-clause-distinct c = distinct-same_set

pub returns-clause-distinct_is_free : goal.returns-clause-distinct_is_free
returns-clause-distinct_is_free c = distinct-is_free
