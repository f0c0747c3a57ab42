use Rattle.query_laws.proofs.RowsAlone.{base-rows, filter-rows, project-rows, join-rows, apply-rows, union-rows, intersect-rows, except-rows, distinct-rows, aggregate-rows, limit-rows}
use Rattle.query_laws.proofs.congruence.laws.nodes_see_rows_alone.Goals as goal

pub returns-clause-base : goal.returns-clause-base
returns-clause-base c = base-rows

pub returns-clause-filter : goal.returns-clause-filter
returns-clause-filter c = filter-rows

pub returns-clause-project : goal.returns-clause-project
returns-clause-project c = project-rows

pub returns-clause-join : goal.returns-clause-join
returns-clause-join c = join-rows

pub returns-clause-apply : goal.returns-clause-apply
returns-clause-apply c = apply-rows

pub returns-clause-union_of : goal.returns-clause-union_of
returns-clause-union_of c = union-rows

pub returns-clause-intersect : goal.returns-clause-intersect
returns-clause-intersect c = intersect-rows

pub returns-clause-except : goal.returns-clause-except
returns-clause-except c = except-rows

pub returns-clause-distinct : goal.returns-clause-distinct
returns-clause-distinct c = distinct-rows

pub returns-clause-aggregate : goal.returns-clause-aggregate
returns-clause-aggregate c = aggregate-rows

pub returns-clause-limit : goal.returns-clause-limit
returns-clause-limit c = limit-rows
