use Rattle.delete_impact.proofs.reduced.OverRowsMade.{base-answer, filter-answer, project-answer, join-answer, union-answer, distinct-answer, copy-answer, made-Apply, made-Intersect, made-Except, made-Aggregate, made-Limit, made-Prov}
use Rattle.delete_impact.proofs.reduced.some_rows.+over_rows.Goals as goal

pub returns-in_ok-input-in-Base : goal.returns-in_ok-input-in-Base
returns-in_ok-input-in-Base t c =
    base-answer c.args.id c.args.condition.now c.args.query.now c.in-Base.input c.get.result.now c.in-Base.places c.in-Base.label c.in-Base.is c.get.ensures
    c.source_rows.result c.in_ok-input-in-Base.input c.source_rows.ensures c.in_ok-input-in-Base.ensures.first_was
    c.copy.result c.in_ok-input-in-Base.places c.copy.ensures c.in_ok-input-in-Base.ensures.second_was
    c.copy-in-Base.result c.in_ok-input-in-Base.label c.copy-in-Base.ensures c.in_ok-input-in-Base.ensures.third_was
    c.base.result c.base.ensures

pub returns-in_ok-input-in-Filter : goal.returns-in_ok-input-in-Filter
returns-in_ok-input-in-Filter t c =
    filter-answer c.args.id c.args.condition.now c.args.query.now c.in-Filter.input c.get-in-Filter.result.now c.in-Filter.test c.in-Filter.subs c.in-Filter.is c.get-in-Filter.ensures
    c.over_rows.result c.in_ok-input-in-Filter.input c.over_rows.ensures c.in_ok-input-in-Filter.ensures.first_was
    c.copy-in-Filter.result c.in_ok-input-in-Filter.test c.copy-in-Filter.ensures c.in_ok-input-in-Filter.ensures.second_was
    c.selection.result c.selection.ensures.made

pub returns-in_ok-input-in-Project : goal.returns-in_ok-input-in-Project
returns-in_ok-input-in-Project t c =
    project-answer c.args.id c.args.condition.now c.args.query.now c.in-Project.input c.get-in-Project.result.now c.in-Project.items c.in-Project.subs c.in-Project.is c.get-in-Project.ensures
    c.over_rows-in-Project.result c.in_ok-input-in-Project.input c.over_rows-in-Project.ensures c.in_ok-input-in-Project.ensures.first_was
    c.copy-in-Project.result c.in_ok-input-in-Project.items c.copy-in-Project.ensures c.in_ok-input-in-Project.ensures.second_was
    c.projection.result c.projection.ensures.made

pub returns-in_ok-left-in-Join : goal.returns-in_ok-left-in-Join
returns-in_ok-left-in-Join t c =
    join-answer c.args.id c.args.condition.now c.args.query.now c.in-Join.kind c.in-Join.left c.in-Join.right c.get-in-Join.result.now c.get-in-Join-2.result.now c.in-Join.test c.in-Join.subs c.in-Join.is
    c.get-in-Join.ensures c.get-in-Join-2.ensures c.over_rows-in-Join.result c.in_ok-left-in-Join.left c.over_rows-in-Join.ensures c.in_ok-left-in-Join.ensures.first_was
    c.over_rows-in-Join-2.result c.in_ok-left-in-Join.right c.over_rows-in-Join-2.ensures c.in_ok-left-in-Join.ensures.second_was
    c.copy-in-Join.result c.in_ok-left-in-Join.test c.copy-in-Join.ensures c.in_ok-left-in-Join.ensures.third_was
    c.join_on.result c.join_on.ensures.made

pub returns-in_ok-left-in-Union : goal.returns-in_ok-left-in-Union
returns-in_ok-left-in-Union t c =
    union-answer c.args.id c.args.condition.now c.args.query.now c.in-Union.all c.in-Union.left c.in-Union.right c.get-in-Union.result.now c.get-in-Union-2.result.now c.in-Union.is
    c.get-in-Union.ensures c.get-in-Union-2.ensures c.over_rows-in-Union.result c.in_ok-left-in-Union.left c.over_rows-in-Union.ensures c.in_ok-left-in-Union.ensures.first_was
    c.over_rows-in-Union-2.result c.in_ok-left-in-Union.right c.over_rows-in-Union-2.ensures c.in_ok-left-in-Union.ensures.second_was
    c.union.result c.union.ensures

pub returns-in_ok-over_rows-in-Distinct : goal.returns-in_ok-over_rows-in-Distinct
returns-in_ok-over_rows-in-Distinct t c =
    distinct-answer c.args.id c.args.condition.now c.args.query.now c.in-Distinct.input c.get-in-Distinct.result.now c.in_ok-over_rows-in-Distinct.field-0 c.in-Distinct.is c.get-in-Distinct.ensures
    c.in_ok-over_rows-in-Distinct.ensures c.distinct.result c.distinct.ensures

pub returns-in-Apply : goal.returns-in-Apply
returns-in-Apply t c =
    copy-answer c.args.id c.args.condition.now c.args.query.now _ c.args.query.now c.copy-in-Apply.result c.in-Apply.is (made-Apply c.args.id c.args.condition.now c.in-Apply.kind c.in-Apply.left c.in-Apply.right) c.copy-in-Apply.ensures

pub returns-in-Intersect : goal.returns-in-Intersect
returns-in-Intersect t c =
    copy-answer c.args.id c.args.condition.now c.args.query.now _ c.args.query.now c.copy-in-Intersect.result c.in-Intersect.is (made-Intersect c.args.id c.args.condition.now c.in-Intersect.all c.in-Intersect.left c.in-Intersect.right) c.copy-in-Intersect.ensures

pub returns-in-Except : goal.returns-in-Except
returns-in-Except t c =
    copy-answer c.args.id c.args.condition.now c.args.query.now _ c.args.query.now c.copy-in-Except.result c.in-Except.is (made-Except c.args.id c.args.condition.now c.in-Except.all c.in-Except.left c.in-Except.right) c.copy-in-Except.ensures

pub returns-in-Aggregate : goal.returns-in-Aggregate
returns-in-Aggregate t c =
    copy-answer c.args.id c.args.condition.now c.args.query.now _ c.args.query.now c.copy-in-Aggregate.result c.in-Aggregate.is (made-Aggregate c.args.id c.args.condition.now c.in-Aggregate.input c.in-Aggregate.groups c.in-Aggregate.aggregates) c.copy-in-Aggregate.ensures

pub returns-in-Limit : goal.returns-in-Limit
returns-in-Limit t c =
    copy-answer c.args.id c.args.condition.now c.args.query.now _ c.args.query.now c.copy-in-Limit.result c.in-Limit.is (made-Limit c.args.id c.args.condition.now c.in-Limit.input c.in-Limit.keys c.in-Limit.count) c.copy-in-Limit.ensures

pub returns-in-Prov : goal.returns-in-Prov
returns-in-Prov t c =
    copy-answer c.args.id c.args.condition.now c.args.query.now _ c.args.query.now c.copy-in-Prov.result c.in-Prov.is (made-Prov c.args.id c.args.condition.now c.in-Prov.input) c.copy-in-Prov.ensures
