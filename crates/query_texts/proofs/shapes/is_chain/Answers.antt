use Rattle.std.proofs.Common.{◌∙◌, ◌&&◌, ap, sym}
use Rattle.bag_algebra.specs.Kinds.{width_of}
use Rattle.bag_algebra.specs.built.Openings.{Aggregate-is, Apply-is, Base-is, Distinct-is, Except-is, Filter-is, Intersect-is, Join-is, Limit-is, Project_with-is, Prov-is, Union-is}
use Rattle.query_texts.specs.clauses.Chains.{is_chained}
use Rattle.tree_texts.specs.expressions.Words.{is_any}
use Rattle.query_texts.specs.built.Shapes.{is_chain}
use Rattle.query_texts.proofs.shapes.is_chain.Goals as goal

pub returns-in-Base : goal.returns-in-Base
returns-in-Base c = sym (ap is_chain (c.in-Base.is ∙ Base-is c.in-Base.input c.in-Base.places c.in-Base.label))

pub returns-in-Filter : goal.returns-in-Filter
returns-in-Filter c = sym (ap is_chain (c.in-Filter.is ∙ Filter-is c.in-Filter.input c.in-Filter.condition c.in-Filter.subs))

pub returns-in-Project : goal.returns-in-Project
returns-in-Project c = sym (ap is_chain (c.in-Project.is ∙ Project_with-is c.in-Project.input c.in-Project.items c.in-Project.subs))

pub returns-in-Join : goal.returns-in-Join
returns-in-Join c =
    c.is_followed.ensures ∙ ap (λ q. is_chained c.in-Join.kind && is_any (width_of q)) c.get.ensures
    ∙ sym (ap is_chain (c.in-Join.is ∙ Join-is c.in-Join.kind c.in-Join.left c.in-Join.right c.in-Join.condition c.in-Join.subs))

pub returns-in-Apply : goal.returns-in-Apply
returns-in-Apply c =
    c.has_columns.ensures ∙ ap (λ q. is_any (width_of q)) c.get-in-Apply.ensures
    ∙ sym (ap is_chain (c.in-Apply.is ∙ Apply-is c.in-Apply.kind c.in-Apply.left c.in-Apply.right))

pub returns-in-Union : goal.returns-in-Union
returns-in-Union c = sym (ap is_chain (c.in-Union.is ∙ Union-is c.in-Union.all c.in-Union.left c.in-Union.right))

pub returns-in-Intersect : goal.returns-in-Intersect
returns-in-Intersect c = sym (ap is_chain (c.in-Intersect.is ∙ Intersect-is c.in-Intersect.all c.in-Intersect.left c.in-Intersect.right))

pub returns-in-Except : goal.returns-in-Except
returns-in-Except c = sym (ap is_chain (c.in-Except.is ∙ Except-is c.in-Except.all c.in-Except.left c.in-Except.right))

pub returns-in-Distinct : goal.returns-in-Distinct
returns-in-Distinct c = sym (ap is_chain (c.in-Distinct.is ∙ Distinct-is c.in-Distinct.input))

pub returns-in-Aggregate : goal.returns-in-Aggregate
returns-in-Aggregate c = sym (ap is_chain (c.in-Aggregate.is ∙ Aggregate-is c.in-Aggregate.input c.in-Aggregate.groups c.in-Aggregate.aggregates))

pub returns-in-Limit : goal.returns-in-Limit
returns-in-Limit c = sym (ap is_chain (c.in-Limit.is ∙ Limit-is c.in-Limit.input c.in-Limit.keys c.in-Limit.count))

pub returns-in-Prov : goal.returns-in-Prov
returns-in-Prov c = sym (ap is_chain (c.in-Prov.is ∙ Prov-is c.in-Prov.input))
