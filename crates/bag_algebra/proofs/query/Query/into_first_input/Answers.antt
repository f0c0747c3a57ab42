use Rattle.std.proofs.Common.{ap, sym, ◌∙◌}
use Rattle.bag_algebra.specs.Inputs.{inputs_of, first_of}
use Rattle.bag_algebra.specs.declared.query.Query.{Query}
use Rattle.bag_algebra.specs.built.Openings.{Base-is, Filter-is, Project_with-is, Join-is, Apply-is, Union-is, Intersect-is, Except-is, Distinct-is, Aggregate-is, Limit-is, Prov-is}
use Rattle.bag_algebra.proofs.Smaller.{first_smaller, first_given}
use Rattle.bag_algebra.proofs.query.Query.into_first_input.Goals as goal

pub returns-in-Table-clause-first : goal.returns-in-Table-clause-first
returns-in-Table-clause-first c = sym (ap (λ (query : Query). first_of (inputs_of query)) c.in-Table.is)

pub returns-in-Single-clause-first : goal.returns-in-Single-clause-first
returns-in-Single-clause-first c = sym (ap (λ (query : Query). first_of (inputs_of query)) c.in-Single.is)

pub returns-in-Base-clause-first : goal.returns-in-Base-clause-first
returns-in-Base-clause-first c = first_given c.args.self _ _ _ c.into_inner.ensures (ap inputs_of (c.in-Base.is ∙ Base-is c.in-Base.input c.in-Base._places c.in-Base._label))

pub returns-in-Base-clause-smaller : goal.returns-in-Base-clause-smaller
returns-in-Base-clause-smaller c = first_smaller c.args.self _ _ _ c.into_inner.ensures (ap inputs_of (c.in-Base.is ∙ Base-is c.in-Base.input c.in-Base._places c.in-Base._label))

pub returns-in-Filter-clause-first : goal.returns-in-Filter-clause-first
returns-in-Filter-clause-first c = first_given c.args.self _ _ _ c.into_inner-in-Filter.ensures (ap inputs_of (c.in-Filter.is ∙ Filter-is c.in-Filter.input c.in-Filter._condition c.in-Filter._subs))

pub returns-in-Filter-clause-smaller : goal.returns-in-Filter-clause-smaller
returns-in-Filter-clause-smaller c = first_smaller c.args.self _ _ _ c.into_inner-in-Filter.ensures (ap inputs_of (c.in-Filter.is ∙ Filter-is c.in-Filter.input c.in-Filter._condition c.in-Filter._subs))

pub returns-in-Project-clause-first : goal.returns-in-Project-clause-first
returns-in-Project-clause-first c = first_given c.args.self _ _ _ c.into_inner-in-Project.ensures (ap inputs_of (c.in-Project.is ∙ Project_with-is c.in-Project.input c.in-Project._items c.in-Project._subs))

pub returns-in-Project-clause-smaller : goal.returns-in-Project-clause-smaller
returns-in-Project-clause-smaller c = first_smaller c.args.self _ _ _ c.into_inner-in-Project.ensures (ap inputs_of (c.in-Project.is ∙ Project_with-is c.in-Project.input c.in-Project._items c.in-Project._subs))

pub returns-in-Join-clause-first : goal.returns-in-Join-clause-first
returns-in-Join-clause-first c = first_given c.args.self _ _ _ c.into_inner-in-Join.ensures (ap inputs_of (c.in-Join.is ∙ Join-is c.in-Join._kind c.in-Join.left c.in-Join._right c.in-Join._condition c.in-Join._subs))

pub returns-in-Join-clause-smaller : goal.returns-in-Join-clause-smaller
returns-in-Join-clause-smaller c = first_smaller c.args.self _ _ _ c.into_inner-in-Join.ensures (ap inputs_of (c.in-Join.is ∙ Join-is c.in-Join._kind c.in-Join.left c.in-Join._right c.in-Join._condition c.in-Join._subs))

pub returns-in-Apply-clause-first : goal.returns-in-Apply-clause-first
returns-in-Apply-clause-first c = first_given c.args.self _ _ _ c.into_inner-in-Apply.ensures (ap inputs_of (c.in-Apply.is ∙ Apply-is c.in-Apply._kind c.in-Apply.left c.in-Apply._right))

pub returns-in-Apply-clause-smaller : goal.returns-in-Apply-clause-smaller
returns-in-Apply-clause-smaller c = first_smaller c.args.self _ _ _ c.into_inner-in-Apply.ensures (ap inputs_of (c.in-Apply.is ∙ Apply-is c.in-Apply._kind c.in-Apply.left c.in-Apply._right))

pub returns-in-Union-clause-first : goal.returns-in-Union-clause-first
returns-in-Union-clause-first c = first_given c.args.self _ _ _ c.into_inner-in-Union.ensures (ap inputs_of (c.in-Union.is ∙ Union-is c.in-Union._all c.in-Union.left c.in-Union._right))

pub returns-in-Union-clause-smaller : goal.returns-in-Union-clause-smaller
returns-in-Union-clause-smaller c = first_smaller c.args.self _ _ _ c.into_inner-in-Union.ensures (ap inputs_of (c.in-Union.is ∙ Union-is c.in-Union._all c.in-Union.left c.in-Union._right))

pub returns-in-Intersect-clause-first : goal.returns-in-Intersect-clause-first
returns-in-Intersect-clause-first c = first_given c.args.self _ _ _ c.into_inner-in-Intersect.ensures (ap inputs_of (c.in-Intersect.is ∙ Intersect-is c.in-Intersect._all c.in-Intersect.left c.in-Intersect._right))

pub returns-in-Intersect-clause-smaller : goal.returns-in-Intersect-clause-smaller
returns-in-Intersect-clause-smaller c = first_smaller c.args.self _ _ _ c.into_inner-in-Intersect.ensures (ap inputs_of (c.in-Intersect.is ∙ Intersect-is c.in-Intersect._all c.in-Intersect.left c.in-Intersect._right))

pub returns-in-Except-clause-first : goal.returns-in-Except-clause-first
returns-in-Except-clause-first c = first_given c.args.self _ _ _ c.into_inner-in-Except.ensures (ap inputs_of (c.in-Except.is ∙ Except-is c.in-Except._all c.in-Except.left c.in-Except._right))

pub returns-in-Except-clause-smaller : goal.returns-in-Except-clause-smaller
returns-in-Except-clause-smaller c = first_smaller c.args.self _ _ _ c.into_inner-in-Except.ensures (ap inputs_of (c.in-Except.is ∙ Except-is c.in-Except._all c.in-Except.left c.in-Except._right))

pub returns-in-Distinct-clause-first : goal.returns-in-Distinct-clause-first
returns-in-Distinct-clause-first c = first_given c.args.self _ _ _ c.into_inner-in-Distinct.ensures (ap inputs_of (c.in-Distinct.is ∙ Distinct-is c.in-Distinct.input))

pub returns-in-Distinct-clause-smaller : goal.returns-in-Distinct-clause-smaller
returns-in-Distinct-clause-smaller c = first_smaller c.args.self _ _ _ c.into_inner-in-Distinct.ensures (ap inputs_of (c.in-Distinct.is ∙ Distinct-is c.in-Distinct.input))

pub returns-in-Aggregate-clause-first : goal.returns-in-Aggregate-clause-first
returns-in-Aggregate-clause-first c = first_given c.args.self _ _ _ c.into_inner-in-Aggregate.ensures (ap inputs_of (c.in-Aggregate.is ∙ Aggregate-is c.in-Aggregate.input c.in-Aggregate._groups c.in-Aggregate._aggregates))

pub returns-in-Aggregate-clause-smaller : goal.returns-in-Aggregate-clause-smaller
returns-in-Aggregate-clause-smaller c = first_smaller c.args.self _ _ _ c.into_inner-in-Aggregate.ensures (ap inputs_of (c.in-Aggregate.is ∙ Aggregate-is c.in-Aggregate.input c.in-Aggregate._groups c.in-Aggregate._aggregates))

pub returns-in-Limit-clause-first : goal.returns-in-Limit-clause-first
returns-in-Limit-clause-first c = first_given c.args.self _ _ _ c.into_inner-in-Limit.ensures (ap inputs_of (c.in-Limit.is ∙ Limit-is c.in-Limit.input c.in-Limit._keys c.in-Limit._count))

pub returns-in-Limit-clause-smaller : goal.returns-in-Limit-clause-smaller
returns-in-Limit-clause-smaller c = first_smaller c.args.self _ _ _ c.into_inner-in-Limit.ensures (ap inputs_of (c.in-Limit.is ∙ Limit-is c.in-Limit.input c.in-Limit._keys c.in-Limit._count))

pub returns-in-Prov-clause-first : goal.returns-in-Prov-clause-first
returns-in-Prov-clause-first c = first_given c.args.self _ _ _ c.into_inner-in-Prov.ensures (ap inputs_of (c.in-Prov.is ∙ Prov-is c.in-Prov.input))

pub returns-in-Prov-clause-smaller : goal.returns-in-Prov-clause-smaller
returns-in-Prov-clause-smaller c = first_smaller c.args.self _ _ _ c.into_inner-in-Prov.ensures (ap inputs_of (c.in-Prov.is ∙ Prov-is c.in-Prov.input))
