use Rattle.std.proofs.Common.{refl, sym, ap, ◌∙◌, true≢false}
use Rattle.bag_algebra.specs.built.Openings.{Base-is, Filter-is, Join-is, Apply-is, Union-is, Intersect-is, Except-is, Distinct-is, Aggregate-is, Limit-is, Prov-is}
use Rattle.rewrite_move.proofs.BuiltGroups.{below-no_subs, below-some_subs, stays}
use Rattle.rewrite_move.specs.Traced.{below_groups}
use Rattle.rewrite_move.proofs.below.+below_groups.Goals as goal

pub returns-then-is_empty : goal.returns-then-is_empty
returns-then-is_empty t c =
    c.below_groups.ensures ∙ ap below_groups c.get.ensures
    ∙ sym (ap below_groups c.in-Project.is ∙ below-no_subs c.in-Project.input c.in-Project.items c.in-Project.subs (c.is_empty.ensures.0 c.if-is_empty.true))

pub returns-else-is_empty : goal.returns-else-is_empty
returns-else-is_empty t c =
    c.in-Project.is
    ∙ sym (ap below_groups c.in-Project.is
    ∙ below-some_subs c.in-Project.input c.in-Project.items c.in-Project.subs (λ e. true≢false (sym (c.is_empty.ensures.1 e) ∙ c.if-is_empty.false)))

pub returns-in-Base : goal.returns-in-Base
returns-in-Base t c = stays _ _ _ c.in-Base.is (Base-is c.in-Base.input c.in-Base.places c.in-Base.label) refl

pub returns-in-Filter : goal.returns-in-Filter
returns-in-Filter t c = stays _ _ _ c.in-Filter.is (Filter-is c.in-Filter.input c.in-Filter.condition c.in-Filter.subs) refl

pub returns-in-Join : goal.returns-in-Join
returns-in-Join t c = stays _ _ _ c.in-Join.is (Join-is c.in-Join.kind c.in-Join.left c.in-Join.right c.in-Join.condition c.in-Join.subs) refl

pub returns-in-Apply : goal.returns-in-Apply
returns-in-Apply t c = stays _ _ _ c.in-Apply.is (Apply-is c.in-Apply.kind c.in-Apply.left c.in-Apply.right) refl

pub returns-in-Union : goal.returns-in-Union
returns-in-Union t c = stays _ _ _ c.in-Union.is (Union-is c.in-Union.all c.in-Union.left c.in-Union.right) refl

pub returns-in-Intersect : goal.returns-in-Intersect
returns-in-Intersect t c = stays _ _ _ c.in-Intersect.is (Intersect-is c.in-Intersect.all c.in-Intersect.left c.in-Intersect.right) refl

pub returns-in-Except : goal.returns-in-Except
returns-in-Except t c = stays _ _ _ c.in-Except.is (Except-is c.in-Except.all c.in-Except.left c.in-Except.right) refl

pub returns-in-Distinct : goal.returns-in-Distinct
returns-in-Distinct t c =
    c.below_groups-in-Distinct.ensures ∙ ap below_groups c.get-in-Distinct.ensures ∙ sym (ap below_groups (c.in-Distinct.is ∙ Distinct-is c.in-Distinct.input))

pub returns-in-Aggregate : goal.returns-in-Aggregate
returns-in-Aggregate t c =
    c.below_groups-in-Aggregate.ensures ∙ ap below_groups c.get-in-Aggregate.ensures
    ∙ sym (ap below_groups (c.in-Aggregate.is ∙ Aggregate-is c.in-Aggregate.input c.in-Aggregate.groups c.in-Aggregate.aggregates))

pub returns-in-Limit : goal.returns-in-Limit
returns-in-Limit t c = stays _ _ _ c.in-Limit.is (Limit-is c.in-Limit.input c.in-Limit.keys c.in-Limit.count) refl

pub returns-in-Prov : goal.returns-in-Prov
returns-in-Prov t c = stays _ _ _ c.in-Prov.is (Prov-is c.in-Prov.input) refl
