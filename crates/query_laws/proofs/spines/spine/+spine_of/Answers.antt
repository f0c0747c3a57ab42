use Rattle.std.proofs.Common.{◌∙◌, [], ap, refl, sym, subst, true≢false, None}
use Rattle.bag_algebra.specs.built.Openings.{Base-is, Join-is, Apply-is, Union-is, Intersect-is, Except-is, Distinct-is, Aggregate-is, Limit-is, Prov-is}
use Rattle.bag_algebra.specs.declared.query.Query.TheVariants.{Filter, Project}
use Rattle.query_laws.proofs.BuiltSpines.{filter-none, filter-with_subs, other-found, project-none, project-with_subs, step-found, step-none}
use Rattle.query_laws.specs.spines.Spines.{IsSpineOf, is_base}
use Rattle.query_laws.proofs.spines.spine.+spine_of.Goals as goal

pub returns-in-Table : goal.returns-in-Table
returns-in-Table t c = other-found c.args.width c.args.query.now _ c.in-Table.is refl (sym c.is_base.ensures ∙ c.if-is_base.false)

pub returns-in-Single : goal.returns-in-Single
returns-in-Single t c = other-found c.args.width c.args.query.now _ c.in-Single.is refl (sym c.is_base.ensures ∙ c.if-is_base.false)

pub returns-in-Base : goal.returns-in-Base
returns-in-Base t c = other-found c.args.width c.args.query.now _ (c.in-Base.is ∙ Base-is c.in-Base.input c.in-Base.places c.in-Base.label) refl (sym c.is_base.ensures ∙ c.if-is_base.false)

pub returns-in-Join : goal.returns-in-Join
returns-in-Join t c = other-found c.args.width c.args.query.now _ (c.in-Join.is ∙ Join-is c.in-Join.kind c.in-Join.left c.in-Join.right c.in-Join.condition c.in-Join.subs) refl (sym c.is_base.ensures ∙ c.if-is_base.false)

pub returns-in-Apply : goal.returns-in-Apply
returns-in-Apply t c = other-found c.args.width c.args.query.now _ (c.in-Apply.is ∙ Apply-is c.in-Apply.kind c.in-Apply.left c.in-Apply.right) refl (sym c.is_base.ensures ∙ c.if-is_base.false)

pub returns-in-Union : goal.returns-in-Union
returns-in-Union t c = other-found c.args.width c.args.query.now _ (c.in-Union.is ∙ Union-is c.in-Union.all c.in-Union.left c.in-Union.right) refl (sym c.is_base.ensures ∙ c.if-is_base.false)

pub returns-in-Intersect : goal.returns-in-Intersect
returns-in-Intersect t c = other-found c.args.width c.args.query.now _ (c.in-Intersect.is ∙ Intersect-is c.in-Intersect.all c.in-Intersect.left c.in-Intersect.right) refl (sym c.is_base.ensures ∙ c.if-is_base.false)

pub returns-in-Except : goal.returns-in-Except
returns-in-Except t c = other-found c.args.width c.args.query.now _ (c.in-Except.is ∙ Except-is c.in-Except.all c.in-Except.left c.in-Except.right) refl (sym c.is_base.ensures ∙ c.if-is_base.false)

pub returns-in-Distinct : goal.returns-in-Distinct
returns-in-Distinct t c = other-found c.args.width c.args.query.now _ (c.in-Distinct.is ∙ Distinct-is c.in-Distinct.input) refl (sym c.is_base.ensures ∙ c.if-is_base.false)

pub returns-in-Aggregate : goal.returns-in-Aggregate
returns-in-Aggregate t c = other-found c.args.width c.args.query.now _ (c.in-Aggregate.is ∙ Aggregate-is c.in-Aggregate.input c.in-Aggregate.groups c.in-Aggregate.aggregates) refl (sym c.is_base.ensures ∙ c.if-is_base.false)

pub returns-in-Limit : goal.returns-in-Limit
returns-in-Limit t c = other-found c.args.width c.args.query.now _ (c.in-Limit.is ∙ Limit-is c.in-Limit.input c.in-Limit.keys c.in-Limit.count) refl (sym c.is_base.ensures ∙ c.if-is_base.false)

pub returns-in-Prov : goal.returns-in-Prov
returns-in-Prov t c = other-found c.args.width c.args.query.now _ (c.in-Prov.is ∙ Prov-is c.in-Prov.input) refl (sym c.is_base.ensures ∙ c.if-is_base.false)

pub returns-then-not-is_empty : goal.returns-then-not-is_empty
returns-then-not-is_empty t c =
    subst (λ q. IsSpineOf c.args.width q None) (sym c.in-Filter.is)
    (filter-with_subs c.args.width c.in-Filter.input c.in-Filter.condition c.in-Filter.subs (λ e. true≢false (sym (c.is_empty.ensures.1 e) ∙ c.if-not-is_empty.true))
    (ap is_base (sym c.in-Filter.is) ∙ sym c.is_base.ensures ∙ c.if-is_base.false))

pub returns-in-Some : goal.returns-in-Some
returns-in-Some t c =
    step-found (λ input. Filter input c.in-Filter.condition []) c.args.width c.args.query.now c.in-Filter.input _ _ c.in-Some.spine c.filtered.result
    (c.in-Filter.is ∙ ap (Filter c.in-Filter.input c.in-Filter.condition) (c.is_empty.ensures.0 c.if-not-is_empty.false)) (sym c.is_base.ensures ∙ c.if-is_base.false)
    c.get.ensures c.in-Some.is c.in_ok-spine-in-Filter.ensures c.filtered.ensures

pub returns-in-None : goal.returns-in-None
returns-in-None t c =
    step-none (λ input. Filter input c.in-Filter.condition []) c.args.width c.args.query.now c.in-Filter.input _ _ (filter-none c.args.width c.in-Filter.input c.in-Filter.condition)
    (c.in-Filter.is ∙ ap (Filter c.in-Filter.input c.in-Filter.condition) (c.is_empty.ensures.0 c.if-not-is_empty.false)) (sym c.is_base.ensures ∙ c.if-is_base.false)
    c.get.ensures c.in-None.is c.in_ok-spine-in-Filter.ensures

pub returns-then-not-is_empty-2 : goal.returns-then-not-is_empty-2
returns-then-not-is_empty-2 t c =
    subst (λ q. IsSpineOf c.args.width q None) (sym c.in-Project.is)
    (project-with_subs c.args.width c.in-Project.input c.in-Project.items c.in-Project.subs (λ e. true≢false (sym (c.is_empty-in-Project.ensures.1 e) ∙ c.if-not-is_empty-2.true))
    (ap is_base (sym c.in-Project.is) ∙ sym c.is_base.ensures ∙ c.if-is_base.false))

pub returns-in-Some-2 : goal.returns-in-Some-2
returns-in-Some-2 t c =
    step-found (λ input. Project input c.in-Project.items []) c.args.width c.args.query.now c.in-Project.input _ _ c.in-Some-2.spine c.projected.result
    (c.in-Project.is ∙ ap (Project c.in-Project.input c.in-Project.items) (c.is_empty-in-Project.ensures.0 c.if-not-is_empty-2.false)) (sym c.is_base.ensures ∙ c.if-is_base.false)
    c.get-in-Project.ensures c.in-Some-2.is c.in_ok-spine-in-Project.ensures (rw c.as_slice.ensures at c.projected.ensures)

pub returns-in-None-2 : goal.returns-in-None-2
returns-in-None-2 t c =
    step-none (λ input. Project input c.in-Project.items []) c.args.width c.args.query.now c.in-Project.input _ _ (project-none c.args.width c.in-Project.input c.in-Project.items)
    (c.in-Project.is ∙ ap (Project c.in-Project.input c.in-Project.items) (c.is_empty-in-Project.ensures.0 c.if-not-is_empty-2.false)) (sym c.is_base.ensures ∙ c.if-is_base.false)
    c.get-in-Project.ensures c.in-None-2.is c.in_ok-spine-in-Project.ensures
