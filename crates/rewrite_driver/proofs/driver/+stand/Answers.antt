use Rattle.std.proofs.Common.{true≢false, take, refl, sym, ap, ◌∙◌, subst}
use Rattle.perm_values.proofs.Lists.{taken}
use Rattle.bag_algebra.specs.built.Openings.{shape-Prov, Base-is, Filter-is, Join-is, Apply-is, Union-is, Intersect-is, Except-is, Distinct-is, Aggregate-is, Limit-is, Prov-is}
use Rattle.bag_algebra.specs.declared.query.Query.TheVariants.{Single}
use Rattle.bag_algebra.specs.declared.query.SubKind.TheVariants.{Exists, Scalar}
use Rattle.rewrite_driver.proofs.ClosedNodes.{kept-Base, kept-Single, kept-Table}
use Rattle.rewrite_driver.proofs.MadeQueries.{stands_made, stands_where, rewrites_where, rewrites_without_places}
use Rattle.rewrite_driver.proofs.SublinkLists.{kept-none, traced-none}
use Rattle.rewrite_driver.proofs.TracedQueries.{kind_traced, traced_here, traced_below}
use Rattle.rewrite_driver.proofs.driver.+stand.Goals as goal
use Rattle.rewrite_driver.specs.KeptClosed.{StandsClosed, SubsStandClosed, SubsTracedClosed}
use Rattle.rewrite_driver.specs.Places.{is_some_place, has_places}
use Rattle.rewrite_move.proofs.BuiltGroups.{below-no_subs, below-some_subs, stays}
use Rattle.rewrite_move.specs.Traced.{below_groups}

pub stand-returns-in-Table : goal.stand-returns-in-Table
stand-returns-in-Table t c =
    stands_made _ _ c.table.result c.in-Table.is _ c.table.ensures (kept-Table c.in-Table.id c.in-Table.kinds)

pub stand-returns-in-Single : goal.stand-returns-in-Single
stand-returns-in-Single t c =
    subst (λ n. StandsClosed n Single) (sym c.in-Single.is) kept-Single

pub stand-returns-in-Base : goal.stand-returns-in-Base
stand-returns-in-Base t c =
    stands_where _ _ c.stand.result c.in-Base.is _ (λ b s. kept-Base _ b s c.in-Base.places c.in-Base.label) (rw c.get.ensures at c.stand.ensures)

pub stand-returns-in-Filter : goal.stand-returns-in-Filter
stand-returns-in-Filter t c =
    stands_where _ _ c.filter_standing.result c.in-Filter.is _ (λ p s. s) (c.filter_standing.ensures c.in-Filter.input c.in-Filter.subs (rw c.get-in-Filter.ensures at c.stand-rows.ensures) (rw c.as_slice.ensures at c.stand_subs-inside.ensures))

pub stand-returns-in-Project : goal.stand-returns-in-Project
stand-returns-in-Project t c =
    stands_where _ _ c.project_standing.result c.in-Project.is _ (λ p s. s) (c.project_standing.ensures c.in-Project.input c.in-Project.subs (rw c.get-in-Project.ensures at c.stand-rows-in-Project.ensures) (rw c.as_slice-in-Project.ensures at c.stand_subs-inside-in-Project.ensures))

pub stand-returns-in-Join : goal.stand-returns-in-Join
stand-returns-in-Join t c =
    stands_where _ _ c.join_standing.result c.in-Join.is _ (λ p s. s)
    (c.join_standing.ensures c.in-Join.left c.in-Join.right c.in-Join.subs (rw c.get-in-Join.ensures at c.stand-lefts.ensures) (rw c.get-in-Join-2.ensures at c.stand-rights.ensures) (rw c.as_slice-in-Join.ensures at c.stand_subs-inside-in-Join.ensures))

pub stand-returns-in-Union : goal.stand-returns-in-Union
stand-returns-in-Union t c =
    stands_where _ _ c.union_standing.result c.in-Union.is _ (λ p s. s) (c.union_standing.ensures c.in-Union.left c.in-Union.right (rw c.get-in-Union.ensures at c.stand-lefts-in-Union.ensures) (rw c.get-in-Union-2.ensures at c.stand-rights-in-Union.ensures))

pub stand-returns-in-Intersect : goal.stand-returns-in-Intersect
stand-returns-in-Intersect t c =
    stands_where _ _ c.intersect_standing.result c.in-Intersect.is _ (λ p s. s) (c.intersect_standing.ensures c.in-Intersect.left c.in-Intersect.right (rw c.get-in-Intersect.ensures at c.stand-lefts-in-Intersect.ensures) (rw c.get-in-Intersect-2.ensures at c.stand-rights-in-Intersect.ensures))

pub stand-returns-in-Except : goal.stand-returns-in-Except
stand-returns-in-Except t c =
    stands_where _ _ c.except_standing.result c.in-Except.is _ (λ p s. s) (c.except_standing.ensures c.in-Except.left c.in-Except.right (rw c.get-in-Except.ensures at c.stand-lefts-in-Except.ensures) (rw c.get-in-Except-2.ensures at c.stand-rights-in-Except.ensures))

pub stand-returns-in-Distinct : goal.stand-returns-in-Distinct
stand-returns-in-Distinct t c =
    stands_where _ _ c.distinct_standing.result c.in-Distinct.is _ (λ p s. s) (c.distinct_standing.ensures c.in-Distinct.input (rw c.get-in-Distinct.ensures at c.stand-in-Distinct.ensures))

pub stand-returns-in-Aggregate : goal.stand-returns-in-Aggregate
stand-returns-in-Aggregate t c =
    stands_where _ _ c.aggregate_standing.result c.in-Aggregate.is _ (λ p s. s) (c.aggregate_standing.ensures c.in-Aggregate.input (rw c.get-in-Aggregate.ensures at c.stand-rows-in-Aggregate.ensures))

pub stand-returns-in-Limit : goal.stand-returns-in-Limit
stand-returns-in-Limit t c =
    stands_where _ _ c.limit_standing.result c.in-Limit.is _ (λ p s. s) (c.limit_standing.ensures c.in-Limit.input (rw c.get-in-Limit.ensures at c.stand-rows-in-Limit.ensures))

pub stand-returns-in-Apply : goal.stand-returns-in-Apply
stand-returns-in-Apply t c =
    stands_where _ _ c.apply_standing.result c.in-Apply.is _ (λ p s. s) (c.apply_standing.ensures c.in-Apply.left c.in-Apply.right (rw c.get-in-Apply.ensures at c.stand-lefts-in-Apply.ensures) (rw c.get-in-Apply-2.ensures at c.stand-rights-in-Apply.ensures))

pub stand-returns-in-Prov : goal.stand-returns-in-Prov
stand-returns-in-Prov t c =
    stands_where _ _ c.provenance_standing.result c.in-Prov.is _ (λ p s. s) (c.provenance_standing.ensures c.in-Prov.input (rw c.get-in-Prov.ensures at c.rewriting.ensures))

pub stand_subs-loop-sub-init : goal.stand_subs-loop-sub-init
stand_subs-loop-sub-init t c = kept-none c.new-others.result c.new-others.ensures

pub stand_subs-loop-sub-preserved : goal.stand_subs-loop-sub-preserved
stand_subs-loop-sub-preserved t c =
    subst (λ subs. SubsStandClosed subs c.add_standing.new.others) (sym (taken c.args.subs.now c.loop-sub.sub-index c.sub-item.result c.loop-sub-test.true c.sub-item.is))
    (c.in_ok-add_standing.ensures (take c.loop-sub.sub-index c.args.subs.now) c.loop-sub.invariant c.stand-query.ensures)

pub rewriting-returns-else-found : goal.rewriting-returns-else-found
rewriting-returns-else-found t c =
    rewrites_without_places c.args.query.now c.stand.result (sym c.in_ok-found.ensures ∙ c.if-found.false) c.stand.ensures

pub by_rule-returns-in-Table : goal.by_rule-returns-in-Table
by_rule-returns-in-Table t c =
    rewrites_without_places c.args.query.now c.stand.result (ap has_places c.in-Table.is) c.stand.ensures

pub by_rule-returns-in-Single : goal.by_rule-returns-in-Single
by_rule-returns-in-Single t c =
    rewrites_without_places c.args.query.now c.stand-in-Single.result (ap has_places c.in-Single.is) c.stand-in-Single.ensures

pub by_rule-returns-in-Prov : goal.by_rule-returns-in-Prov
by_rule-returns-in-Prov t c =
    rewrites_without_places c.args.query.now c.stand-in-Prov.result (ap has_places c.in-Prov.is ∙ ap is_some_place (shape-Prov c.in-Prov.input)) c.stand-in-Prov.ensures

pub by_rule-returns-in-Base : goal.by_rule-returns-in-Base
by_rule-returns-in-Base t c =
    rewrites_where _ _ c.base_rule.result c.in-Base.is _ (λ p r. r)
    (rw c.as_slice.ensures at c.base_rule.ensures c.in-Base.input c.in-Base.label (rw c.get.ensures at c.stand-plain.ensures))

pub by_rule-filter_rule-requires-clause-rewritten : goal.by_rule-filter_rule-requires-clause-rewritten
by_rule-filter_rule-requires-clause-rewritten t c =
    rw c.get-in-Filter-2.ensures (rw c.get-in-Filter.ensures at c.rewriting-rows.ensures)

pub by_rule-filter_rule-requires-clause-subs_stand : goal.by_rule-filter_rule-requires-clause-subs_stand
by_rule-filter_rule-requires-clause-subs_stand t c =
    rw c.as_slice-in-Filter-3.ensures (rw c.as_slice-in-Filter.ensures at c.stand_subs-inside.ensures)

pub by_rule-filter_rule-requires-clause-subs_rewritten : goal.by_rule-filter_rule-requires-clause-subs_rewritten
by_rule-filter_rule-requires-clause-subs_rewritten t c =
    rw c.as_slice-in-Filter-3.ensures (rw c.as_slice-in-Filter-2.ensures at c.rewritten_subs-traced.ensures)

pub by_rule-returns-in-Filter : goal.by_rule-returns-in-Filter
by_rule-returns-in-Filter t c =
    rewrites_where _ _ c.filter_rule.result c.in-Filter.is _ (λ p r. r) (rw (c.get-in-Filter-2.ensures, c.as_slice-in-Filter-3.ensures) at c.filter_rule.ensures)

pub by_rule-project_rule-requires-clause-rewritten : goal.by_rule-project_rule-requires-clause-rewritten
by_rule-project_rule-requires-clause-rewritten t c =
    rw c.get-in-Project-2.ensures (rw c.get-in-Project.ensures at c.rewriting-rows-in-Project.ensures)

pub by_rule-project_rule-requires-clause-subs_stand : goal.by_rule-project_rule-requires-clause-subs_stand
by_rule-project_rule-requires-clause-subs_stand t c =
    rw c.as_slice-in-Project-4.ensures (rw c.as_slice-in-Project.ensures at c.stand_subs-inside-in-Project.ensures)

pub by_rule-project_rule-requires-clause-subs_rewritten : goal.by_rule-project_rule-requires-clause-subs_rewritten
by_rule-project_rule-requires-clause-subs_rewritten t c =
    rw c.as_slice-in-Project-4.ensures (rw c.as_slice-in-Project-2.ensures at c.rewritten_subs-traced-in-Project.ensures)

pub by_rule-returns-in-Project : goal.by_rule-returns-in-Project
by_rule-returns-in-Project t c =
    rewrites_where _ _ c.project_rule.result c.in-Project.is _ (λ p r. r) (rw (c.get-in-Project-2.ensures, c.as_slice-in-Project-3.ensures, c.as_slice-in-Project-4.ensures) at c.project_rule.ensures)

pub by_rule-join_rule-requires-clause-left : goal.by_rule-join_rule-requires-clause-left
by_rule-join_rule-requires-clause-left t c =
    rw c.get-in-Join-3.ensures (rw c.get-in-Join.ensures at c.rewriting-lefts.ensures)

pub by_rule-join_rule-requires-clause-right : goal.by_rule-join_rule-requires-clause-right
by_rule-join_rule-requires-clause-right t c =
    rw c.get-in-Join-4.ensures (rw c.get-in-Join-2.ensures at c.rewriting-rights.ensures)

pub by_rule-join_rule-requires-clause-subs_stand : goal.by_rule-join_rule-requires-clause-subs_stand
by_rule-join_rule-requires-clause-subs_stand t c =
    rw c.as_slice-in-Join-3.ensures (rw c.as_slice-in-Join.ensures at c.stand_subs-inside-in-Join.ensures)

pub by_rule-join_rule-requires-clause-subs_rewritten : goal.by_rule-join_rule-requires-clause-subs_rewritten
by_rule-join_rule-requires-clause-subs_rewritten t c =
    rw c.as_slice-in-Join-3.ensures (rw c.as_slice-in-Join-2.ensures at c.rewritten_subs-traced-in-Join.ensures)

pub by_rule-returns-in-Join : goal.by_rule-returns-in-Join
by_rule-returns-in-Join t c =
    rewrites_where _ _ c.join_rule.result c.in-Join.is _ (λ p r. r) (rw (c.get-in-Join-3.ensures, c.get-in-Join-4.ensures, c.as_slice-in-Join-3.ensures) at c.join_rule.ensures)

pub by_rule-apply_rule-requires-clause-left : goal.by_rule-apply_rule-requires-clause-left
by_rule-apply_rule-requires-clause-left t c =
    rw c.get-in-Apply-3.ensures (rw c.get-in-Apply.ensures at c.rewriting-lefts-in-Apply.ensures)

pub by_rule-apply_rule-requires-clause-right : goal.by_rule-apply_rule-requires-clause-right
by_rule-apply_rule-requires-clause-right t c =
    rw c.get-in-Apply-4.ensures (rw c.get-in-Apply-2.ensures at c.rewriting-rights-in-Apply.ensures)

pub by_rule-returns-in-Apply : goal.by_rule-returns-in-Apply
by_rule-returns-in-Apply t c =
    rewrites_where _ _ c.apply_rule.result c.in-Apply.is _ (λ p r. r) (rw (c.get-in-Apply-3.ensures, c.get-in-Apply-4.ensures) at c.apply_rule.ensures)

pub by_rule-union_rule-requires-clause-left : goal.by_rule-union_rule-requires-clause-left
by_rule-union_rule-requires-clause-left t c =
    rw c.get-in-Union-3.ensures (rw c.get-in-Union.ensures at c.rewriting-lefts-in-Union.ensures)

pub by_rule-union_rule-requires-clause-right : goal.by_rule-union_rule-requires-clause-right
by_rule-union_rule-requires-clause-right t c =
    rw c.get-in-Union-4.ensures (rw c.get-in-Union-2.ensures at c.rewriting-rights-in-Union.ensures)

pub by_rule-returns-in-Union : goal.by_rule-returns-in-Union
by_rule-returns-in-Union t c =
    rewrites_where _ _ c.union_rule.result c.in-Union.is _ (λ p r. r) (rw (c.get-in-Union-3.ensures, c.get-in-Union-4.ensures) at c.union_rule.ensures)

pub by_rule-returns-in-Intersect : goal.by_rule-returns-in-Intersect
by_rule-returns-in-Intersect t c =
    rewrites_where _ _ c.intersect_rule.result c.in-Intersect.is _ (λ p r. r) ((rw (c.get-in-Intersect-3.ensures, c.get-in-Intersect-4.ensures) at c.intersect_rule.ensures) (rw c.get-in-Intersect.ensures at c.rewriting-lefts-in-Intersect.ensures) (rw c.get-in-Intersect-2.ensures at c.rewriting-rights-in-Intersect.ensures))

pub by_rule-returns-in-Except : goal.by_rule-returns-in-Except
by_rule-returns-in-Except t c =
    rewrites_where _ _ c.except_rule.result c.in-Except.is _ (λ p r. r)
    (c.except_rule.ensures c.in-Except.left c.in-Except.right (rw c.get-in-Except.ensures at c.stand-plain_left.ensures) (rw c.get-in-Except-2.ensures at c.rewriting-lefts-in-Except.ensures)
    (rw c.get-in-Except-3.ensures at c.stand-plain_right.ensures) (rw c.get-in-Except-4.ensures at c.rewriting-rights-in-Except.ensures))

pub by_rule-distinct_rule-requires : goal.by_rule-distinct_rule-requires
by_rule-distinct_rule-requires t c =
    rw c.get-in-Distinct-2.ensures (rw c.get-in-Distinct.ensures at c.rewriting-rows-in-Distinct.ensures)

pub by_rule-returns-in-Distinct : goal.by_rule-returns-in-Distinct
by_rule-returns-in-Distinct t c =
    rewrites_where _ _ c.distinct_rule.result c.in-Distinct.is _ (λ p r. r) (rw c.get-in-Distinct-2.ensures at c.distinct_rule.ensures.rewrites)

pub by_rule-returns-in-Aggregate : goal.by_rule-returns-in-Aggregate
by_rule-returns-in-Aggregate t c =
    rewrites_where _ _ c.aggregate_rule.result c.in-Aggregate.is _ (λ p r. r)
    ((rw (c.as_slice-in-Aggregate.ensures, c.as_slice-in-Aggregate-2.ensures) at c.aggregate_rule.ensures) c.in-Aggregate.input (rw c.get-in-Aggregate.ensures at c.stand-plain_rows.ensures) (rw c.get-in-Aggregate-2.ensures at c.rewriting-rows-in-Aggregate.ensures))

pub by_rule-returns-in-Limit : goal.by_rule-returns-in-Limit
by_rule-returns-in-Limit t c =
    rewrites_where _ _ c.limit_rule.result c.in-Limit.is _ (λ p r. r)
    ((rw c.as_slice-in-Limit.ensures at c.limit_rule.ensures) c.in-Limit.input (rw c.get-in-Limit.ensures at c.stand-plain_rows-in-Limit.ensures) (rw c.get-in-Limit-2.ensures at c.rewriting-rows-in-Limit.ensures))

pub rewritten_subs-loop-sub-init : goal.rewritten_subs-loop-sub-init
rewritten_subs-loop-sub-init t c = traced-none c.new-rewritings.result c.new-rewritings.ensures

pub rewritten_subs-loop-sub-preserved : goal.rewritten_subs-loop-sub-preserved
rewritten_subs-loop-sub-preserved t c =
    subst (λ subs. SubsTracedClosed subs c.add_rewriting.new.rewritings) (sym (taken c.args.subs.now c.loop-sub.sub-index c.sub-item.result c.loop-sub-test.true c.sub-item.is))
    (c.in_ok-add_rewriting.ensures (take c.loop-sub.sub-index c.args.subs.now) c.sub-item.result c.loop-sub.invariant c.traced-query.ensures)

pub traced-returns-in-Exists : goal.traced-returns-in-Exists
traced-returns-in-Exists t c =
    kind_traced c.args.sub.now Exists c.below_groups.result c.in-Exists.is c.below_groups.ensures

pub traced-returns-in-Any : goal.traced-returns-in-Any
traced-returns-in-Any t c =
    kind_traced c.args.sub.now _ c.rewriting.result c.in-Any.is c.rewriting.ensures

pub traced-returns-in-All : goal.traced-returns-in-All
traced-returns-in-All t c =
    kind_traced c.args.sub.now _ c.rewriting-in-All.result c.in-All.is c.rewriting-in-All.ensures

pub traced-returns-in-Scalar : goal.traced-returns-in-Scalar
traced-returns-in-Scalar t c =
    kind_traced c.args.sub.now Scalar c.below_groups-in-Scalar.result c.in-Scalar.is c.below_groups-in-Scalar.ensures

pub below_groups-returns-in-Table : goal.below_groups-returns-in-Table
below_groups-returns-in-Table t c =
    traced_here c.args.query.now c.rewriting-in-Table.result (ap below_groups c.in-Table.is ∙ sym c.in-Table.is) c.rewriting-in-Table.ensures

pub below_groups-returns-in-Single : goal.below_groups-returns-in-Single
below_groups-returns-in-Single t c =
    traced_here c.args.query.now c.rewriting-in-Single.result (ap below_groups c.in-Single.is ∙ sym c.in-Single.is) c.rewriting-in-Single.ensures

pub below_groups-returns-in-Base : goal.below_groups-returns-in-Base
below_groups-returns-in-Base t c =
    traced_here c.args.query.now c.rewriting-in-Base.result (sym (stays _ _ _ c.in-Base.is (Base-is c.in-Base.input c.in-Base.places c.in-Base.label) refl)) c.rewriting-in-Base.ensures

pub below_groups-returns-in-Filter : goal.below_groups-returns-in-Filter
below_groups-returns-in-Filter t c =
    traced_here c.args.query.now c.rewriting-in-Filter.result (sym (stays _ _ _ c.in-Filter.is (Filter-is c.in-Filter.input c.in-Filter.condition c.in-Filter.subs) refl)) c.rewriting-in-Filter.ensures

pub below_groups-returns-in-Join : goal.below_groups-returns-in-Join
below_groups-returns-in-Join t c =
    traced_here c.args.query.now c.rewriting-in-Join.result (sym (stays _ _ _ c.in-Join.is (Join-is c.in-Join.kind c.in-Join.left c.in-Join.right c.in-Join.condition c.in-Join.subs) refl)) c.rewriting-in-Join.ensures

pub below_groups-returns-in-Union : goal.below_groups-returns-in-Union
below_groups-returns-in-Union t c =
    traced_here c.args.query.now c.rewriting-in-Union.result (sym (stays _ _ _ c.in-Union.is (Union-is c.in-Union.all c.in-Union.left c.in-Union.right) refl)) c.rewriting-in-Union.ensures

pub below_groups-returns-in-Intersect : goal.below_groups-returns-in-Intersect
below_groups-returns-in-Intersect t c =
    traced_here c.args.query.now c.rewriting-in-Intersect.result (sym (stays _ _ _ c.in-Intersect.is (Intersect-is c.in-Intersect.all c.in-Intersect.left c.in-Intersect.right) refl)) c.rewriting-in-Intersect.ensures

pub below_groups-returns-in-Except : goal.below_groups-returns-in-Except
below_groups-returns-in-Except t c =
    traced_here c.args.query.now c.rewriting-in-Except.result (sym (stays _ _ _ c.in-Except.is (Except-is c.in-Except.all c.in-Except.left c.in-Except.right) refl)) c.rewriting-in-Except.ensures

pub below_groups-returns-in-Limit : goal.below_groups-returns-in-Limit
below_groups-returns-in-Limit t c =
    traced_here c.args.query.now c.rewriting-in-Limit.result (sym (stays _ _ _ c.in-Limit.is (Limit-is c.in-Limit.input c.in-Limit.keys c.in-Limit.count) refl)) c.rewriting-in-Limit.ensures

pub below_groups-returns-in-Apply : goal.below_groups-returns-in-Apply
below_groups-returns-in-Apply t c =
    traced_here c.args.query.now c.rewriting-in-Apply.result (sym (stays _ _ _ c.in-Apply.is (Apply-is c.in-Apply.kind c.in-Apply.left c.in-Apply.right) refl)) c.rewriting-in-Apply.ensures

pub below_groups-returns-in-Prov : goal.below_groups-returns-in-Prov
below_groups-returns-in-Prov t c =
    traced_here c.args.query.now c.rewriting-in-Prov.result (sym (stays _ _ _ c.in-Prov.is (Prov-is c.in-Prov.input) refl)) c.rewriting-in-Prov.ensures

pub below_groups-returns-then-is_empty : goal.below_groups-returns-then-is_empty
below_groups-returns-then-is_empty t c =
    traced_below c.args.query.now c.in-Project.input c.below_groups.result
    (ap below_groups c.in-Project.is ∙ below-no_subs c.in-Project.input c.in-Project.items c.in-Project.subs (c.is_empty.ensures.0 c.if-is_empty.true))
    (rw c.get.ensures at c.below_groups.ensures)

pub below_groups-returns-else-is_empty : goal.below_groups-returns-else-is_empty
below_groups-returns-else-is_empty t c =
    traced_here c.args.query.now c.rewriting.result
    (ap below_groups c.in-Project.is
    ∙ below-some_subs c.in-Project.input c.in-Project.items c.in-Project.subs (λ e. true≢false (sym (c.is_empty.ensures.1 e) ∙ c.if-is_empty.false))
    ∙ sym c.in-Project.is) c.rewriting.ensures

pub below_groups-returns-in-Distinct : goal.below_groups-returns-in-Distinct
below_groups-returns-in-Distinct t c =
    traced_below c.args.query.now c.in-Distinct.input c.below_groups-in-Distinct.result (ap below_groups (c.in-Distinct.is ∙ Distinct-is c.in-Distinct.input))
    (rw c.get-in-Distinct.ensures at c.below_groups-in-Distinct.ensures)

pub below_groups-returns-in-Aggregate : goal.below_groups-returns-in-Aggregate
below_groups-returns-in-Aggregate t c =
    traced_below c.args.query.now c.in-Aggregate.input c.below_groups-in-Aggregate.result
    (ap below_groups (c.in-Aggregate.is ∙ Aggregate-is c.in-Aggregate.input c.in-Aggregate.groups c.in-Aggregate.aggregates))
    (rw c.get-in-Aggregate.ensures at c.below_groups-in-Aggregate.ensures)
