use Rattle.std.proofs.Common.{true, true≢false, ◌≡◌, [], take, refl, sym, ◌∙◌, subst, rules}
use Rattle.bag_algebra.proofs.Truths.{left-true, right-true}
use Rattle.bag_algebra.specs.Rewriting.{is_plain, Stands}
use Rattle.bag_algebra.specs.declared.query.Query.{the_lemmas}
use Rattle.bag_algebra.specs.built.FaultFree.{all_fault_free}
use Rattle.bag_algebra.specs.declared.query.JoinKind.TheVariants.{Inner}
use Rattle.bag_algebra.specs.declared.query.Query.TheVariants.{Single, Filter, Join, Project}
use Rattle.query_laws.proofs.StandingNodes.{stands-Base}
use Rattle.query_laws.specs.Standing.{SubsStand}
use Rattle.bag_algebra.specs.built.Scopes.{all_plain, is_plain-Base, is_plain-Filter, is_plain-Project, is_plain-Join, is_plain-Apply, is_plain-Union, is_plain-Intersect, is_plain-Except, is_plain-Distinct, is_plain-Aggregate, is_plain-Limit, is_plain-Prov}
use Rattle.rewrite_core.proofs.Itself.{stands-Table, stands-Single}
use Rattle.std.specs.Prelude.{IfSome}
use Rattle.perm_values.proofs.Lists.{taken}
use Rattle.perm_values.proofs.Results.{where_made}
use Rattle.contribution.specs.Conjunctions.{all_hold}
use Rattle.simpler_laws.specs.Lowered.{IsLowered}
use Rattle.simpler_laws.specs.Tested.{tested}
use Rattle.simplifier.proofs.Passing.{filter-input, filter-subs, only-safe, only-passes, quiet-safe, quiet-passes, project-input, project-safe, project-passes, join-left, join-right, left-safe, right-safe, join-passes}
use Rattle.simpler_laws.proofs.StandingParts.{stands_made, stands_where, one_of, first_of, second_of, at_each}
use Rattle.simplifier.proofs.passes.+under.Goals as goal

pub node-under-requires : goal.node-under-requires
node-under-requires t c =
    (search (rules, the_lemmas), (rw c.get.ensures (one_of is_plain _ _ c.requires c.in-Base.is _ (is_plain-Base c.in-Base.input c.in-Base.places c.in-Base.label)), refl))

pub node-returns-in-Table : goal.node-returns-in-Table
node-returns-in-Table t c =
    stands_made _ _ c.table.result c.in-Table.is _ c.table.ensures (stands-Table c.in-Table.id c.in-Table.kinds)

pub node-returns-in-Single : goal.node-returns-in-Single
node-returns-in-Single t c =
    subst (λ n. Stands n Single) (sym c.in-Single.is) stands-Single

pub node-returns-in-Base : goal.node-returns-in-Base
node-returns-in-Base t c =
    stands_where _ _ c.under.result c.in-Base.is _ (λ b s. stands-Base _ b s c.in-Base.places c.in-Base.label) (rw c.get.ensures at c.under.ensures)

pub node-under-rows-requires : goal.node-under-rows-requires
node-under-rows-requires t c =
    (search (rules, the_lemmas), (rw c.get-in-Filter.ensures (first_of is_plain _ _ c.requires c.in-Filter.is _ _ (is_plain-Filter c.in-Filter.input c.in-Filter.condition c.in-Filter.subs)), refl))

pub node-nodes-inside-requires : goal.node-nodes-inside-requires
node-nodes-inside-requires t c =
    (search (rules, the_lemmas), rw c.as_slice.ensures (second_of is_plain _ _ c.requires c.in-Filter.is _ _ (is_plain-Filter c.in-Filter.input c.in-Filter.condition c.in-Filter.subs)))

pub node-returns-in-Filter : goal.node-returns-in-Filter
node-returns-in-Filter t c =
    stands_where _ _ c.filter_node.result c.in-Filter.is _ (λ p s. s) (c.filter_node.ensures c.in-Filter.input c.in-Filter.subs (rw c.get-in-Filter.ensures at c.under-rows.ensures) (rw c.as_slice.ensures at c.nodes-inside.ensures))

pub node-under-rows-requires-in-Project : goal.node-under-rows-requires-in-Project
node-under-rows-requires-in-Project t c =
    (search (rules, the_lemmas), (rw c.get-in-Project.ensures (first_of is_plain _ _ c.requires c.in-Project.is _ _ (is_plain-Project c.in-Project.input c.in-Project.items c.in-Project.subs)), refl))

pub node-nodes-inside-requires-in-Project : goal.node-nodes-inside-requires-in-Project
node-nodes-inside-requires-in-Project t c =
    (search (rules, the_lemmas), rw c.as_slice-in-Project.ensures (second_of is_plain _ _ c.requires c.in-Project.is _ _ (is_plain-Project c.in-Project.input c.in-Project.items c.in-Project.subs)))

pub node-returns-in-Project : goal.node-returns-in-Project
node-returns-in-Project t c =
    stands_where _ _ c.whole_dropped.result c.in-Project.is _ (λ p s. s)
    (c.whole_dropped.ensures (Project c.in-Project.input c.in-Project.items c.in-Project.subs)
    (c.project_merged.ensures c.in-Project.input c.in-Project.subs (rw c.get-in-Project.ensures at c.under-rows-in-Project.ensures) (rw c.as_slice-in-Project.ensures at c.nodes-inside-in-Project.ensures)))

pub node-under-lefts-requires : goal.node-under-lefts-requires
node-under-lefts-requires t c =
    (search (rules, the_lemmas), (rw c.get-in-Join.ensures (left-true _ _ (first_of is_plain _ _ c.requires c.in-Join.is _ _ (is_plain-Join c.in-Join.kind c.in-Join.left c.in-Join.right c.in-Join.condition c.in-Join.subs))), refl))

pub node-under-rights-requires : goal.node-under-rights-requires
node-under-rights-requires t c =
    (search (rules, the_lemmas), (rw c.get-in-Join-2.ensures (right-true _ _ (first_of is_plain _ _ c.requires c.in-Join.is _ _ (is_plain-Join c.in-Join.kind c.in-Join.left c.in-Join.right c.in-Join.condition c.in-Join.subs))), refl))

pub node-nodes-inside-requires-in-Join : goal.node-nodes-inside-requires-in-Join
node-nodes-inside-requires-in-Join t c =
    (search (rules, the_lemmas), rw c.as_slice-in-Join.ensures (second_of is_plain _ _ c.requires c.in-Join.is _ _ (is_plain-Join c.in-Join.kind c.in-Join.left c.in-Join.right c.in-Join.condition c.in-Join.subs)))

pub node-returns-in-Join : goal.node-returns-in-Join
node-returns-in-Join t c =
    stands_where _ _ c.join_node.result c.in-Join.is _ (λ p s. s)
    (c.join_node.ensures c.in-Join.left c.in-Join.right c.in-Join.subs (rw c.get-in-Join.ensures at c.under-lefts.ensures) (rw c.get-in-Join-2.ensures at c.under-rights.ensures) (rw c.as_slice-in-Join.ensures at c.nodes-inside-in-Join.ensures))

pub node-under-lefts-requires-in-Union : goal.node-under-lefts-requires-in-Union
node-under-lefts-requires-in-Union t c =
    (search (rules, the_lemmas), (rw c.get-in-Union.ensures (first_of is_plain _ _ c.requires c.in-Union.is _ _ (is_plain-Union c.in-Union.all c.in-Union.left c.in-Union.right)), refl))

pub node-under-rights-requires-in-Union : goal.node-under-rights-requires-in-Union
node-under-rights-requires-in-Union t c =
    (search (rules, the_lemmas), (rw c.get-in-Union-2.ensures (second_of is_plain _ _ c.requires c.in-Union.is _ _ (is_plain-Union c.in-Union.all c.in-Union.left c.in-Union.right)), refl))

pub node-returns-in-Union : goal.node-returns-in-Union
node-returns-in-Union t c =
    stands_where _ _ c.union_standing.result c.in-Union.is _ (λ p s. s) (c.union_standing.ensures.stands c.in-Union.left c.in-Union.right (rw c.get-in-Union.ensures at c.under-lefts-in-Union.ensures) (rw c.get-in-Union-2.ensures at c.under-rights-in-Union.ensures))

pub node-under-lefts-requires-in-Intersect : goal.node-under-lefts-requires-in-Intersect
node-under-lefts-requires-in-Intersect t c =
    (search (rules, the_lemmas), (rw c.get-in-Intersect.ensures (first_of is_plain _ _ c.requires c.in-Intersect.is _ _ (is_plain-Intersect c.in-Intersect.all c.in-Intersect.left c.in-Intersect.right)), refl))

pub node-under-rights-requires-in-Intersect : goal.node-under-rights-requires-in-Intersect
node-under-rights-requires-in-Intersect t c =
    (search (rules, the_lemmas), (rw c.get-in-Intersect-2.ensures (second_of is_plain _ _ c.requires c.in-Intersect.is _ _ (is_plain-Intersect c.in-Intersect.all c.in-Intersect.left c.in-Intersect.right)), refl))

pub node-returns-in-Intersect : goal.node-returns-in-Intersect
node-returns-in-Intersect t c =
    stands_where _ _ c.intersect_standing.result c.in-Intersect.is _ (λ p s. s) (c.intersect_standing.ensures.stands c.in-Intersect.left c.in-Intersect.right (rw c.get-in-Intersect.ensures at c.under-lefts-in-Intersect.ensures) (rw c.get-in-Intersect-2.ensures at c.under-rights-in-Intersect.ensures))

pub node-under-lefts-requires-in-Except : goal.node-under-lefts-requires-in-Except
node-under-lefts-requires-in-Except t c =
    (search (rules, the_lemmas), (rw c.get-in-Except.ensures (first_of is_plain _ _ c.requires c.in-Except.is _ _ (is_plain-Except c.in-Except.all c.in-Except.left c.in-Except.right)), refl))

pub node-under-rights-requires-in-Except : goal.node-under-rights-requires-in-Except
node-under-rights-requires-in-Except t c =
    (search (rules, the_lemmas), (rw c.get-in-Except-2.ensures (second_of is_plain _ _ c.requires c.in-Except.is _ _ (is_plain-Except c.in-Except.all c.in-Except.left c.in-Except.right)), refl))

pub node-returns-in-Except : goal.node-returns-in-Except
node-returns-in-Except t c =
    stands_where _ _ c.except_standing.result c.in-Except.is _ (λ p s. s) (c.except_standing.ensures.stands c.in-Except.left c.in-Except.right (rw c.get-in-Except.ensures at c.under-lefts-in-Except.ensures) (rw c.get-in-Except-2.ensures at c.under-rights-in-Except.ensures))

pub node-under-requires-in-Distinct : goal.node-under-requires-in-Distinct
node-under-requires-in-Distinct t c =
    (search (rules, the_lemmas), (rw c.get-in-Distinct.ensures (one_of is_plain _ _ c.requires c.in-Distinct.is _ (is_plain-Distinct c.in-Distinct.input)), refl))

pub node-returns-in-Distinct : goal.node-returns-in-Distinct
node-returns-in-Distinct t c =
    stands_where _ _ c.distinct_once.result c.in-Distinct.is _ (λ p s. s) (c.distinct_once.ensures.stands c.in-Distinct.input (rw c.get-in-Distinct.ensures at c.under-in-Distinct.ensures))

pub node-under-rows-requires-in-Aggregate : goal.node-under-rows-requires-in-Aggregate
node-under-rows-requires-in-Aggregate t c =
    (search (rules, the_lemmas), (rw c.get-in-Aggregate.ensures (one_of is_plain _ _ c.requires c.in-Aggregate.is _ (is_plain-Aggregate c.in-Aggregate.input c.in-Aggregate.groups c.in-Aggregate.aggregates)), refl))

pub node-returns-in-Aggregate : goal.node-returns-in-Aggregate
node-returns-in-Aggregate t c =
    stands_where _ _ c.aggregate_standing.result c.in-Aggregate.is _ (λ p s. s) (c.aggregate_standing.ensures c.in-Aggregate.input (rw c.get-in-Aggregate.ensures at c.under-rows-in-Aggregate.ensures))

pub node-under-rows-requires-in-Limit : goal.node-under-rows-requires-in-Limit
node-under-rows-requires-in-Limit t c =
    (search (rules, the_lemmas), (rw c.get-in-Limit.ensures (one_of is_plain _ _ c.requires c.in-Limit.is _ (is_plain-Limit c.in-Limit.input c.in-Limit.keys c.in-Limit.count)), refl))

pub node-returns-in-Limit : goal.node-returns-in-Limit
node-returns-in-Limit t c =
    stands_where _ _ c.limit_standing.result c.in-Limit.is _ (λ p s. s) (c.limit_standing.ensures.stands c.in-Limit.input (rw c.get-in-Limit.ensures at c.under-rows-in-Limit.ensures))

pub node-under-lefts-requires-in-Apply : goal.node-under-lefts-requires-in-Apply
node-under-lefts-requires-in-Apply t c =
    (search (rules, the_lemmas), (rw c.get-in-Apply.ensures (first_of is_plain _ _ c.requires c.in-Apply.is _ _ (is_plain-Apply c.in-Apply.kind c.in-Apply.left c.in-Apply.right)), refl))

pub node-under-rights-requires-in-Apply : goal.node-under-rights-requires-in-Apply
node-under-rights-requires-in-Apply t c =
    (search (rules, the_lemmas), (rw c.get-in-Apply-2.ensures (second_of is_plain _ _ c.requires c.in-Apply.is _ _ (is_plain-Apply c.in-Apply.kind c.in-Apply.left c.in-Apply.right)), refl))

pub node-returns-in-Apply : goal.node-returns-in-Apply
node-returns-in-Apply t c =
    stands_where _ _ c.apply_standing.result c.in-Apply.is _ (λ p s. s) (c.apply_standing.ensures.stands c.in-Apply.left c.in-Apply.right (rw c.get-in-Apply.ensures at c.under-lefts-in-Apply.ensures) (rw c.get-in-Apply-2.ensures at c.under-rights-in-Apply.ensures))

pub node-unreachable-requires : goal.node-unreachable-requires
node-unreachable-requires t c =
    absurd (true≢false (sym (one_of is_plain _ _ c.requires c.in-Prov.is _ (is_plain-Prov c.in-Prov.input))))

pub nodes-under-query-requires : goal.nodes-under-query-requires
nodes-under-query-requires t c =
    (search (rules, the_lemmas), (at_each (λ sub. is_plain sub.query) all_plain (λ sub subs. refl) c.args.subs.now c.loop-sub.sub-index c.sub-item.result c.requires c.loop-sub-test.true c.sub-item.is, refl))

pub nodes-loop-sub-preserved : goal.nodes-loop-sub-preserved
nodes-loop-sub-preserved t c =
    subst (λ subs. SubsStand subs c.add_standing.new.others) (sym (taken c.args.subs.now c.loop-sub.sub-index c.sub-item.result c.loop-sub-test.true c.sub-item.is))
    (c.in_ok-add_standing.ensures (take c.loop-sub.sub-index c.args.subs.now) c.loop-sub.invariant c.under-query.ensures)

pub under-under-requires : goal.under-under-requires
under-under-requires t c =
    (search (rules, the_lemmas), (rw c.get.ensures (filter-input c.args.query.now c.in-Filter.input c.in-Filter.condition c.in-Filter.subs c.args.tests.now c.in-Filter.is c.requires.0 c.requires.1), rw c.as_slice-then-only_tests.ensures (only-safe c.args.query.now c.in-Filter.input c.in-Filter.condition c.in-Filter.subs c.args.tests.now c.in-Filter.is c.requires.0 c.requires.1 (sym c.as_slice.ensures ∙ (c.only_tests.ensures c.if-only_tests.true).0) (c.only_tests.ensures c.if-only_tests.true).1 c.in_ok-all-in-Filter.all c.in_ok-all-in-Filter.ensures)))

pub under-returns-in_ok-all-in-Filter : goal.under-returns-in_ok-all-in-Filter
under-returns-in_ok-all-in-Filter t c =
    where_made (λ p. Stands (tested c.in-Filter.input c.in_ok-all-in-Filter.all) p) _ c.under.result (only-passes c.args.query.now c.in-Filter.input c.in-Filter.condition c.in-Filter.subs c.args.tests.now c.in-Filter.is c.requires.0 c.requires.1 (sym c.as_slice.ensures ∙ (c.only_tests.ensures c.if-only_tests.true).0) (c.only_tests.ensures c.if-only_tests.true).1 c.in_ok-all-in-Filter.all c.in_ok-all-in-Filter.ensures)
    (rw (c.get.ensures, c.as_slice-then-only_tests.ensures) at c.under.ensures)

pub under-under-rows-requires : goal.under-under-rows-requires
under-under-rows-requires t c =
    (search (rules, the_lemmas), (rw c.get-then-is_quiet.ensures (filter-input c.args.query.now c.in-Filter.input c.in-Filter.condition c.in-Filter.subs c.args.tests.now c.in-Filter.is c.requires.0 c.requires.1), rw c.as_slice-then-is_quiet.ensures (quiet-safe c.args.query.now c.in-Filter.input c.in-Filter.condition c.in-Filter.subs c.args.tests.now c.in-Filter.is c.requires.0 c.requires.1 (c.is_quiet.ensures c.if-is_quiet.true).0 (subst (λ ss. all_fault_free ss ≡ true) c.as_slice-else-only_tests.ensures (c.is_quiet.ensures c.if-is_quiet.true).1) c.in_ok-parts-in-Filter.parts c.in_ok-parts-in-Filter.ensures)))

pub under-nodes-inside-requires : goal.under-nodes-inside-requires
under-nodes-inside-requires t c =
    (search (rules, the_lemmas), rw c.as_slice-then-is_quiet-2.ensures (filter-subs c.args.query.now c.in-Filter.input c.in-Filter.condition c.in-Filter.subs c.args.tests.now c.in-Filter.is c.requires.0 c.requires.1))

pub under-returns-in_ok-parts-in-Filter : goal.under-returns-in_ok-parts-in-Filter
under-returns-in_ok-parts-in-Filter t c =
    where_made (λ p. Stands (Filter (tested c.in-Filter.input c.in_ok-parts-in-Filter.parts.below) (all_hold c.in_ok-parts-in-Filter.parts.above) c.in-Filter.subs) p) _
    c.rows_where.result (quiet-passes c.args.query.now c.in-Filter.input c.in-Filter.condition c.in-Filter.subs c.args.tests.now c.in-Filter.is c.requires.0 c.requires.1 (c.is_quiet.ensures c.if-is_quiet.true).0 (subst (λ ss. all_fault_free ss ≡ true) c.as_slice-else-only_tests.ensures (c.is_quiet.ensures c.if-is_quiet.true).1) c.in_ok-parts-in-Filter.parts c.in_ok-parts-in-Filter.ensures)
    ((rw c.as_slice-then-is_quiet-3.ensures at c.rows_where.ensures) (tested c.in-Filter.input c.in_ok-parts-in-Filter.parts.below) c.in-Filter.subs
    (rw (c.get-then-is_quiet.ensures, c.as_slice-then-is_quiet.ensures) at c.under-rows.ensures) (rw c.as_slice-then-is_quiet-2.ensures at c.nodes-inside.ensures))

pub under-under-lefts-requires : goal.under-under-lefts-requires
under-under-lefts-requires t c = (
  search (rules, the_lemmas),
  (
    rw c.get-then-only_pairs-3.ensures (join-left c.args.query.now c.in-Join.left c.in-Join.right c.in-Join.kind c.in-Join.condition c.in-Join.subs c.args.tests.now c.in-Join.is c.requires.0 c.requires.1),
    rw c.as_slice-then-only_pairs.ensures (left-safe c.args.query.now c.in-Join.left c.in-Join.right c.in-Join.kind c.in-Join.condition c.in-Join.subs c.args.tests.now c.in-Join.is c.requires.0 c.requires.1 (c.only_pairs.ensures c.if-only_pairs.true).0 (sym c.as_slice-in-Join.ensures ∙ (c.only_pairs.ensures c.if-only_pairs.true).1.0) (c.only_pairs.ensures c.if-only_pairs.true).1.1 c.in_ok-sides-in-Join.sides
        (rw (c.get-then-only_pairs.ensures, c.get-then-only_pairs-2.ensures) at c.in_ok-sides-in-Join.ensures)),
  ),
)

pub under-under-rights-requires : goal.under-under-rights-requires
under-under-rights-requires t c = (
  search (rules, the_lemmas),
  (
    rw c.get-then-only_pairs-4.ensures (join-right c.args.query.now c.in-Join.left c.in-Join.right c.in-Join.kind c.in-Join.condition c.in-Join.subs c.args.tests.now c.in-Join.is c.requires.0 c.requires.1),
    rw c.as_slice-then-only_pairs-2.ensures (right-safe c.args.query.now c.in-Join.left c.in-Join.right c.in-Join.kind c.in-Join.condition c.in-Join.subs c.args.tests.now c.in-Join.is c.requires.0 c.requires.1 (c.only_pairs.ensures c.if-only_pairs.true).0 (sym c.as_slice-in-Join.ensures ∙ (c.only_pairs.ensures c.if-only_pairs.true).1.0) (c.only_pairs.ensures c.if-only_pairs.true).1.1 c.in_ok-sides-in-Join.sides
        (rw (c.get-then-only_pairs.ensures, c.get-then-only_pairs-2.ensures) at c.in_ok-sides-in-Join.ensures)),
  ),
)

pub under-returns-in_ok-sides-in-Join : goal.under-returns-in_ok-sides-in-Join
under-returns-in_ok-sides-in-Join t c =
    let sides = c.in_ok-sides-in-Join.sides in
    let pairs = Join Inner (tested c.in-Join.left sides.left) (tested c.in-Join.right sides.right) (all_hold sides.both) [] in
    where_made (λ p. Stands (tested pairs sides.around) p) _ c.above-then-only_pairs.result (join-passes c.args.query.now c.in-Join.left c.in-Join.right c.in-Join.kind c.in-Join.condition c.in-Join.subs c.args.tests.now c.in-Join.is c.requires.0 c.requires.1 (c.only_pairs.ensures c.if-only_pairs.true).0 (sym c.as_slice-in-Join.ensures ∙ (c.only_pairs.ensures c.if-only_pairs.true).1.0) (c.only_pairs.ensures c.if-only_pairs.true).1.1 c.in_ok-sides-in-Join.sides
    (rw (c.get-then-only_pairs.ensures, c.get-then-only_pairs-2.ensures) at c.in_ok-sides-in-Join.ensures))
    ((rw c.as_slice-then-only_pairs-4.ensures at c.above-then-only_pairs.ensures) pairs
    ((rw c.as_slice-then-only_pairs-3.ensures at c.pairs_where-pairs.ensures) (tested c.in-Join.left sides.left) (tested c.in-Join.right sides.right)
    (rw (c.get-then-only_pairs-3.ensures, c.as_slice-then-only_pairs.ensures) at c.under-lefts.ensures)
    (rw (c.get-then-only_pairs-4.ensures, c.as_slice-then-only_pairs-2.ensures) at c.under-rights.ensures)))

pub under-under-rows-requires-in-Some : goal.under-under-rows-requires-in-Some
under-under-rows-requires-in-Some t c = (
  search (rules, the_lemmas),
  (
    rw c.get-in-Some.ensures (project-input c.args.query.now c.in-Project.input c.in-Project.items c.in-Project.subs c.args.tests.now c.in-Project.is c.requires.0 c.requires.1
        (sym c.as_slice-in-Project-2.ensures ∙ (subst (λ o. IfSome o (λ made. (c.as_slice-in-Project-2.result.now ≡ []) × IsLowered c.as_slice-in-Project.result.now c.args.tests.now made)) c.in-Some.is c.in_ok-below-in-Project.ensures).0) c.in-Some.below
        (subst (λ items. IsLowered items c.args.tests.now c.in-Some.below) c.as_slice-in-Project.ensures (subst (λ o. IfSome o (λ made. (c.as_slice-in-Project-2.result.now ≡ []) × IsLowered c.as_slice-in-Project.result.now c.args.tests.now made)) c.in-Some.is c.in_ok-below-in-Project.ensures).1)),
    rw c.as_slice-in-Some.ensures (project-safe c.args.query.now c.in-Project.input c.in-Project.items c.in-Project.subs c.args.tests.now c.in-Project.is c.requires.0 c.requires.1
        (sym c.as_slice-in-Project-2.ensures ∙ (subst (λ o. IfSome o (λ made. (c.as_slice-in-Project-2.result.now ≡ []) × IsLowered c.as_slice-in-Project.result.now c.args.tests.now made)) c.in-Some.is c.in_ok-below-in-Project.ensures).0) c.in-Some.below
        (subst (λ items. IsLowered items c.args.tests.now c.in-Some.below) c.as_slice-in-Project.ensures (subst (λ o. IfSome o (λ made. (c.as_slice-in-Project-2.result.now ≡ []) × IsLowered c.as_slice-in-Project.result.now c.args.tests.now made)) c.in-Some.is c.in_ok-below-in-Project.ensures).1)),
  ),
)

pub under-returns-in-Some : goal.under-returns-in-Some
under-returns-in-Some t c =
    where_made (λ p. Stands (Project (tested c.in-Project.input c.in-Some.below) c.in-Project.items []) p) _ c.whole_dropped.result (project-passes c.args.query.now c.in-Project.input c.in-Project.items c.in-Project.subs c.args.tests.now c.in-Project.is c.requires.0 c.requires.1
    (sym c.as_slice-in-Project-2.ensures ∙ (subst (λ o. IfSome o (λ made. (c.as_slice-in-Project-2.result.now ≡ []) × IsLowered c.as_slice-in-Project.result.now c.args.tests.now made)) c.in-Some.is c.in_ok-below-in-Project.ensures).0) c.in-Some.below
    (subst (λ items. IsLowered items c.args.tests.now c.in-Some.below) c.as_slice-in-Project.ensures (subst (λ o. IfSome o (λ made. (c.as_slice-in-Project-2.result.now ≡ []) × IsLowered c.as_slice-in-Project.result.now c.args.tests.now made)) c.in-Some.is c.in_ok-below-in-Project.ensures).1))
    (c.whole_dropped.ensures (Project (tested c.in-Project.input c.in-Some.below) c.in-Project.items [])
    (c.project_merged.ensures (tested c.in-Project.input c.in-Some.below) [] (rw (c.get-in-Some.ensures, c.as_slice-in-Some.ensures) at c.under-rows-in-Some.ensures)
    (subst (λ others. SubsStand [] others) (sym c.new.ensures) tt)))
