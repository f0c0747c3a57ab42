use Rattle.std.specs.Prelude.{◌&&◌}
use Rattle.std.proofs.Common.{◌≡◌, true, true≢false, take, take_all, refl, sym, subst, rules}
use Rattle.perm_values.proofs.Lists.{taken}
use Rattle.bag_algebra.proofs.Truths.{left-true, right-true}
use Rattle.bag_algebra.specs.Rewriting.{is_plain, Stands}
use Rattle.bag_algebra.specs.declared.query.Query.{the_lemmas}
use Rattle.bag_algebra.specs.declared.query.Query.TheVariants.{Single, Filter, Project, Join, Apply, Union, Intersect, Except, Limit}
use Rattle.contribution.proofs.NodeQueries.{of_made}
use Rattle.query_laws.proofs.StandingNodes.{stands-Base}
use Rattle.query_laws.specs.Standing.{SubsStand}
use Rattle.bag_algebra.specs.built.Scopes.{all_plain, is_plain-Base, is_plain-Filter, is_plain-Project, is_plain-Join, is_plain-Apply, is_plain-Union, is_plain-Intersect, is_plain-Except, is_plain-Distinct, is_plain-Aggregate, is_plain-Limit, is_plain-Prov}
use Rattle.rewrite_core.proofs.Itself.{stands-Table, stands-Single}
use Rattle.simpler_laws.proofs.StandingParts.{stands_made, stands_where, one_of, first_of, second_of, at_each}
use Rattle.folded_literals.specs.Simple.{is_simple}
use Rattle.folded_literals.specs.built.Simple.{simple-Apply, simple-Union, simple-Intersect, simple-Except, simple-Limit}
use Rattle.simplifier.proofs.BaredNodes.{filter-bared, project-bared, join-bared, over_bared}
use Rattle.simplifier.proofs.BaredSublinks.{bared-simple}
use Rattle.simplifier.proofs.SimpleParts.{both-simple, one-simple, once-simple}
use Rattle.simplifier.proofs.folding.+folded_query.Goals as goal

pub folded_query-folded_query-requires : goal.folded_query-folded_query-requires
folded_query-folded_query-requires t c =
    (search (rules, the_lemmas), rw c.get.ensures (one_of is_plain _ _ c.requires c.in-Base.is _ (is_plain-Base c.in-Base.input c.in-Base.places c.in-Base.label)))

pub folded_query-returns-in-Table : goal.folded_query-returns-in-Table
folded_query-returns-in-Table t c = record {
  stands = stands_made _ _ c.table.result c.in-Table.is _ c.table.ensures (stands-Table c.in-Table.id c.in-Table.kinds);
  simple = of_made (λ p. is_simple p ≡ true) c.table.result _ c.table.ensures refl;
}

pub folded_query-returns-in-Single : goal.folded_query-returns-in-Single
folded_query-returns-in-Single t c = record {
  stands = subst (λ n. Stands n Single) (sym c.in-Single.is) stands-Single;
  simple = refl;
}

pub folded_query-returns-in-Base : goal.folded_query-returns-in-Base
folded_query-returns-in-Base t c = record {
  stands = stands_where _ _ c.folded_query.result c.in-Base.is _ (λ b s. stands-Base _ b s c.in-Base.places c.in-Base.label) (rw c.get.ensures at c.folded_query.ensures.stands);
  simple = c.folded_query.ensures.simple;
}

pub folded_query-folded_query-rows-requires : goal.folded_query-folded_query-rows-requires
folded_query-folded_query-rows-requires t c =
    (search (rules, the_lemmas), rw c.get-in-Filter.ensures (first_of is_plain _ _ c.requires c.in-Filter.is _ _ (is_plain-Filter c.in-Filter.input c.in-Filter.condition c.in-Filter.subs)))

pub folded_query-folded_subs-inside-requires : goal.folded_query-folded_subs-inside-requires
folded_query-folded_subs-inside-requires t c =
    (search (rules, the_lemmas), rw c.as_slice.ensures (second_of is_plain _ _ c.requires c.in-Filter.is _ _ (is_plain-Filter c.in-Filter.input c.in-Filter.condition c.in-Filter.subs)))

pub folded_query-returns-in-Filter : goal.folded_query-returns-in-Filter
folded_query-returns-in-Filter t c = record {
  stands = stands_where _ _ c.filter_folded.result c.in-Filter.is _ (λ p s. s) (over_bared (Filter c.in-Filter.input c.in-Filter.condition) c.in-Filter.subs c.folded_subs-inside.result c.filter_folded.result
      (λ others bared. filter-bared c.in-Filter.subs others bared c.in-Filter.input (first_of is_plain _ _ c.requires c.in-Filter.is _ _ (is_plain-Filter c.in-Filter.input c.in-Filter.condition c.in-Filter.subs)) c.in-Filter.condition)
      (rw c.as_slice.ensures at c.folded_subs-inside.ensures.bared) (λ originals stand. c.filter_folded.ensures.stands c.in-Filter.input originals (rw c.get-in-Filter.ensures at c.folded_query-rows.ensures.stands) stand));
  simple = c.filter_folded.ensures.simple c.folded_query-rows.ensures.simple c.folded_subs-inside.ensures.simple;
}

pub folded_query-folded_query-rows-requires-in-Project : goal.folded_query-folded_query-rows-requires-in-Project
folded_query-folded_query-rows-requires-in-Project t c =
    (search (rules, the_lemmas), rw c.get-in-Project.ensures (first_of is_plain _ _ c.requires c.in-Project.is _ _ (is_plain-Project c.in-Project.input c.in-Project.items c.in-Project.subs)))

pub folded_query-folded_subs-inside-requires-in-Project : goal.folded_query-folded_subs-inside-requires-in-Project
folded_query-folded_subs-inside-requires-in-Project t c =
    (search (rules, the_lemmas), rw c.as_slice-in-Project.ensures (second_of is_plain _ _ c.requires c.in-Project.is _ _ (is_plain-Project c.in-Project.input c.in-Project.items c.in-Project.subs)))

pub folded_query-returns-in-Project : goal.folded_query-returns-in-Project
folded_query-returns-in-Project t c = record {
  stands = stands_where _ _ c.project_folded.result c.in-Project.is _ (λ p s. s) (over_bared (Project c.in-Project.input c.in-Project.items) c.in-Project.subs c.folded_subs-inside-in-Project.result c.project_folded.result
      (λ others bared. project-bared c.in-Project.subs others bared c.in-Project.input (first_of is_plain _ _ c.requires c.in-Project.is _ _ (is_plain-Project c.in-Project.input c.in-Project.items c.in-Project.subs)) c.in-Project.items)
      (rw c.as_slice-in-Project.ensures at c.folded_subs-inside-in-Project.ensures.bared) (λ originals stand. c.project_folded.ensures.stands c.in-Project.input originals (rw c.get-in-Project.ensures at c.folded_query-rows-in-Project.ensures.stands) stand));
  simple = c.project_folded.ensures.simple c.folded_query-rows-in-Project.ensures.simple c.folded_subs-inside-in-Project.ensures.simple;
}

pub folded_query-folded_query-lefts-requires : goal.folded_query-folded_query-lefts-requires
folded_query-folded_query-lefts-requires t c =
    (search (rules, the_lemmas), rw c.get-in-Join.ensures (left-true _ _ (first_of is_plain _ _ c.requires c.in-Join.is _ _ (is_plain-Join c.in-Join.kind c.in-Join.left c.in-Join.right c.in-Join.condition c.in-Join.subs))))

pub folded_query-folded_query-rights-requires : goal.folded_query-folded_query-rights-requires
folded_query-folded_query-rights-requires t c =
    (search (rules, the_lemmas), rw c.get-in-Join-2.ensures (right-true _ _ (first_of is_plain _ _ c.requires c.in-Join.is _ _ (is_plain-Join c.in-Join.kind c.in-Join.left c.in-Join.right c.in-Join.condition c.in-Join.subs))))

pub folded_query-folded_subs-inside-requires-in-Join : goal.folded_query-folded_subs-inside-requires-in-Join
folded_query-folded_subs-inside-requires-in-Join t c =
    (search (rules, the_lemmas), rw c.as_slice-in-Join.ensures (second_of is_plain _ _ c.requires c.in-Join.is _ _ (is_plain-Join c.in-Join.kind c.in-Join.left c.in-Join.right c.in-Join.condition c.in-Join.subs)))

pub folded_query-returns-in-Join : goal.folded_query-returns-in-Join
folded_query-returns-in-Join t c = record {
  stands =
      let sides = first_of is_plain _ _ c.requires c.in-Join.is (is_plain c.in-Join.left && is_plain c.in-Join.right) (all_plain c.in-Join.subs) (is_plain-Join c.in-Join.kind c.in-Join.left c.in-Join.right c.in-Join.condition c.in-Join.subs) in
      stands_where _ _ c.join_folded.result c.in-Join.is _ (λ p s. s) (over_bared (Join c.in-Join.kind c.in-Join.left c.in-Join.right c.in-Join.condition) c.in-Join.subs c.folded_subs-inside-in-Join.result c.join_folded.result
      (λ others bared. join-bared c.in-Join.subs others bared c.in-Join.left (left-true (is_plain c.in-Join.left) (is_plain c.in-Join.right) sides) c.in-Join.right (right-true (is_plain c.in-Join.left) (is_plain c.in-Join.right) sides) c.in-Join.kind c.in-Join.condition)
      (rw c.as_slice-in-Join.ensures at c.folded_subs-inside-in-Join.ensures.bared)
      (λ originals stand. c.join_folded.ensures.stands c.in-Join.left c.in-Join.right originals (rw c.get-in-Join.ensures at c.folded_query-lefts.ensures.stands) (rw c.get-in-Join-2.ensures at c.folded_query-rights.ensures.stands) stand));
  simple = c.join_folded.ensures.simple c.folded_query-lefts.ensures.simple c.folded_query-rights.ensures.simple c.folded_subs-inside-in-Join.ensures.simple;
}

pub folded_query-folded_query-lefts-requires-in-Union : goal.folded_query-folded_query-lefts-requires-in-Union
folded_query-folded_query-lefts-requires-in-Union t c =
    (search (rules, the_lemmas), rw c.get-in-Union.ensures (first_of is_plain _ _ c.requires c.in-Union.is _ _ (is_plain-Union c.in-Union.all c.in-Union.left c.in-Union.right)))

pub folded_query-folded_query-rights-requires-in-Union : goal.folded_query-folded_query-rights-requires-in-Union
folded_query-folded_query-rights-requires-in-Union t c =
    (search (rules, the_lemmas), rw c.get-in-Union-2.ensures (second_of is_plain _ _ c.requires c.in-Union.is _ _ (is_plain-Union c.in-Union.all c.in-Union.left c.in-Union.right)))

pub folded_query-returns-in-Union : goal.folded_query-returns-in-Union
folded_query-returns-in-Union t c = record {
  stands = stands_where _ _ c.union_standing.result c.in-Union.is _ (λ p s. s) (c.union_standing.ensures.stands c.in-Union.left c.in-Union.right (rw c.get-in-Union.ensures at c.folded_query-lefts-in-Union.ensures.stands) (rw c.get-in-Union-2.ensures at c.folded_query-rights-in-Union.ensures.stands));
  simple = both-simple c.union_standing.result (Union c.in-Union.all) (simple-Union c.in-Union.all) c.folded_query-lefts-in-Union.result c.folded_query-rights-in-Union.result c.folded_query-lefts-in-Union.ensures.simple c.folded_query-rights-in-Union.ensures.simple
      c.union_standing.ensures.made;
}

pub folded_query-folded_query-lefts-requires-in-Intersect : goal.folded_query-folded_query-lefts-requires-in-Intersect
folded_query-folded_query-lefts-requires-in-Intersect t c =
    (search (rules, the_lemmas), rw c.get-in-Intersect.ensures (first_of is_plain _ _ c.requires c.in-Intersect.is _ _ (is_plain-Intersect c.in-Intersect.all c.in-Intersect.left c.in-Intersect.right)))

pub folded_query-folded_query-rights-requires-in-Intersect : goal.folded_query-folded_query-rights-requires-in-Intersect
folded_query-folded_query-rights-requires-in-Intersect t c =
    (search (rules, the_lemmas), rw c.get-in-Intersect-2.ensures (second_of is_plain _ _ c.requires c.in-Intersect.is _ _ (is_plain-Intersect c.in-Intersect.all c.in-Intersect.left c.in-Intersect.right)))

pub folded_query-returns-in-Intersect : goal.folded_query-returns-in-Intersect
folded_query-returns-in-Intersect t c = record {
  stands = stands_where _ _ c.intersect_standing.result c.in-Intersect.is _ (λ p s. s) (c.intersect_standing.ensures.stands c.in-Intersect.left c.in-Intersect.right (rw c.get-in-Intersect.ensures at c.folded_query-lefts-in-Intersect.ensures.stands) (rw c.get-in-Intersect-2.ensures at c.folded_query-rights-in-Intersect.ensures.stands));
  simple = both-simple c.intersect_standing.result (Intersect c.in-Intersect.all) (simple-Intersect c.in-Intersect.all) c.folded_query-lefts-in-Intersect.result c.folded_query-rights-in-Intersect.result c.folded_query-lefts-in-Intersect.ensures.simple c.folded_query-rights-in-Intersect.ensures.simple
      c.intersect_standing.ensures.made;
}

pub folded_query-folded_query-lefts-requires-in-Except : goal.folded_query-folded_query-lefts-requires-in-Except
folded_query-folded_query-lefts-requires-in-Except t c =
    (search (rules, the_lemmas), rw c.get-in-Except.ensures (first_of is_plain _ _ c.requires c.in-Except.is _ _ (is_plain-Except c.in-Except.all c.in-Except.left c.in-Except.right)))

pub folded_query-folded_query-rights-requires-in-Except : goal.folded_query-folded_query-rights-requires-in-Except
folded_query-folded_query-rights-requires-in-Except t c =
    (search (rules, the_lemmas), rw c.get-in-Except-2.ensures (second_of is_plain _ _ c.requires c.in-Except.is _ _ (is_plain-Except c.in-Except.all c.in-Except.left c.in-Except.right)))

pub folded_query-returns-in-Except : goal.folded_query-returns-in-Except
folded_query-returns-in-Except t c = record {
  stands = stands_where _ _ c.except_standing.result c.in-Except.is _ (λ p s. s) (c.except_standing.ensures.stands c.in-Except.left c.in-Except.right (rw c.get-in-Except.ensures at c.folded_query-lefts-in-Except.ensures.stands) (rw c.get-in-Except-2.ensures at c.folded_query-rights-in-Except.ensures.stands));
  simple = both-simple c.except_standing.result (Except c.in-Except.all) (simple-Except c.in-Except.all) c.folded_query-lefts-in-Except.result c.folded_query-rights-in-Except.result c.folded_query-lefts-in-Except.ensures.simple c.folded_query-rights-in-Except.ensures.simple
      c.except_standing.ensures.made;
}

pub folded_query-folded_query-requires-in-Distinct : goal.folded_query-folded_query-requires-in-Distinct
folded_query-folded_query-requires-in-Distinct t c =
    (search (rules, the_lemmas), rw c.get-in-Distinct.ensures (one_of is_plain _ _ c.requires c.in-Distinct.is _ (is_plain-Distinct c.in-Distinct.input)))

pub folded_query-returns-in-Distinct : goal.folded_query-returns-in-Distinct
folded_query-returns-in-Distinct t c = record {
  stands = stands_where _ _ c.distinct_once.result c.in-Distinct.is _ (λ p s. s) (c.distinct_once.ensures.stands c.in-Distinct.input (rw c.get-in-Distinct.ensures at c.folded_query-in-Distinct.ensures.stands));
  simple = once-simple c.folded_query-in-Distinct.result c.distinct_once.result c.folded_query-in-Distinct.ensures.simple c.distinct_once.ensures.made;
}

pub folded_query-folded_query-rows-requires-in-Aggregate : goal.folded_query-folded_query-rows-requires-in-Aggregate
folded_query-folded_query-rows-requires-in-Aggregate t c =
    (search (rules, the_lemmas), rw c.get-in-Aggregate.ensures (one_of is_plain _ _ c.requires c.in-Aggregate.is _ (is_plain-Aggregate c.in-Aggregate.input c.in-Aggregate.groups c.in-Aggregate.aggregates)))

pub folded_query-returns-in-Aggregate : goal.folded_query-returns-in-Aggregate
folded_query-returns-in-Aggregate t c = record {
  stands = stands_where _ _ c.aggregate_folded.result c.in-Aggregate.is _ (λ p s. s) (c.aggregate_folded.ensures.stands c.in-Aggregate.input (rw c.get-in-Aggregate.ensures at c.folded_query-rows-in-Aggregate.ensures.stands));
  simple = c.aggregate_folded.ensures.simple c.folded_query-rows-in-Aggregate.ensures.simple;
}

pub folded_query-folded_query-rows-requires-in-Limit : goal.folded_query-folded_query-rows-requires-in-Limit
folded_query-folded_query-rows-requires-in-Limit t c =
    (search (rules, the_lemmas), rw c.get-in-Limit.ensures (one_of is_plain _ _ c.requires c.in-Limit.is _ (is_plain-Limit c.in-Limit.input c.in-Limit.keys c.in-Limit.count)))

pub folded_query-returns-in-Limit : goal.folded_query-returns-in-Limit
folded_query-returns-in-Limit t c = record {
  stands = stands_where _ _ c.limit_standing.result c.in-Limit.is _ (λ p s. s) (c.limit_standing.ensures.stands c.in-Limit.input (rw c.get-in-Limit.ensures at c.folded_query-rows-in-Limit.ensures.stands));
  simple = one-simple c.limit_standing.result (λ b. Limit b c.in-Limit.keys c.in-Limit.count) (λ b. simple-Limit b c.in-Limit.keys c.in-Limit.count) c.folded_query-rows-in-Limit.result
      c.folded_query-rows-in-Limit.ensures.simple c.limit_standing.ensures.made;
}

pub folded_query-folded_query-lefts-requires-in-Apply : goal.folded_query-folded_query-lefts-requires-in-Apply
folded_query-folded_query-lefts-requires-in-Apply t c =
    (search (rules, the_lemmas), rw c.get-in-Apply.ensures (first_of is_plain _ _ c.requires c.in-Apply.is _ _ (is_plain-Apply c.in-Apply.kind c.in-Apply.left c.in-Apply.right)))

pub folded_query-folded_query-rights-requires-in-Apply : goal.folded_query-folded_query-rights-requires-in-Apply
folded_query-folded_query-rights-requires-in-Apply t c =
    (search (rules, the_lemmas), rw c.get-in-Apply-2.ensures (second_of is_plain _ _ c.requires c.in-Apply.is _ _ (is_plain-Apply c.in-Apply.kind c.in-Apply.left c.in-Apply.right)))

pub folded_query-returns-in-Apply : goal.folded_query-returns-in-Apply
folded_query-returns-in-Apply t c = record {
  stands = stands_where _ _ c.apply_standing.result c.in-Apply.is _ (λ p s. s) (c.apply_standing.ensures.stands c.in-Apply.left c.in-Apply.right (rw c.get-in-Apply.ensures at c.folded_query-lefts-in-Apply.ensures.stands) (rw c.get-in-Apply-2.ensures at c.folded_query-rights-in-Apply.ensures.stands));
  simple = both-simple c.apply_standing.result (Apply c.in-Apply.kind) (simple-Apply c.in-Apply.kind) c.folded_query-lefts-in-Apply.result c.folded_query-rights-in-Apply.result c.folded_query-lefts-in-Apply.ensures.simple c.folded_query-rights-in-Apply.ensures.simple
      c.apply_standing.ensures.made;
}

pub folded_query-unreachable-requires : goal.folded_query-unreachable-requires
folded_query-unreachable-requires t c =
    absurd (true≢false (sym (one_of is_plain _ _ c.requires c.in-Prov.is _ (is_plain-Prov c.in-Prov.input))))

pub folded_subs-folded_query-query-requires : goal.folded_subs-folded_query-query-requires
folded_subs-folded_query-query-requires t c =
    (search (rules, the_lemmas), at_each (λ sub. is_plain sub.query) all_plain (λ sub subs. refl) c.args.subs.now c.loop-sub.sub-index c.sub-item.result c.requires c.loop-sub-test.true c.sub-item.is)

pub folded_subs-loop-sub-preserved : goal.folded_subs-loop-sub-preserved
folded_subs-loop-sub-preserved t c = record {
  stand = subst (λ subs. SubsStand subs c.add_folded.new.others) (sym (taken c.args.subs.now c.loop-sub.sub-index c.sub-item.result c.loop-sub-test.true c.sub-item.is))
      (c.in_ok-add_folded.ensures.stand (take c.loop-sub.sub-index c.args.subs.now) c.loop-sub.invariant.stand c.folded_query-query.ensures.stands);
  simple = c.in_ok-add_folded.ensures.simple c.loop-sub.invariant.simple c.folded_query-query.ensures.simple;
}

pub folded_subs-returns : goal.folded_subs-returns
folded_subs-returns t c = record {
  bared = record {
    between = c.loop-sub.others;
    stand = subst (λ subs. SubsStand subs c.loop-sub.others) (take_all _ _ c.loop-sub-test.false) c.loop-sub.invariant.stand;
    bared = c.bared.ensures;
  };
  simple = bared-simple c.loop-sub.others c.bared.result c.bared.ensures c.loop-sub.invariant.simple;
}
