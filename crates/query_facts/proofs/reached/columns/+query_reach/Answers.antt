use Rattle.std.proofs.Common.{◌≡◌, ℕ, suc, max, Option, refl, sym, ap, ◌∙◌, arith}
use Rattle.bag_algebra.specs.declared.query.Query.{Query}
use Rattle.query_facts.specs.reached.built.Reach.{all_subs_reach, sub_reach, reach-Base, reach-Filter, reach-Project, reach-Join, reach-Apply, reach-Union, reach-Intersect, reach-Except, reach-Distinct, reach-Aggregate, reach-Limit, reach-Prov}
use Rattle.query_facts.specs.reached.InUsize.{in_usize}
use Rattle.query_facts.specs.reached.Reach.{expr_reach, option_reach, items_reach, aggregates_reach, query_reach}
use Rattle.query_facts.proofs.Greatest.{one-more, all-done}
use Rattle.query_facts.proofs.reached.columns.+query_reach.Goals as goal
use Rattle.query_facts.proofs.reached.columns.+query_reach.Goals.{subs_reach-in-Some, subs_reach-in-None}

-- what code has of a query, of the node that it is
as_node : (q node : Query) (n k : ℕ) (r : Option ℕ) → q ≡ node → query_reach node n ≡ k → r ≡ in_usize k → r ≡ in_usize (query_reach q n)
as_node q node n k r is opened e = e ∙ ap in_usize (sym (ap (λ p. query_reach p n) is ∙ opened))

-- what code has of a query that it borrows
of_query : (n : ℕ) (q input : Query) (r : Option ℕ) → r ≡ in_usize (query_reach q n) → q ≡ input → r ≡ in_usize (query_reach input n)
of_query n q input r e is = e ∙ ap (λ p. in_usize (query_reach p n)) is

pub query_reach-returns-in-Base : goal.query_reach-returns-in-Base
query_reach-returns-in-Base t c = λ n h.
    as_node _ _ n _ _ c.in-Base.is (reach-Base n c.in-Base.input c.in-Base.places c.in-Base.label)
    (of_query n _ _ _ (c.query_reach.ensures n h) c.get.ensures)

pub query_reach-returns-in-Filter : goal.query_reach-returns-in-Filter
query_reach-returns-in-Filter t c = λ n h.
    as_node _ _ n _ _ c.in-Filter.is (reach-Filter n c.in-Filter.input c.in-Filter.condition c.in-Filter.subs)
    (c.further-in-Filter.ensures (max (query_reach c.in-Filter.input n) (expr_reach c.in-Filter.condition n)) (all_subs_reach c.in-Filter.subs n)
    (c.further.ensures (query_reach c.in-Filter.input n) (expr_reach c.in-Filter.condition n)
    (of_query n _ _ _ (c.query_reach-in-Filter.ensures n h) c.get-in-Filter.ensures)
    (c.expr_reach.ensures n h))
    (c.subs_reach.ensures n h ∙ ap (λ l. in_usize (all_subs_reach l n)) c.as_slice.ensures))

pub query_reach-returns-in-Project : goal.query_reach-returns-in-Project
query_reach-returns-in-Project t c = λ n h.
    as_node _ _ n _ _ c.in-Project.is (reach-Project n c.in-Project.input c.in-Project.items c.in-Project.subs)
    (c.further-in-Project-2.ensures (max (query_reach c.in-Project.input n) (items_reach c.in-Project.items n)) (all_subs_reach c.in-Project.subs n)
    (c.further-in-Project.ensures (query_reach c.in-Project.input n) (items_reach c.in-Project.items n)
    (of_query n _ _ _ (c.query_reach-in-Project.ensures n h) c.get-in-Project.ensures)
    (c.items_reach.ensures n h ∙ ap (λ l. in_usize (items_reach l n)) c.as_slice-in-Project.ensures))
    (c.subs_reach-in-Project.ensures n h ∙ ap (λ l. in_usize (all_subs_reach l n)) c.as_slice-in-Project-2.ensures))

pub query_reach-returns-in-Join : goal.query_reach-returns-in-Join
query_reach-returns-in-Join t c = λ n h.
    let inputs = max (query_reach c.in-Join.left n) (query_reach c.in-Join.right n) in
    as_node _ _ n _ _ c.in-Join.is (reach-Join n c.in-Join.kind c.in-Join.left c.in-Join.right c.in-Join.condition c.in-Join.subs)
    (c.further-in-Join-3.ensures (max inputs (expr_reach c.in-Join.condition n)) (all_subs_reach c.in-Join.subs n)
    (c.further-in-Join-2.ensures inputs (expr_reach c.in-Join.condition n)
    (c.further-in-Join.ensures (query_reach c.in-Join.left n) (query_reach c.in-Join.right n)
    (of_query n _ _ _ (c.query_reach-in-Join.ensures n h) c.get-in-Join.ensures)
    (of_query n _ _ _ (c.query_reach-in-Join-2.ensures n h) c.get-in-Join-2.ensures))
    (c.expr_reach-in-Join.ensures n h))
    (c.subs_reach-in-Join.ensures n h ∙ ap (λ l. in_usize (all_subs_reach l n)) c.as_slice-in-Join.ensures))

pub query_reach-returns-in-Union : goal.query_reach-returns-in-Union
query_reach-returns-in-Union t c = λ n h.
    as_node _ _ n _ _ c.in-Union.is (reach-Union n c.in-Union.all c.in-Union.left c.in-Union.right)
    (c.further-in-Union.ensures (query_reach c.in-Union.left n) (query_reach c.in-Union.right n)
    (of_query n _ _ _ (c.query_reach-in-Union.ensures n h) c.get-in-Union.ensures)
    (of_query n _ _ _ (c.query_reach-in-Union-2.ensures n h) c.get-in-Union-2.ensures))

pub query_reach-returns-in-Intersect : goal.query_reach-returns-in-Intersect
query_reach-returns-in-Intersect t c = λ n h.
    as_node _ _ n _ _ c.in-Intersect.is (reach-Intersect n c.in-Intersect.all c.in-Intersect.left c.in-Intersect.right)
    (c.further-in-Intersect.ensures (query_reach c.in-Intersect.left n) (query_reach c.in-Intersect.right n)
    (of_query n _ _ _ (c.query_reach-in-Intersect.ensures n h) c.get-in-Intersect.ensures)
    (of_query n _ _ _ (c.query_reach-in-Intersect-2.ensures n h) c.get-in-Intersect-2.ensures))

pub query_reach-returns-in-Except : goal.query_reach-returns-in-Except
query_reach-returns-in-Except t c = λ n h.
    as_node _ _ n _ _ c.in-Except.is (reach-Except n c.in-Except.all c.in-Except.left c.in-Except.right)
    (c.further-in-Except.ensures (query_reach c.in-Except.left n) (query_reach c.in-Except.right n)
    (of_query n _ _ _ (c.query_reach-in-Except.ensures n h) c.get-in-Except.ensures)
    (of_query n _ _ _ (c.query_reach-in-Except-2.ensures n h) c.get-in-Except-2.ensures))

pub query_reach-returns-in-Distinct : goal.query_reach-returns-in-Distinct
query_reach-returns-in-Distinct t c = λ n h.
    as_node _ _ n _ _ c.in-Distinct.is (reach-Distinct n c.in-Distinct.input) (of_query n _ _ _ (c.query_reach-in-Distinct.ensures n h) c.get-in-Distinct.ensures)

pub query_reach-returns-in-Aggregate : goal.query_reach-returns-in-Aggregate
query_reach-returns-in-Aggregate t c = λ n h.
    as_node _ _ n _ _ c.in-Aggregate.is (reach-Aggregate n c.in-Aggregate.input c.in-Aggregate.groups c.in-Aggregate.aggregates)
    (c.further-in-Aggregate.ensures (query_reach c.in-Aggregate.input n) (aggregates_reach c.in-Aggregate.aggregates n)
    (of_query n _ _ _ (c.query_reach-in-Aggregate.ensures n h) c.get-in-Aggregate.ensures)
    (c.aggregates_reach.ensures n h ∙ ap (λ l. in_usize (aggregates_reach l n)) c.as_slice-in-Aggregate.ensures))

pub query_reach-returns-in-Limit : goal.query_reach-returns-in-Limit
query_reach-returns-in-Limit t c = λ n h.
    as_node _ _ n _ _ c.in-Limit.is (reach-Limit n c.in-Limit.input c.in-Limit.keys c.in-Limit.count) (of_query n _ _ _ (c.query_reach-in-Limit.ensures n h) c.get-in-Limit.ensures)

pub query_reach-returns-in-Prov : goal.query_reach-returns-in-Prov
query_reach-returns-in-Prov t c = λ n h.
    as_node _ _ n _ _ c.in-Prov.is (reach-Prov n c.in-Prov.input) (of_query n _ _ _ (c.query_reach-in-Prov.ensures n h) c.get-in-Prov.ensures)

pub query_reach-returns-in-Apply : goal.query_reach-returns-in-Apply
query_reach-returns-in-Apply t c = λ n h.
    as_node _ _ n _ _ c.in-Apply.is (reach-Apply n c.in-Apply.kind c.in-Apply.left c.in-Apply.right)
    (c.further-in-Apply.ensures (query_reach c.in-Apply.left n) (query_reach c.in-Apply.right (suc n))
    (of_query n _ _ _ (c.query_reach-in-Apply.ensures n h) c.get-in-Apply.ensures)
    (of_query (suc n) _ _ _ (c.query_reach-in-Apply-2.ensures (suc n) (c.one_more.ensures n h)) c.get-in-Apply-2.ensures))

pub subs_reach-loop-sub-init : goal.subs_reach-loop-sub-init
subs_reach-loop-sub-init t c = λ n h. refl

pub subs_reach-loop-sub-preserved : goal.subs_reach-loop-sub-preserved
subs_reach-loop-sub-preserved t c =
    let sub = c.sub-item.result in
    let tested : (n : ℕ) → c.args.level ≡ in_usize n → c.match-sub.tested ≡ in_usize (option_reach sub.tested n) = elim c.match-sub.branch [
      | subs_reach-in-Some w ↦ λ n h. w.tested-is ∙ w.expr_reach-tested.ensures n h ∙ ap (λ part. in_usize (option_reach part n)) (sym w.in-Some.is)
      | subs_reach-in-None w ↦ λ n h. w.tested-is ∙ ap (λ part. in_usize (option_reach part n)) (sym w.in-None.is)
    ] in
    one-more sub_reach c.args.subs.now c.args.level c.loop-sub.sub-index c.loop-sub.reach c.loop-sub.invariant sub c.further.result c.further-reach.result
    c.loop-sub-test.true c.sub-item.is
    (λ n h. c.further.ensures (option_reach sub.tested n) (query_reach sub.query (suc n)) (tested n h) (c.query_reach-query.ensures (suc n) (c.one_more.ensures n h)))
    c.further-reach.ensures

pub subs_reach-returns : goal.subs_reach-returns
subs_reach-returns t c = all-done sub_reach c.args.subs.now c.args.level c.loop-sub.sub-index c.loop-sub.reach c.loop-sub.invariant (omega arith)
