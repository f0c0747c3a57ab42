use Rattle.std.proofs.Common.{◌≡◌, ℕ, suc, ◌&&◌, sym, ap, ◌∙◌, arith}
use Rattle.std.specs.Prelude.{nat_le}
use Rattle.query_facts.specs.reached.built.Closed.{all_read_within, reads_within-Base, reads_within-Filter, reads_within-Project, reads_within-Join, reads_within-Apply, reads_within-Union, reads_within-Intersect, reads_within-Except, reads_within-Distinct, reads_within-Aggregate, reads_within-Limit, reads_within-Prov}
use Rattle.bag_algebra.specs.Closed.{option_within, items_within, aggregates_within, reads_within}
use Rattle.bag_algebra.specs.declared.query.Sublink.{Sublink}
use Rattle.bag_algebra.proofs.Levels.{none-needed, both-within, inside-within, from_none, one-more, all-done}
use Rattle.query_facts.proofs.reached.outer_rows.+outermost.Goals as goal
use Rattle.query_facts.proofs.reached.outer_rows.+outermost.Goals.{outermost_of_subs-in-Some, outermost_of_subs-in-None}

pub outermost-returns-in-Base : goal.outermost-returns-in-Base
outermost-returns-in-Base t c = λ n.
    (c.outermost.ensures n ∙ ap (λ q. reads_within q n) c.get.ensures) ∙ sym (ap (λ q. reads_within q n) c.in-Base.is ∙ reads_within-Base c.in-Base.input c.in-Base.places c.in-Base.label n)

pub outermost-returns-in-Filter : goal.outermost-returns-in-Filter
outermost-returns-in-Filter t c = λ n.
    both-within _ _ _ _ _ n c.max-in-Filter.ensures
    (both-within _ _ _ _ _ n c.max.ensures
    (c.outermost-in-Filter.ensures n ∙ ap (λ q. reads_within q n) c.get-in-Filter.ensures)
    (c.farthest.ensures n))
    (c.outermost_of_subs.ensures n ∙ ap (λ l. all_read_within l n) c.as_slice.ensures)
    ∙ sym (ap (λ q. reads_within q n) c.in-Filter.is ∙ reads_within-Filter c.in-Filter.input c.in-Filter.condition c.in-Filter.subs n)

pub outermost-returns-in-Project : goal.outermost-returns-in-Project
outermost-returns-in-Project t c = λ n.
    both-within _ _ _ _ _ n c.max-in-Project-2.ensures
    (both-within _ _ _ _ _ n c.max-in-Project.ensures
    (c.outermost-in-Project.ensures n ∙ ap (λ q. reads_within q n) c.get-in-Project.ensures)
    (c.farthest_of_items.ensures n ∙ ap (λ l. items_within l n) c.as_slice-in-Project.ensures))
    (c.outermost_of_subs-in-Project.ensures n ∙ ap (λ l. all_read_within l n) c.as_slice-in-Project-2.ensures)
    ∙ sym (ap (λ q. reads_within q n) c.in-Project.is ∙ reads_within-Project c.in-Project.input c.in-Project.items c.in-Project.subs n)

pub outermost-returns-in-Join : goal.outermost-returns-in-Join
outermost-returns-in-Join t c = λ n.
    both-within _ _ _ _ _ n c.max-in-Join-3.ensures
    (both-within _ _ _ _ _ n c.max-in-Join-2.ensures
    (both-within _ _ _ _ _ n c.max-in-Join.ensures
    (c.outermost-in-Join.ensures n ∙ ap (λ q. reads_within q n) c.get-in-Join.ensures)
    (c.outermost-in-Join-2.ensures n ∙ ap (λ q. reads_within q n) c.get-in-Join-2.ensures))
    (c.farthest-in-Join.ensures n))
    (c.outermost_of_subs-in-Join.ensures n ∙ ap (λ l. all_read_within l n) c.as_slice-in-Join.ensures)
    ∙ sym (ap (λ q. reads_within q n) c.in-Join.is ∙ reads_within-Join c.in-Join.kind c.in-Join.left c.in-Join.right c.in-Join.condition c.in-Join.subs n)

pub outermost-returns-in-Apply : goal.outermost-returns-in-Apply
outermost-returns-in-Apply t c = λ n.
    both-within _ _ _ _ _ n c.max-in-Apply.ensures
    (c.outermost-in-Apply.ensures n ∙ ap (λ q. reads_within q n) c.get-in-Apply.ensures)
    (ap (λ k. nat_le k n) c.saturating_sub.ensures ∙ inside-within c.outermost-in-Apply-2.result n ∙ c.outermost-in-Apply-2.ensures (suc n)
    ∙ ap (λ q. reads_within q (suc n)) c.get-in-Apply-2.ensures)
    ∙ sym (ap (λ q. reads_within q n) c.in-Apply.is ∙ reads_within-Apply c.in-Apply.kind c.in-Apply.left c.in-Apply.right n)

pub outermost-returns-in-Union : goal.outermost-returns-in-Union
outermost-returns-in-Union t c = λ n.
    both-within _ _ _ _ _ n c.max-in-Union.ensures
    (c.outermost-in-Union.ensures n ∙ ap (λ q. reads_within q n) c.get-in-Union.ensures)
    (c.outermost-in-Union-2.ensures n ∙ ap (λ q. reads_within q n) c.get-in-Union-2.ensures)
    ∙ sym (ap (λ q. reads_within q n) c.in-Union.is ∙ reads_within-Union c.in-Union.all c.in-Union.left c.in-Union.right n)

pub outermost-returns-in-Intersect : goal.outermost-returns-in-Intersect
outermost-returns-in-Intersect t c = λ n.
    both-within _ _ _ _ _ n c.max-in-Intersect.ensures
    (c.outermost-in-Intersect.ensures n ∙ ap (λ q. reads_within q n) c.get-in-Intersect.ensures)
    (c.outermost-in-Intersect-2.ensures n ∙ ap (λ q. reads_within q n) c.get-in-Intersect-2.ensures)
    ∙ sym (ap (λ q. reads_within q n) c.in-Intersect.is ∙ reads_within-Intersect c.in-Intersect.all c.in-Intersect.left c.in-Intersect.right n)

pub outermost-returns-in-Except : goal.outermost-returns-in-Except
outermost-returns-in-Except t c = λ n.
    both-within _ _ _ _ _ n c.max-in-Except.ensures
    (c.outermost-in-Except.ensures n ∙ ap (λ q. reads_within q n) c.get-in-Except.ensures)
    (c.outermost-in-Except-2.ensures n ∙ ap (λ q. reads_within q n) c.get-in-Except-2.ensures)
    ∙ sym (ap (λ q. reads_within q n) c.in-Except.is ∙ reads_within-Except c.in-Except.all c.in-Except.left c.in-Except.right n)

pub outermost-returns-in-Distinct : goal.outermost-returns-in-Distinct
outermost-returns-in-Distinct t c = λ n.
    (c.outermost-in-Distinct.ensures n ∙ ap (λ q. reads_within q n) c.get-in-Distinct.ensures) ∙ sym (ap (λ q. reads_within q n) c.in-Distinct.is ∙ reads_within-Distinct c.in-Distinct.input n)

pub outermost-returns-in-Limit : goal.outermost-returns-in-Limit
outermost-returns-in-Limit t c = λ n.
    (c.outermost-in-Limit.ensures n ∙ ap (λ q. reads_within q n) c.get-in-Limit.ensures) ∙ sym (ap (λ q. reads_within q n) c.in-Limit.is ∙ reads_within-Limit c.in-Limit.input c.in-Limit.keys c.in-Limit.count n)

pub outermost-returns-in-Prov : goal.outermost-returns-in-Prov
outermost-returns-in-Prov t c = λ n.
    (c.outermost-in-Prov.ensures n ∙ ap (λ q. reads_within q n) c.get-in-Prov.ensures) ∙ sym (ap (λ q. reads_within q n) c.in-Prov.is ∙ reads_within-Prov c.in-Prov.input n)

pub outermost-returns-in-Aggregate : goal.outermost-returns-in-Aggregate
outermost-returns-in-Aggregate t c = λ n.
    both-within _ _ _ _ _ n c.max-in-Aggregate.ensures
    (c.outermost-in-Aggregate.ensures n ∙ ap (λ q. reads_within q n) c.get-in-Aggregate.ensures)
    (c.farthest_of_aggregates.ensures n ∙ ap (λ l. aggregates_within l n) c.as_slice-in-Aggregate.ensures)
    ∙ sym (ap (λ q. reads_within q n) c.in-Aggregate.is ∙ reads_within-Aggregate c.in-Aggregate.input c.in-Aggregate.groups c.in-Aggregate.aggregates n)

pub outermost_of_subs-loop-sub-init : goal.outermost_of_subs-loop-sub-init
outermost_of_subs-loop-sub-init t c = from_none (λ (sub : Sublink) n. option_within sub.tested n && reads_within sub.query (suc n)) c.args.subs.now

pub outermost_of_subs-loop-sub-preserved : goal.outermost_of_subs-loop-sub-preserved
outermost_of_subs-loop-sub-preserved t c =
    let needed : (n : ℕ) → nat_le c.match-sub.tested n ≡ option_within c.sub-item.result.tested n = elim c.match-sub.branch [
      | outermost_of_subs-in-Some w ↦ λ n. ap (λ k. nat_le k n) w.tested-is ∙ w.farthest-tested.ensures n ∙ ap (λ part. option_within part n) (sym w.in-Some.is)
      | outermost_of_subs-in-None w ↦ λ n. ap (λ k. nat_le k n) w.tested-is ∙ none-needed n ∙ ap (λ part. option_within part n) (sym w.in-None.is)
    ] in
    one-more (λ (sub : Sublink) n. option_within sub.tested n && reads_within sub.query (suc n)) c.args.subs.now c.loop-sub.sub-index c.loop-sub.needed c.loop-sub.invariant c.sub-item.result c.max.result _
    c.loop-sub-test.true c.sub-item.is (λ n. both-within _ _ _ _ _ n c.max.ensures (needed n)
    (ap (λ k. nat_le k n) c.saturating_sub-query.ensures ∙ inside-within c.outermost.result n ∙ c.outermost.ensures (suc n))) c.max-needed.ensures

pub outermost_of_subs-returns : goal.outermost_of_subs-returns
outermost_of_subs-returns t c = all-done (λ (sub : Sublink) n. option_within sub.tested n && reads_within sub.query (suc n)) c.args.subs.now c.loop-sub.sub-index c.loop-sub.needed c.loop-sub.invariant (omega arith)
