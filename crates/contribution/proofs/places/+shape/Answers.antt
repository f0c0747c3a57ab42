use Rattle.std.proofs.Common.{[], ◌∷◌, ◌++◌, map, take, sym, ap, ◌∙◌, append-nil}
use Rattle.bag_algebra.specs.built.Openings.{kinds_of-Base, kinds_of-Filter, kinds_of-Project, kinds_of-Join, kinds_of-Apply, kinds_of-Union, kinds_of-Intersect, kinds_of-Except, kinds_of-Distinct, kinds_of-Aggregate, kinds_of-Limit, kinds_of-Prov, shape-Base, shape-Filter, shape-Project, shape-Join, shape-Apply, shape-Union, shape-Intersect, shape-Except, shape-Distinct, shape-Aggregate, shape-Limit, shape-Prov}
use Rattle.bag_algebra.specs.Children.{subs_shape}
use Rattle.bag_algebra.specs.Kinds.{kinds_of, kinds_in, shape, place_kinds}
use Rattle.bag_algebra.specs.declared.expr.Item.{Item}
use Rattle.bag_algebra.specs.declared.query.Aggr.{Aggr}
use Rattle.contribution.proofs.Added.{added, added-behind, added-joined, subs_shape-more}
use Rattle.contribution.proofs.places.+shape.Goals as goal

pub add_kinds-returns-in-Base : goal.add_kinds-returns-in-Base
add_kinds-returns-in-Base t c = added c.add_kinds.result _ c.args.found.now _ _ (ap kinds_of c.get.ensures ∙ sym (ap kinds_of c.in-Base.is ∙ kinds_of-Base c.in-Base.input c.in-Base.places c.in-Base.label)) c.add_kinds.ensures

pub add_kinds-returns-in-Filter : goal.add_kinds-returns-in-Filter
add_kinds-returns-in-Filter t c = added c.add_kinds-in-Filter.result _ c.args.found.now _ _ (ap kinds_of c.get-in-Filter.ensures ∙ sym (ap kinds_of c.in-Filter.is ∙ kinds_of-Filter c.in-Filter.input c.in-Filter.condition c.in-Filter.subs)) c.add_kinds-in-Filter.ensures

pub add_kinds-returns-in-Union : goal.add_kinds-returns-in-Union
add_kinds-returns-in-Union t c = added c.add_kinds-in-Union.result _ c.args.found.now _ _ (ap kinds_of c.get-in-Union.ensures ∙ sym (ap kinds_of c.in-Union.is ∙ kinds_of-Union c.in-Union.all c.in-Union.left c.in-Union.right)) c.add_kinds-in-Union.ensures

pub add_kinds-returns-in-Intersect : goal.add_kinds-returns-in-Intersect
add_kinds-returns-in-Intersect t c = added c.add_kinds-in-Intersect.result _ c.args.found.now _ _ (ap kinds_of c.get-in-Intersect.ensures ∙ sym (ap kinds_of c.in-Intersect.is ∙ kinds_of-Intersect c.in-Intersect.all c.in-Intersect.left c.in-Intersect.right)) c.add_kinds-in-Intersect.ensures

pub add_kinds-returns-in-Except : goal.add_kinds-returns-in-Except
add_kinds-returns-in-Except t c = added c.add_kinds-in-Except.result _ c.args.found.now _ _ (ap kinds_of c.get-in-Except.ensures ∙ sym (ap kinds_of c.in-Except.is ∙ kinds_of-Except c.in-Except.all c.in-Except.left c.in-Except.right)) c.add_kinds-in-Except.ensures

pub add_kinds-returns-in-Distinct : goal.add_kinds-returns-in-Distinct
add_kinds-returns-in-Distinct t c = added c.add_kinds-in-Distinct.result _ c.args.found.now _ _ (ap kinds_of c.get-in-Distinct.ensures ∙ sym (ap kinds_of c.in-Distinct.is ∙ kinds_of-Distinct c.in-Distinct.input)) c.add_kinds-in-Distinct.ensures

pub add_kinds-returns-in-Limit : goal.add_kinds-returns-in-Limit
add_kinds-returns-in-Limit t c = added c.add_kinds-in-Limit.result _ c.args.found.now _ _ (ap kinds_of c.get-in-Limit.ensures ∙ sym (ap kinds_of c.in-Limit.is ∙ kinds_of-Limit c.in-Limit.input c.in-Limit.keys c.in-Limit.count)) c.add_kinds-in-Limit.ensures

pub add_kinds-returns-in-Project : goal.add_kinds-returns-in-Project
add_kinds-returns-in-Project t c =
    added c.add_item_kinds.result _ c.args.found.now _ _ (ap (map (λ (item : Item). item.kind)) c.as_slice-in-Project.ensures ∙ sym (ap kinds_of c.in-Project.is ∙ kinds_of-Project c.in-Project.input c.in-Project.items c.in-Project.subs)) c.add_item_kinds.ensures

pub add_kinds-returns-in_ok-add_kinds-in-Join : goal.add_kinds-returns-in_ok-add_kinds-in-Join
add_kinds-returns-in_ok-add_kinds-in-Join t c =
    added-behind c.add_kinds-in-Join-2.result _ _ c.args.found.now _ _ _ c.in_ok-add_kinds-in-Join.ensures
    ((λ i. kinds_of (c.get-in-Join.ensures i) ++ kinds_of (c.get-in-Join-2.ensures i)) ∙ sym (ap kinds_of c.in-Join.is ∙ kinds_of-Join c.in-Join.kind c.in-Join.left c.in-Join.right c.in-Join.condition c.in-Join.subs)) c.add_kinds-in-Join-2.ensures

pub add_kinds-returns-in_ok-append-in-Aggregate : goal.add_kinds-returns-in_ok-append-in-Aggregate
add_kinds-returns-in_ok-append-in-Aggregate t c =
    let below = c.as_slice-in-Aggregate.ensures ∙ c.in_ok-add_kinds-in-Aggregate.ensures ∙ ap (λ before. before ++ kinds_of c.get-in-Aggregate.result.now) c.new-below.ensures ∙ ap kinds_of c.get-in-Aggregate.ensures in
    let grouped = c.in_ok-append-in-Aggregate.ensures.ok ∙ ap (λ more. c.args.found.now ++ more) c.in_ok-kinds_at-in-Aggregate.ensures in
    added-behind c.add_aggregate_kinds.result _ _ c.args.found.now _ _ _ grouped
    ((λ i. kinds_in (below i) (c.as_slice-in-Aggregate-2.ensures i) ++ map (λ (aggregate : Aggr). aggregate.kind) (c.as_slice-in-Aggregate-3.ensures i))
    ∙ sym (ap kinds_of c.in-Aggregate.is ∙ kinds_of-Aggregate c.in-Aggregate.input c.in-Aggregate.groups c.in-Aggregate.aggregates)) c.add_aggregate_kinds.ensures

pub add_kinds-returns-in_ok-add_places-in-Prov : goal.add_kinds-returns-in_ok-add_places-in-Prov
add_kinds-returns-in_ok-add_places-in-Prov t c =
    let places = c.as_slice-in-Prov.ensures ∙ c.in_ok-add_places-in-Prov.ensures ∙ ap (λ before. before ++ shape c.get-in-Prov-2.result.now) c.new-places.ensures ∙ ap shape c.get-in-Prov-2.ensures in
    added-behind c.add_place_kinds.result _ _ c.args.found.now _ _ _ c.in_ok-add_kinds-in-Prov.ensures
    ((λ i. kinds_of (c.get-in-Prov.ensures i) ++ place_kinds (places i)) ∙ sym (ap kinds_of c.in-Prov.is ∙ kinds_of-Prov c.in-Prov.input)) c.add_place_kinds.ensures

pub add_kinds-returns-in_ok-add_kinds-in-Apply : goal.add_kinds-returns-in_ok-add_kinds-in-Apply
add_kinds-returns-in_ok-add_kinds-in-Apply t c =
    added-behind c.add_kinds-in-Apply-2.result _ _ c.args.found.now _ _ _ c.in_ok-add_kinds-in-Apply.ensures
    ((λ i. kinds_of (c.get-in-Apply.ensures i) ++ kinds_of (c.get-in-Apply-2.ensures i)) ∙ sym (ap kinds_of c.in-Apply.is ∙ kinds_of-Apply c.in-Apply.kind c.in-Apply.left c.in-Apply.right)) c.add_kinds-in-Apply-2.ensures

pub add_places-returns-in_ok-add_kinds-in-Base : goal.add_places-returns-in_ok-add_kinds-in-Base
add_places-returns-in_ok-add_kinds-in-Base t c =
    let below = c.as_slice.ensures ∙ c.in_ok-add_kinds-in-Base.ensures ∙ ap (λ before. before ++ kinds_of c.get.result.now) c.new-below.ensures ∙ ap kinds_of c.get.ensures in
    added c.add_source.result _ c.args.found.now _ _
    ((λ i. record { label = c.in-Base.label; kinds = kinds_in (below i) (c.as_slice-in-Base.ensures i) } ∷ []) ∙ sym (ap shape c.in-Base.is ∙ shape-Base c.in-Base.input c.in-Base.places c.in-Base.label)) c.add_source.ensures

pub add_places-returns-in_ok-add_places-in-Filter : goal.add_places-returns-in_ok-add_places-in-Filter
add_places-returns-in_ok-add_places-in-Filter t c =
    added-behind c.add_sub_places.result _ _ c.args.found.now _ _ _ c.in_ok-add_places-in-Filter.ensures
    ((λ i. shape (c.get-in-Filter.ensures i) ++ subs_shape (c.as_slice-in-Filter.ensures i)) ∙ sym (ap shape c.in-Filter.is ∙ shape-Filter c.in-Filter.input c.in-Filter.condition c.in-Filter.subs)) c.add_sub_places.ensures

pub add_places-returns-in_ok-add_places-in-Project : goal.add_places-returns-in_ok-add_places-in-Project
add_places-returns-in_ok-add_places-in-Project t c =
    added-behind c.add_sub_places-in-Project.result _ _ c.args.found.now _ _ _ c.in_ok-add_places-in-Project.ensures
    ((λ i. shape (c.get-in-Project.ensures i) ++ subs_shape (c.as_slice-in-Project.ensures i)) ∙ sym (ap shape c.in-Project.is ∙ shape-Project c.in-Project.input c.in-Project.items c.in-Project.subs)) c.add_sub_places-in-Project.ensures

pub add_places-returns-in_ok-add_places-in-Join-2 : goal.add_places-returns-in_ok-add_places-in-Join-2
add_places-returns-in_ok-add_places-in-Join-2 t c =
    added-behind c.add_sub_places-in-Join.result _ _ c.args.found.now _ _ _
    (added-joined _ c.args.found.now _ _ _ c.in_ok-add_places-in-Join.ensures c.in_ok-add_places-in-Join-2.ensures)
    ((λ i. shape (c.get-in-Join.ensures i) ++ shape (c.get-in-Join-2.ensures i) ++ subs_shape (c.as_slice-in-Join.ensures i)) ∙ sym (ap shape c.in-Join.is ∙ shape-Join c.in-Join.kind c.in-Join.left c.in-Join.right c.in-Join.condition c.in-Join.subs)) c.add_sub_places-in-Join.ensures

pub add_places-returns-in_ok-add_places-in-Union : goal.add_places-returns-in_ok-add_places-in-Union
add_places-returns-in_ok-add_places-in-Union t c =
    added-behind c.add_places-in-Union-2.result _ _ c.args.found.now _ _ _ c.in_ok-add_places-in-Union.ensures
    ((λ i. shape (c.get-in-Union.ensures i) ++ shape (c.get-in-Union-2.ensures i)) ∙ sym (ap shape c.in-Union.is ∙ shape-Union c.in-Union.all c.in-Union.left c.in-Union.right)) c.add_places-in-Union-2.ensures

pub add_places-returns-in_ok-add_places-in-Intersect : goal.add_places-returns-in_ok-add_places-in-Intersect
add_places-returns-in_ok-add_places-in-Intersect t c =
    added-behind c.add_places-in-Intersect-2.result _ _ c.args.found.now _ _ _ c.in_ok-add_places-in-Intersect.ensures
    ((λ i. shape (c.get-in-Intersect.ensures i) ++ shape (c.get-in-Intersect-2.ensures i)) ∙ sym (ap shape c.in-Intersect.is ∙ shape-Intersect c.in-Intersect.all c.in-Intersect.left c.in-Intersect.right)) c.add_places-in-Intersect-2.ensures

pub add_places-returns-in_ok-add_places-in-Except : goal.add_places-returns-in_ok-add_places-in-Except
add_places-returns-in_ok-add_places-in-Except t c =
    added-behind c.add_places-in-Except-2.result _ _ c.args.found.now _ _ _ c.in_ok-add_places-in-Except.ensures
    ((λ i. shape (c.get-in-Except.ensures i) ++ shape (c.get-in-Except-2.ensures i)) ∙ sym (ap shape c.in-Except.is ∙ shape-Except c.in-Except.all c.in-Except.left c.in-Except.right)) c.add_places-in-Except-2.ensures

pub add_places-returns-in-Distinct : goal.add_places-returns-in-Distinct
add_places-returns-in-Distinct t c = added c.add_places-in-Distinct.result _ c.args.found.now _ _ (ap shape c.get-in-Distinct.ensures ∙ sym (ap shape c.in-Distinct.is ∙ shape-Distinct c.in-Distinct.input)) c.add_places-in-Distinct.ensures

pub add_places-returns-in-Aggregate : goal.add_places-returns-in-Aggregate
add_places-returns-in-Aggregate t c = added c.add_places-in-Aggregate.result _ c.args.found.now _ _ (ap shape c.get-in-Aggregate.ensures ∙ sym (ap shape c.in-Aggregate.is ∙ shape-Aggregate c.in-Aggregate.input c.in-Aggregate.groups c.in-Aggregate.aggregates)) c.add_places-in-Aggregate.ensures

pub add_places-returns-in-Limit : goal.add_places-returns-in-Limit
add_places-returns-in-Limit t c = added c.add_places-in-Limit.result _ c.args.found.now _ _ (ap shape c.get-in-Limit.ensures ∙ sym (ap shape c.in-Limit.is ∙ shape-Limit c.in-Limit.input c.in-Limit.keys c.in-Limit.count)) c.add_places-in-Limit.ensures

pub add_places-returns-in-Prov : goal.add_places-returns-in-Prov
add_places-returns-in-Prov t c = sym (ap (λ places. c.args.found.now ++ places) (ap shape c.in-Prov.is ∙ shape-Prov c.in-Prov.input) ∙ append-nil c.args.found.now)

pub add_places-returns-in_ok-add_places-in-Apply : goal.add_places-returns-in_ok-add_places-in-Apply
add_places-returns-in_ok-add_places-in-Apply t c =
    added-behind c.add_places-in-Apply-2.result _ _ c.args.found.now _ _ _ c.in_ok-add_places-in-Apply.ensures
    ((λ i. shape (c.get-in-Apply.ensures i) ++ shape (c.get-in-Apply-2.ensures i)) ∙ sym (ap shape c.in-Apply.is ∙ shape-Apply c.in-Apply.kind c.in-Apply.left c.in-Apply.right)) c.add_places-in-Apply-2.ensures

pub add_sub_places-loop-sub-preserved : goal.add_sub_places-loop-sub-preserved
add_sub_places-loop-sub-preserved t c =
    added-joined _ _ _ (subs_shape (take c.loop-sub.sub-index c.args.subs.now)) _ c.loop-sub.invariant c.in_ok-add_places.ensures
    ∙ ap (λ places. c.args.found.now ++ places) (subs_shape-more c.args.subs.now c.loop-sub.sub-index c.sub-item.result c.loop-sub-test.true c.sub-item.is)
