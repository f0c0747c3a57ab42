use Rattle.std.proofs.Common.{◌++◌, take, sym, ap, ◌∙◌, append-nil}
use Rattle.contribution.proofs.Added.{added, added-behind, added-joined}
use Rattle.contribution.proofs.BuiltSources.{table_sources-Base, table_sources-Filter, table_sources-Project, table_sources-Join, table_sources-Apply, table_sources-Union, table_sources-Intersect, table_sources-Except, table_sources-Distinct, table_sources-Aggregate, table_sources-Limit, table_sources-Prov, subs_table_sources-more}
use Rattle.contribution.proofs.cross.+add_sources.Goals as goal
use Rattle.contribution.specs.CrossBase.{base_source, table_sources, subs_table_sources}

pub add_sources-returns-in-Base : goal.add_sources-returns-in-Base
add_sources-returns-in-Base t c =
    added c.add_source.result _ c.args.found.now _ _ (ap (λ input. base_source input c.in-Base.places) c.get.ensures ∙ sym (ap table_sources c.in-Base.is ∙ table_sources-Base c.in-Base.input c.in-Base.places c.in-Base.label)) c.add_source.ensures

pub add_sources-returns-in_ok-add_sources-in-Filter : goal.add_sources-returns-in_ok-add_sources-in-Filter
add_sources-returns-in_ok-add_sources-in-Filter t c =
    added-behind c.add_sub_sources.result _ _ c.args.found.now _ _ _ c.in_ok-add_sources-in-Filter.ensures
    ((λ i. table_sources (c.get-in-Filter.ensures i) ++ subs_table_sources (c.as_slice.ensures i)) ∙ sym (ap table_sources c.in-Filter.is ∙ table_sources-Filter c.in-Filter.input c.in-Filter.condition c.in-Filter.subs)) c.add_sub_sources.ensures

pub add_sources-returns-in_ok-add_sources-in-Project : goal.add_sources-returns-in_ok-add_sources-in-Project
add_sources-returns-in_ok-add_sources-in-Project t c =
    added-behind c.add_sub_sources-in-Project.result _ _ c.args.found.now _ _ _ c.in_ok-add_sources-in-Project.ensures
    ((λ i. table_sources (c.get-in-Project.ensures i) ++ subs_table_sources (c.as_slice-in-Project.ensures i)) ∙ sym (ap table_sources c.in-Project.is ∙ table_sources-Project c.in-Project.input c.in-Project.items c.in-Project.subs)) c.add_sub_sources-in-Project.ensures

pub add_sources-returns-in_ok-add_sources-in-Join-2 : goal.add_sources-returns-in_ok-add_sources-in-Join-2
add_sources-returns-in_ok-add_sources-in-Join-2 t c =
    added-behind c.add_sub_sources-in-Join.result _ _ c.args.found.now _ _ _
    (added-joined _ c.args.found.now _ _ _ c.in_ok-add_sources-in-Join.ensures c.in_ok-add_sources-in-Join-2.ensures)
    ((λ i. table_sources (c.get-in-Join.ensures i) ++ table_sources (c.get-in-Join-2.ensures i) ++ subs_table_sources (c.as_slice-in-Join.ensures i)) ∙ sym (ap table_sources c.in-Join.is ∙ table_sources-Join c.in-Join.kind c.in-Join.left c.in-Join.right c.in-Join.condition c.in-Join.subs))
    c.add_sub_sources-in-Join.ensures

pub add_sources-returns-in_ok-add_sources-in-Union : goal.add_sources-returns-in_ok-add_sources-in-Union
add_sources-returns-in_ok-add_sources-in-Union t c =
    added-behind c.add_sources-in-Union-2.result _ _ c.args.found.now _ _ _ c.in_ok-add_sources-in-Union.ensures
    ((λ i. table_sources (c.get-in-Union.ensures i) ++ table_sources (c.get-in-Union-2.ensures i)) ∙ sym (ap table_sources c.in-Union.is ∙ table_sources-Union c.in-Union.all c.in-Union.left c.in-Union.right)) c.add_sources-in-Union-2.ensures

pub add_sources-returns-in_ok-add_sources-in-Intersect : goal.add_sources-returns-in_ok-add_sources-in-Intersect
add_sources-returns-in_ok-add_sources-in-Intersect t c =
    added-behind c.add_sources-in-Intersect-2.result _ _ c.args.found.now _ _ _ c.in_ok-add_sources-in-Intersect.ensures
    ((λ i. table_sources (c.get-in-Intersect.ensures i) ++ table_sources (c.get-in-Intersect-2.ensures i)) ∙ sym (ap table_sources c.in-Intersect.is ∙ table_sources-Intersect c.in-Intersect.all c.in-Intersect.left c.in-Intersect.right)) c.add_sources-in-Intersect-2.ensures

pub add_sources-returns-in_ok-add_sources-in-Except : goal.add_sources-returns-in_ok-add_sources-in-Except
add_sources-returns-in_ok-add_sources-in-Except t c =
    added-behind c.add_sources-in-Except-2.result _ _ c.args.found.now _ _ _ c.in_ok-add_sources-in-Except.ensures
    ((λ i. table_sources (c.get-in-Except.ensures i) ++ table_sources (c.get-in-Except-2.ensures i)) ∙ sym (ap table_sources c.in-Except.is ∙ table_sources-Except c.in-Except.all c.in-Except.left c.in-Except.right)) c.add_sources-in-Except-2.ensures

pub add_sources-returns-in-Distinct : goal.add_sources-returns-in-Distinct
add_sources-returns-in-Distinct t c =
    added c.add_sources-in-Distinct.result _ c.args.found.now _ _ (ap table_sources c.get-in-Distinct.ensures ∙ sym (ap table_sources c.in-Distinct.is ∙ table_sources-Distinct c.in-Distinct.input)) c.add_sources-in-Distinct.ensures

pub add_sources-returns-in-Aggregate : goal.add_sources-returns-in-Aggregate
add_sources-returns-in-Aggregate t c =
    added c.add_sources-in-Aggregate.result _ c.args.found.now _ _ (ap table_sources c.get-in-Aggregate.ensures ∙ sym (ap table_sources c.in-Aggregate.is ∙ table_sources-Aggregate c.in-Aggregate.input c.in-Aggregate.groups c.in-Aggregate.aggregates)) c.add_sources-in-Aggregate.ensures

pub add_sources-returns-in-Limit : goal.add_sources-returns-in-Limit
add_sources-returns-in-Limit t c =
    added c.add_sources-in-Limit.result _ c.args.found.now _ _ (ap table_sources c.get-in-Limit.ensures ∙ sym (ap table_sources c.in-Limit.is ∙ table_sources-Limit c.in-Limit.input c.in-Limit.keys c.in-Limit.count)) c.add_sources-in-Limit.ensures

pub add_sources-returns-in-Prov : goal.add_sources-returns-in-Prov
add_sources-returns-in-Prov t c =
    sym (ap (λ sources. c.args.found.now ++ sources) (ap table_sources c.in-Prov.is ∙ table_sources-Prov c.in-Prov.input) ∙ append-nil c.args.found.now)

pub add_sources-returns-in_ok-add_sources-in-Apply : goal.add_sources-returns-in_ok-add_sources-in-Apply
add_sources-returns-in_ok-add_sources-in-Apply t c =
    added-behind c.add_sources-in-Apply-2.result _ _ c.args.found.now _ _ _ c.in_ok-add_sources-in-Apply.ensures
    ((λ i. table_sources (c.get-in-Apply.ensures i) ++ table_sources (c.get-in-Apply-2.ensures i)) ∙ sym (ap table_sources c.in-Apply.is ∙ table_sources-Apply c.in-Apply.kind c.in-Apply.left c.in-Apply.right)) c.add_sources-in-Apply-2.ensures

pub add_sub_sources-loop-sub-preserved : goal.add_sub_sources-loop-sub-preserved
add_sub_sources-loop-sub-preserved t c =
    added-joined _ _ _ (subs_table_sources (take c.loop-sub.sub-index c.args.subs.now)) _ c.loop-sub.invariant c.in_ok-add_sources.ensures
    ∙ ap (λ sources. c.args.found.now ++ sources)
    (subs_table_sources-more c.args.subs.now c.loop-sub.sub-index c.sub-item.result c.loop-sub-test.true c.sub-item.is)
