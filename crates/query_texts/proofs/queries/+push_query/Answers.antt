use Rattle.std.proofs.Common.{◌∙◌, ◌+◌, [], ◌∷◌, ◌++◌, ap, length, sym, refl, append_assoc}
use Rattle.std.specs.Prelude.{codes}
use Rattle.std.proofs.lemmas.List.{take_all}
use Rattle.perm_values.proofs.Results.{when-ok}
use Rattle.bag_algebra.specs.Kinds.{width_of}
use Rattle.bag_algebra.specs.built.Openings.{Aggregate-is, Base-is, Distinct-is, Except-is, Intersect-is, Limit-is, Project_with-is, Prov-is, Union-is}
use Rattle.bag_algebra.specs.declared.query.Query.TheVariants.{Aggregate, Apply, Base, Distinct, Except, Filter, Intersect, Join, Limit, Project, Prov, Single, Table, Union}
use Rattle.query_texts.specs.clauses.ClauseTexts.{above_text, below_text, columns_text, grouped_text, join_text, lateral_on, lateral_text, source_text}
use Rattle.query_texts.specs.clauses.Frames.{called_in}
use Rattle.query_texts.specs.clauses.Names.{deeper, naming}
use Rattle.tree_texts.proofs.Pieces.{laid2, laid3, laid4, laid6, mapped_next}
use Rattle.query_texts.specs.QueryTexts.{query_bytes, sub_text, subs_texts, written}
use Rattle.query_texts.specs.built.Parts.{block_part, over_bytes, select_part}
use Rattle.query_texts.proofs.OpenedQueries.{aggregate_pushed, all_part, apply_all, apply_pushed, apply_selected, base_pushed, distinct_pushed, except_text, filter_all, filter_pushed, filter_selected, intersect_text, join_all, join_pushed, join_selected, limit_pushed, no_block, no_part, project_pushed, project_selected, prov_pushed, select_pushed, set_pushed, single_part, sub_joined, table_part, union_text}
use Rattle.query_texts.proofs.Shaped.{block_is, block_over, chain_is, from_over, left_apart, left_is, listed_over, listed_part}
use Rattle.query_texts.proofs.queries.+push_query.Goals as goal

-- ---- whole queries

pub push_query-returns-in_ok-push-in-Table : goal.push_query-returns-in_ok-push-in-Table
push_query-returns-in_ok-push-in-Table t c =
    let frame = c.args.frame.now in
    when-ok c.push_part.result c.push_part.ensures
    (select_pushed frame.tables.now frame.prefix.now (called_in frame) c.args.draft.now c.args.query.now (Table c.in-Table.id c.in-Table.kinds) _ _
    (refl) c.in-Table.is c.in_ok-push-in-Table.ensures)

pub push_query-returns-in_ok-push-in-Single : goal.push_query-returns-in_ok-push-in-Single
push_query-returns-in_ok-push-in-Single t c =
    let frame = c.args.frame.now in
    when-ok c.push_part-in-Single.result c.push_part-in-Single.ensures
    (select_pushed frame.tables.now frame.prefix.now (called_in frame) c.args.draft.now c.args.query.now (Single) _ _
    (refl) c.in-Single.is c.in_ok-push-in-Single.ensures)

pub push_query-returns-in_ok-push-in-Filter : goal.push_query-returns-in_ok-push-in-Filter
push_query-returns-in_ok-push-in-Filter t c =
    let frame = c.args.frame.now in
    when-ok c.push_part-in-Filter.result c.push_part-in-Filter.ensures
    (select_pushed frame.tables.now frame.prefix.now (called_in frame) c.args.draft.now c.args.query.now (Filter c.in-Filter.input c.in-Filter.condition c.in-Filter.subs) _ _
    (filter_selected frame.tables.now frame.prefix.now (called_in frame) c.in-Filter.input c.in-Filter.condition c.in-Filter.subs) c.in-Filter.is c.in_ok-push-in-Filter.ensures)

pub push_query-returns-in_ok-push-in-Project : goal.push_query-returns-in_ok-push-in-Project
push_query-returns-in_ok-push-in-Project t c =
    let frame = c.args.frame.now in
    when-ok c.push_part-in-Project.result c.push_part-in-Project.ensures
    (select_pushed frame.tables.now frame.prefix.now (called_in frame) c.args.draft.now c.args.query.now (Project c.in-Project.input c.in-Project.items c.in-Project.subs) _ _
    (project_selected frame.tables.now frame.prefix.now (called_in frame) c.in-Project.input c.in-Project.items c.in-Project.subs) c.in-Project.is c.in_ok-push-in-Project.ensures)

pub push_query-returns-in_ok-push-in-Join : goal.push_query-returns-in_ok-push-in-Join
push_query-returns-in_ok-push-in-Join t c =
    let frame = c.args.frame.now in
    when-ok c.push_part-in-Join.result c.push_part-in-Join.ensures
    (select_pushed frame.tables.now frame.prefix.now (called_in frame) c.args.draft.now c.args.query.now (Join c.in-Join.kind c.in-Join.left c.in-Join.right c.in-Join.condition c.in-Join.subs) _ _
    (join_selected frame.tables.now frame.prefix.now (called_in frame) c.in-Join.kind c.in-Join.left c.in-Join.right c.in-Join.condition c.in-Join.subs) c.in-Join.is c.in_ok-push-in-Join.ensures)

pub push_query-returns-in_ok-push-in-Apply : goal.push_query-returns-in_ok-push-in-Apply
push_query-returns-in_ok-push-in-Apply t c =
    let frame = c.args.frame.now in
    when-ok c.push_part-in-Apply.result c.push_part-in-Apply.ensures
    (select_pushed frame.tables.now frame.prefix.now (called_in frame) c.args.draft.now c.args.query.now (Apply c.in-Apply.kind c.in-Apply.left c.in-Apply.right) _ _
    (apply_selected frame.tables.now frame.prefix.now (called_in frame) c.in-Apply.kind c.in-Apply.left c.in-Apply.right) c.in-Apply.is c.in_ok-push-in-Apply.ensures)

pub push_query-returns-in-Base : goal.push_query-returns-in-Base
push_query-returns-in-Base t c =
    let frame = c.args.frame.now in
    when-ok c.push_query.result c.push_query.ensures
    (base_pushed frame.tables.now frame.prefix.now (called_in frame) c.args.draft.now c.args.query.now c.in-Base.input _ _ _ _ c.in-Base.is c.get.ensures)

pub push_query-returns-in_ok-push-in-Union-2 : goal.push_query-returns-in_ok-push-in-Union-2
push_query-returns-in_ok-push-in-Union-2 t c =
    let frame = c.args.frame.now in
    let left = c.in-Union.left in
    let right = c.in-Union.right in
    when-ok c.push_listed-in-Union.result c.push_listed-in-Union.ensures
    (set_pushed frame.tables.now frame.prefix.now (called_in frame) c.args.draft.now c.args.query.now (Union c.in-Union.all left right) left right _ _
    (codes "UNION ") c.in-Union.all _ _ _ _ _ (union_text frame.tables.now frame.prefix.now (called_in frame) c.in-Union.all left right) c.in-Union.is
    c.get-in-Union.ensures c.get-in-Union-2.ensures c.in_ok-push-in-Union.ensures c.in_ok-push_listed-in-Union.ensures c.in_ok-push_set-in-Union.ensures
    c.in_ok-push-in-Union-2.ensures)

pub push_query-returns-in_ok-push-in-Intersect-2 : goal.push_query-returns-in_ok-push-in-Intersect-2
push_query-returns-in_ok-push-in-Intersect-2 t c =
    let frame = c.args.frame.now in
    let left = c.in-Intersect.left in
    let right = c.in-Intersect.right in
    when-ok c.push_listed-in-Intersect-2.result c.push_listed-in-Intersect-2.ensures
    (set_pushed frame.tables.now frame.prefix.now (called_in frame) c.args.draft.now c.args.query.now (Intersect c.in-Intersect.all left right) left right _ _
    (codes "INTERSECT ") c.in-Intersect.all _ _ _ _ _ (intersect_text frame.tables.now frame.prefix.now (called_in frame) c.in-Intersect.all left right) c.in-Intersect.is
    c.get-in-Intersect.ensures c.get-in-Intersect-2.ensures c.in_ok-push-in-Intersect.ensures c.in_ok-push_listed-in-Intersect.ensures c.in_ok-push_set-in-Intersect.ensures
    c.in_ok-push-in-Intersect-2.ensures)

pub push_query-returns-in_ok-push-in-Except-2 : goal.push_query-returns-in_ok-push-in-Except-2
push_query-returns-in_ok-push-in-Except-2 t c =
    let frame = c.args.frame.now in
    let left = c.in-Except.left in
    let right = c.in-Except.right in
    when-ok c.push_listed-in-Except-2.result c.push_listed-in-Except-2.ensures
    (set_pushed frame.tables.now frame.prefix.now (called_in frame) c.args.draft.now c.args.query.now (Except c.in-Except.all left right) left right _ _
    (codes "EXCEPT ") c.in-Except.all _ _ _ _ _ (except_text frame.tables.now frame.prefix.now (called_in frame) c.in-Except.all left right) c.in-Except.is
    c.get-in-Except.ensures c.get-in-Except-2.ensures c.in_ok-push-in-Except.ensures c.in_ok-push_listed-in-Except.ensures c.in_ok-push_set-in-Except.ensures
    c.in_ok-push-in-Except-2.ensures)

pub push_query-returns-in_ok-push-in-Distinct : goal.push_query-returns-in_ok-push-in-Distinct
push_query-returns-in_ok-push-in-Distinct t c =
    let frame = c.args.frame.now in
    when-ok c.push_listed-in-Distinct.result c.push_listed-in-Distinct.ensures
    (distinct_pushed frame.tables.now frame.prefix.now (called_in frame) c.args.draft.now c.args.query.now c.in-Distinct.input _ _ _ c.in-Distinct.is
    c.get-in-Distinct.ensures c.in_ok-push-in-Distinct.ensures)

pub push_query-returns-in-Aggregate : goal.push_query-returns-in-Aggregate
push_query-returns-in-Aggregate t c =
    let frame = c.args.frame.now in
    when-ok c.push_groups.result c.push_groups.ensures
    (aggregate_pushed frame.tables.now frame.prefix.now (called_in frame) c.args.draft.now c.args.query.now c.in-Aggregate.input _ c.in-Aggregate.groups _
    c.in-Aggregate.aggregates _ _ c.in-Aggregate.is c.get-in-Aggregate.ensures c.as_slice.ensures c.as_slice-in-Aggregate.ensures)

pub push_query-returns-in_ok-push_listed-in-Limit : goal.push_query-returns-in_ok-push_listed-in-Limit
push_query-returns-in_ok-push_listed-in-Limit t c =
    let frame = c.args.frame.now in
    when-ok c.push_limit.result c.push_limit.ensures
    (limit_pushed frame.tables.now frame.prefix.now (called_in frame) c.args.draft.now c.args.query.now c.in-Limit.input _ _ c.in-Limit.keys _ c.in-Limit.count
    _ _ _ _ c.in-Limit.is c.get-in-Limit.ensures c.in_ok-columns-in-Limit.ensures.columns c.get-in-Limit-2.ensures c.as_slice-in-Limit.ensures
    c.in_ok-push-in-Limit.ensures c.in_ok-push_listed-in-Limit.ensures)

pub push_query-returns-in-Prov : goal.push_query-returns-in-Prov
push_query-returns-in-Prov t c =
    let frame = c.args.frame.now in
    when-ok c.push_query-in-Prov.result c.push_query-in-Prov.ensures
    (prov_pushed frame.tables.now frame.prefix.now (called_in frame) c.args.draft.now c.args.query.now c.in-Prov.input _ _ c.in-Prov.is c.get-in-Prov.ensures)

-- ---- behind SELECT

pub push_part-returns-in-Table : goal.push_part-returns-in-Table
push_part-returns-in-Table t c =
    let frame = c.args.frame.now in
    when-ok c.push_table.result c.push_table.ensures
    (table_part frame.tables.now frame.prefix.now (called_in frame) c.args.draft.now c.args.query.now c.in-Table.id c.in-Table.kinds _ c.in-Table.is)

pub push_part-returns-in-Single : goal.push_part-returns-in-Single
push_part-returns-in-Single t c =
    let frame = c.args.frame.now in
    when-ok c.push_unread.result c.push_unread.ensures
    (single_part frame.tables.now frame.prefix.now (called_in frame) c.args.draft.now c.args.query.now _ c.in-Single.is)

pub push_part-returns-in_ok-push_projecting-in-Project : goal.push_part-returns-in_ok-push_projecting-in-Project
push_part-returns-in_ok-push_projecting-in-Project t c =
    let frame = c.args.frame.now in
    when-ok c.push_block.result c.push_block.ensures
    (project_pushed frame.tables.now frame.prefix.now (called_in frame) c.args.draft.now c.args.query.now c.in-Project.input _ c.in-Project.items _
    c.in-Project.subs _ _ _ _ _ c.in-Project.is c.get.ensures c.as_slice-in-Project-2.ensures c.as_slice.ensures
    c.in_ok-texts-in-Project.ensures c.as_slice-in-Project.ensures c.in_ok-push_projecting-in-Project.ensures)

pub push_part-returns-in-Filter : goal.push_part-returns-in-Filter
push_part-returns-in-Filter t c =
    let frame = c.args.frame.now in
    when-ok c.push_all.result c.push_all.ensures
    (all_part frame.tables.now frame.prefix.now (called_in frame) c.args.draft.now c.args.query.now (Filter c.in-Filter.input c.in-Filter.condition c.in-Filter.subs) _
    (filter_all frame.tables.now frame.prefix.now (called_in frame) c.in-Filter.input c.in-Filter.condition c.in-Filter.subs) c.in-Filter.is)

pub push_part-returns-in-Join : goal.push_part-returns-in-Join
push_part-returns-in-Join t c =
    let frame = c.args.frame.now in
    when-ok c.push_all-in-Join.result c.push_all-in-Join.ensures
    (all_part frame.tables.now frame.prefix.now (called_in frame) c.args.draft.now c.args.query.now (Join c.in-Join.kind c.in-Join.left c.in-Join.right c.in-Join.condition c.in-Join.subs) _
    (join_all frame.tables.now frame.prefix.now (called_in frame) c.in-Join.kind c.in-Join.left c.in-Join.right c.in-Join.condition c.in-Join.subs) c.in-Join.is)

pub push_part-returns-in-Apply : goal.push_part-returns-in-Apply
push_part-returns-in-Apply t c =
    let frame = c.args.frame.now in
    when-ok c.push_all-in-Apply.result c.push_all-in-Apply.ensures
    (all_part frame.tables.now frame.prefix.now (called_in frame) c.args.draft.now c.args.query.now (Apply c.in-Apply.kind c.in-Apply.left c.in-Apply.right) _
    (apply_all frame.tables.now frame.prefix.now (called_in frame) c.in-Apply.kind c.in-Apply.left c.in-Apply.right) c.in-Apply.is)

pub push_part-returns-in-Base : goal.push_part-returns-in-Base
push_part-returns-in-Base t c =
    let frame = c.args.frame.now in
    no_part frame.tables.now frame.prefix.now (called_in frame) c.args.draft.now c.args.query.now (Base c.in-Base.input c.in-Base.places c.in-Base.label) c.in-Base.is (ap (select_part frame.tables.now frame.prefix.now (called_in frame)) (Base-is c.in-Base.input c.in-Base.places c.in-Base.label))

pub push_part-returns-in-Union : goal.push_part-returns-in-Union
push_part-returns-in-Union t c =
    let frame = c.args.frame.now in
    no_part frame.tables.now frame.prefix.now (called_in frame) c.args.draft.now c.args.query.now (Union c.in-Union.all c.in-Union.left c.in-Union.right) c.in-Union.is (ap (select_part frame.tables.now frame.prefix.now (called_in frame)) (Union-is c.in-Union.all c.in-Union.left c.in-Union.right))

pub push_part-returns-in-Intersect : goal.push_part-returns-in-Intersect
push_part-returns-in-Intersect t c =
    let frame = c.args.frame.now in
    no_part frame.tables.now frame.prefix.now (called_in frame) c.args.draft.now c.args.query.now (Intersect c.in-Intersect.all c.in-Intersect.left c.in-Intersect.right) c.in-Intersect.is (ap (select_part frame.tables.now frame.prefix.now (called_in frame)) (Intersect-is c.in-Intersect.all c.in-Intersect.left c.in-Intersect.right))

pub push_part-returns-in-Except : goal.push_part-returns-in-Except
push_part-returns-in-Except t c =
    let frame = c.args.frame.now in
    no_part frame.tables.now frame.prefix.now (called_in frame) c.args.draft.now c.args.query.now (Except c.in-Except.all c.in-Except.left c.in-Except.right) c.in-Except.is (ap (select_part frame.tables.now frame.prefix.now (called_in frame)) (Except-is c.in-Except.all c.in-Except.left c.in-Except.right))

pub push_part-returns-in-Distinct : goal.push_part-returns-in-Distinct
push_part-returns-in-Distinct t c =
    let frame = c.args.frame.now in
    no_part frame.tables.now frame.prefix.now (called_in frame) c.args.draft.now c.args.query.now (Distinct c.in-Distinct.input) c.in-Distinct.is (ap (select_part frame.tables.now frame.prefix.now (called_in frame)) (Distinct-is c.in-Distinct.input))

pub push_part-returns-in-Aggregate : goal.push_part-returns-in-Aggregate
push_part-returns-in-Aggregate t c =
    let frame = c.args.frame.now in
    no_part frame.tables.now frame.prefix.now (called_in frame) c.args.draft.now c.args.query.now (Aggregate c.in-Aggregate.input c.in-Aggregate.groups c.in-Aggregate.aggregates) c.in-Aggregate.is (ap (select_part frame.tables.now frame.prefix.now (called_in frame)) (Aggregate-is c.in-Aggregate.input c.in-Aggregate.groups c.in-Aggregate.aggregates))

pub push_part-returns-in-Limit : goal.push_part-returns-in-Limit
push_part-returns-in-Limit t c =
    let frame = c.args.frame.now in
    no_part frame.tables.now frame.prefix.now (called_in frame) c.args.draft.now c.args.query.now (Limit c.in-Limit.input c.in-Limit.keys c.in-Limit.count) c.in-Limit.is (ap (select_part frame.tables.now frame.prefix.now (called_in frame)) (Limit-is c.in-Limit.input c.in-Limit.keys c.in-Limit.count))

pub push_part-returns-in-Prov : goal.push_part-returns-in-Prov
push_part-returns-in-Prov t c =
    let frame = c.args.frame.now in
    no_part frame.tables.now frame.prefix.now (called_in frame) c.args.draft.now c.args.query.now (Prov c.in-Prov.input) c.in-Prov.is (ap (select_part frame.tables.now frame.prefix.now (called_in frame)) (Prov-is c.in-Prov.input))

-- all columns of a FROM with a WHERE
pub push_all-returns : goal.push_all-returns
push_all-returns t c =
    let frame = c.args.frame.now in
    let columns = columns_text frame.prefix.now (called_in frame) in
    when-ok c.push_bare.result c.push_bare.ensures
    (laid2 c.args.draft.now _ _ (columns (width_of c.args.query.now)) (block_part frame.tables.now frame.prefix.now c.args.query.now)
    (c.in_ok-push_columns.ensures ∙ ap (λ count. c.args.draft.now ++ columns count) c.in_ok-count.ensures.columns))

-- ---- FROM and WHERE

pub push_bare-returns-in_ok-push_from-in-Filter : goal.push_bare-returns-in_ok-push_from-in-Filter
push_bare-returns-in_ok-push_from-in-Filter t c =
    let frame = c.args.frame.now in
    when-ok c.push_where.result c.push_where.ensures
    (filter_pushed frame.tables.now frame.prefix.now c.args.draft.now c.args.query.now c.in-Filter.input _ c.in-Filter.condition
    c.in-Filter.subs _ _ _ _ _ c.in-Filter.is c.get.ensures c.as_slice.ensures c.in_ok-texts-in-Filter.ensures c.as_slice-in-Filter.ensures
    c.in_ok-push_from-in-Filter.ensures)

pub push_bare-returns-in_ok-push_joined-in-Join : goal.push_bare-returns-in_ok-push_joined-in-Join
push_bare-returns-in_ok-push_joined-in-Join t c =
    let frame = c.args.frame.now in
    when-ok c.push_condition.result c.push_condition.ensures
    (join_pushed frame.tables.now frame.prefix.now c.args.draft.now c.args.query.now c.in-Join.kind c.in-Join.left c.in-Join.right _ _ _
    c.in-Join.condition c.in-Join.subs _ _ _ _ _ _ _ c.in-Join.is c.as_slice-in-Join.ensures c.in_ok-texts-in-Join.ensures c.as_slice-in-Join-2.ensures
    c.get-in-Join.ensures c.in_ok-before-in-Join.ensures.columns c.get-in-Join-2.ensures c.get-in-Join-3.ensures c.in_ok-push_left-in-Join.ensures
    c.in_ok-push_joined-in-Join.ensures)

pub push_bare-returns-in_ok-push_from-in-Apply : goal.push_bare-returns-in_ok-push_from-in-Apply
push_bare-returns-in_ok-push_from-in-Apply t c =
    let frame = c.args.frame.now in
    when-ok c.push_lateral.result c.push_lateral.ensures
    (apply_pushed frame.tables.now frame.prefix.now c.args.draft.now c.args.query.now c.in-Apply.kind c.in-Apply.left c.in-Apply.right _ _ _
    _ _ _ c.in-Apply.is c.get-in-Apply.ensures c.in_ok-before-in-Apply.ensures.columns c.get-in-Apply-2.ensures c.get-in-Apply-3.ensures
    c.in_ok-push_from-in-Apply.ensures)

pub push_bare-returns-in-Table : goal.push_bare-returns-in-Table
push_bare-returns-in-Table t c =
    let frame = c.args.frame.now in
    no_block frame.tables.now frame.prefix.now c.args.draft.now c.args.query.now (Table c.in-Table.id c.in-Table.kinds) c.in-Table.is refl

pub push_bare-returns-in-Single : goal.push_bare-returns-in-Single
push_bare-returns-in-Single t c =
    let frame = c.args.frame.now in
    no_block frame.tables.now frame.prefix.now c.args.draft.now c.args.query.now (Single) c.in-Single.is refl

pub push_bare-returns-in-Base : goal.push_bare-returns-in-Base
push_bare-returns-in-Base t c =
    let frame = c.args.frame.now in
    no_block frame.tables.now frame.prefix.now c.args.draft.now c.args.query.now (Base c.in-Base.input c.in-Base.places c.in-Base.label) c.in-Base.is (ap (block_part frame.tables.now frame.prefix.now) (Base-is c.in-Base.input c.in-Base.places c.in-Base.label))

pub push_bare-returns-in-Project : goal.push_bare-returns-in-Project
push_bare-returns-in-Project t c =
    let frame = c.args.frame.now in
    no_block frame.tables.now frame.prefix.now c.args.draft.now c.args.query.now (Project c.in-Project.input c.in-Project.items c.in-Project.subs) c.in-Project.is (ap (block_part frame.tables.now frame.prefix.now) (Project_with-is c.in-Project.input c.in-Project.items c.in-Project.subs))

pub push_bare-returns-in-Union : goal.push_bare-returns-in-Union
push_bare-returns-in-Union t c =
    let frame = c.args.frame.now in
    no_block frame.tables.now frame.prefix.now c.args.draft.now c.args.query.now (Union c.in-Union.all c.in-Union.left c.in-Union.right) c.in-Union.is (ap (block_part frame.tables.now frame.prefix.now) (Union-is c.in-Union.all c.in-Union.left c.in-Union.right))

pub push_bare-returns-in-Intersect : goal.push_bare-returns-in-Intersect
push_bare-returns-in-Intersect t c =
    let frame = c.args.frame.now in
    no_block frame.tables.now frame.prefix.now c.args.draft.now c.args.query.now (Intersect c.in-Intersect.all c.in-Intersect.left c.in-Intersect.right) c.in-Intersect.is (ap (block_part frame.tables.now frame.prefix.now) (Intersect-is c.in-Intersect.all c.in-Intersect.left c.in-Intersect.right))

pub push_bare-returns-in-Except : goal.push_bare-returns-in-Except
push_bare-returns-in-Except t c =
    let frame = c.args.frame.now in
    no_block frame.tables.now frame.prefix.now c.args.draft.now c.args.query.now (Except c.in-Except.all c.in-Except.left c.in-Except.right) c.in-Except.is (ap (block_part frame.tables.now frame.prefix.now) (Except-is c.in-Except.all c.in-Except.left c.in-Except.right))

pub push_bare-returns-in-Distinct : goal.push_bare-returns-in-Distinct
push_bare-returns-in-Distinct t c =
    let frame = c.args.frame.now in
    no_block frame.tables.now frame.prefix.now c.args.draft.now c.args.query.now (Distinct c.in-Distinct.input) c.in-Distinct.is (ap (block_part frame.tables.now frame.prefix.now) (Distinct-is c.in-Distinct.input))

pub push_bare-returns-in-Aggregate : goal.push_bare-returns-in-Aggregate
push_bare-returns-in-Aggregate t c =
    let frame = c.args.frame.now in
    no_block frame.tables.now frame.prefix.now c.args.draft.now c.args.query.now (Aggregate c.in-Aggregate.input c.in-Aggregate.groups c.in-Aggregate.aggregates) c.in-Aggregate.is (ap (block_part frame.tables.now frame.prefix.now) (Aggregate-is c.in-Aggregate.input c.in-Aggregate.groups c.in-Aggregate.aggregates))

pub push_bare-returns-in-Limit : goal.push_bare-returns-in-Limit
push_bare-returns-in-Limit t c =
    let frame = c.args.frame.now in
    no_block frame.tables.now frame.prefix.now c.args.draft.now c.args.query.now (Limit c.in-Limit.input c.in-Limit.keys c.in-Limit.count) c.in-Limit.is (ap (block_part frame.tables.now frame.prefix.now) (Limit-is c.in-Limit.input c.in-Limit.keys c.in-Limit.count))

pub push_bare-returns-in-Prov : goal.push_bare-returns-in-Prov
push_bare-returns-in-Prov t c =
    let frame = c.args.frame.now in
    no_block frame.tables.now frame.prefix.now c.args.draft.now c.args.query.now (Prov c.in-Prov.input) c.in-Prov.is (ap (block_part frame.tables.now frame.prefix.now) (Prov-is c.in-Prov.input))

pub push_block-returns-then-is_block : goal.push_block-returns-then-is_block
push_block-returns-then-is_block t c =
    let frame = c.args.frame.now in
    when-ok c.push_bare.result c.push_bare.ensures (λ pushed.
    pushed ∙ ap (λ text. c.args.draft.now ++ text) (block_is frame.tables.now frame.prefix.now c.args.query.now (sym c.is_block.ensures ∙ c.if-is_block.true)))

pub push_block-returns-else-is_block : goal.push_block-returns-else-is_block
push_block-returns-else-is_block t c =
    let frame = c.args.frame.now in
    when-ok c.push_over.result c.push_over.ensures (λ pushed.
    pushed ∙ ap (λ text. c.args.draft.now ++ text) (block_over frame.tables.now frame.prefix.now c.args.query.now (sym c.is_block.ensures ∙ c.if-is_block.false)))

pub push_from-returns-then-is_chain : goal.push_from-returns-then-is_chain
push_from-returns-then-is_chain t c =
    let frame = c.args.frame.now in
    when-ok c.push_bare.result c.push_bare.ensures (λ pushed.
    pushed ∙ ap (λ text. c.args.draft.now ++ text) (chain_is frame.tables.now frame.prefix.now c.args.query.now (sym c.is_chain.ensures ∙ c.if-is_chain.true)))

pub push_from-returns-else-is_chain : goal.push_from-returns-else-is_chain
push_from-returns-else-is_chain t c =
    let frame = c.args.frame.now in
    when-ok c.push_over.result c.push_over.ensures (λ pushed.
    pushed ∙ ap (λ text. c.args.draft.now ++ text) (from_over frame.tables.now frame.prefix.now c.args.query.now (sym c.is_chain.ensures ∙ c.if-is_chain.false)))

pub push_left-returns-then-is_chained : goal.push_left-returns-then-is_chained
push_left-returns-then-is_chained t c =
    let frame = c.args.frame.now in
    when-ok c.push_from.result c.push_from.ensures (λ pushed.
    pushed ∙ ap (λ text. c.args.draft.now ++ text)
    (left_is frame.tables.now frame.prefix.now c.args.kind c.args.left.now (sym c.is_chained.ensures ∙ c.if-is_chained.true)))

pub push_left-returns-else-is_chained : goal.push_left-returns-else-is_chained
push_left-returns-else-is_chained t c =
    let frame = c.args.frame.now in
    when-ok c.push_over.result c.push_over.ensures (λ pushed.
    pushed ∙ ap (λ text. c.args.draft.now ++ text)
    (left_apart frame.tables.now frame.prefix.now c.args.kind c.args.left.now (sym c.is_chained.ensures ∙ c.if-is_chained.false)))

pub push_listed-returns-then-is_select : goal.push_listed-returns-then-is_select
push_listed-returns-then-is_select t c =
    let frame = c.args.frame.now in
    when-ok c.push_part.result c.push_part.ensures (λ pushed.
    pushed ∙ ap (λ text. c.args.draft.now ++ text)
    (listed_part frame.tables.now frame.prefix.now (called_in frame) c.args.query.now (sym c.is_select.ensures ∙ c.if-is_select.true)))

pub push_listed-returns-in_ok-push_columns : goal.push_listed-returns-in_ok-push_columns
push_listed-returns-in_ok-push_columns t c =
    let frame = c.args.frame.now in
    let columns = columns_text frame.prefix.now (called_in frame) in
    when-ok c.push_over.result c.push_over.ensures (λ last.
    laid2 c.args.draft.now _ _ (columns (width_of c.args.query.now)) (over_bytes frame.tables.now frame.prefix.now c.args.query.now)
    (c.in_ok-push_columns.ensures ∙ ap (λ count. c.args.draft.now ++ columns count) c.in_ok-count.ensures.columns) last
    ∙ ap (λ text. c.args.draft.now ++ text)
    (listed_over frame.tables.now frame.prefix.now (called_in frame) c.args.query.now (sym c.is_select.ensures ∙ c.if-is_select.false)))

-- ---- joins

pub push_joined-returns : goal.push_joined-returns
push_joined-returns t c =
    let frame = c.args.frame.now in
    let prefix = frame.prefix.now in
    let number = c.args.before + 1 in
    when-ok c.push-2.result c.push-2.ensures (λ last.
    laid4 c.args.draft.now _ _ _ _ (join_text c.args.kind) (query_bytes frame.tables.now prefix (naming prefix number) c.args.right.now) (source_text number)
    (codes "ON ") (rw c.join_text.ensures at c.in_ok-push.ensures) (rw c.in_ok-first.ensures at c.in_ok-push_query.ensures)
    (rw c.in_ok-first.ensures at c.in_ok-push_source.ensures) last)

pub push_lateral-returns : goal.push_lateral-returns
push_lateral-returns t c =
    let frame = c.args.frame.now in
    let prefix = frame.prefix.now in
    let number = c.args.before + 1 in
    when-ok c.push_lateral_source.result c.push_lateral_source.ensures (λ last.
    laid3 c.args.draft.now _ _ _ (lateral_text c.args.kind)
    (query_bytes frame.tables.now (deeper prefix) (naming prefix number) c.args.right.now) (source_text number ++ lateral_on c.args.kind)
    (rw c.lateral_text.ensures at c.in_ok-push.ensures)
    (rw (c.in_ok-first.ensures, c.as_slice-prefix.ensures, c.in_ok-longer.ensures) at c.in_ok-push_query.ensures) (rw c.in_ok-first.ensures at last))

-- ---- groups

pub push_groups-returns : goal.push_groups-returns
push_groups-returns t c =
    let frame = c.args.frame.now in
    let prefix = frame.prefix.now in
    let groups = c.args.groups.now in
    let aggregates = c.args.aggregates.now in
    let above = above_text prefix (called_in frame) (length groups) aggregates in
    let below = below_text prefix groups aggregates in
    let block = (written frame.tables.now prefix c.args.input.now).block in
    let grouped = grouped_text prefix (length groups) in
    when-ok c.push_grouped.result c.push_grouped.ensures (λ last.
    laid6 c.args.draft.now _ _ _ _ _ _ above (codes "FROM ( ") below block (codes ") AS \"t\" ") grouped c.in_ok-push_above.ensures c.in_ok-push.ensures
    c.in_ok-push_below.ensures c.in_ok-push_block.ensures c.in_ok-push-2.ensures last
    ∙ ap (λ t. c.args.draft.now ++ (above ++ (codes "FROM ( " ++ t)))
    (sym (append_assoc (below ++ block) (codes ") AS \"t\" ") grouped ∙ append_assoc below block (codes ") AS \"t\" " ++ grouped))))

-- ---- sublinks

pub sub_text-returns : goal.sub_text-returns
sub_text-returns t c =
    let frame = c.args.frame.now in
    c.into_bytes.ensures
    ∙ sub_joined frame.tables.now frame.prefix.now c.args.sub.now _ _ _ _ _ _ _ c.new-text.ensures c.in_ok-longer.ensures c.as_slice-prefix.ensures
    c.in_ok-push_asking.ensures c.in_ok-push_query.ensures c.asked_back.ensures c.in_ok-push.ensures

pub sub_texts-loop-sub-preserved : goal.sub_texts-loop-sub-preserved
sub_texts-loop-sub-preserved t c =
    mapped_next (sub_text c.args.frame.now.tables.now c.args.frame.now.prefix.now) c.args.subs.now c.loop-sub.sub-index c.sub-item.result _ _
    c.loop-sub-test.true c.sub-item.is c.loop-sub.invariant (c.in_ok-push.ensures.ok ∙ ap (λ text. c.loop-sub.texts ++ text ∷ []) c.in_ok-sub_text.ensures)

pub sub_texts-returns : goal.sub_texts-returns
sub_texts-returns t c =
    c.loop-sub.invariant
    ∙ ap (subs_texts c.args.frame.now.tables.now c.args.frame.now.prefix.now) (take_all c.loop-sub.sub-index c.args.subs.now c.loop-sub-test.false)
