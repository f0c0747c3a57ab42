use Rattle.std.specs.Prelude.{◌≡◌, ℕ, ◌+◌, true, false, List, [], ◌∷◌, map, None, option_map, IfOk}
use Rattle.std.proofs.Common.{ap, refl, subst, ◌∙◌, sym, take}
use Rattle.name_meaning.specs.Items.{SelectPart}
use Rattle.sql_tree.specs.Regular.{is_lateral}
use Rattle.name_meaning.specs.Meanings.{Around, Surroundings, query_means_at}
use Rattle.name_meaning.specs.Trees.{arm_of, from_item_of, from_of, item_of, join_of, part_of, query_of, set_step_of, step_of}
use Rattle.name_meaning.specs.declared.scope.Scope.{Scope}
use Rattle.name_seen_parts.specs.Standing.{around_beside, around_of, standing_in, surroundings}
use Rattle.name_inside.specs.Held.{Adds, held_arm, held_at, held_from, held_item, held_operand, held_optional, held_select, held_step}
use Rattle.name_inside.specs.Passed.{HasWidth, IsReadAs}
use Rattle.name_inside.proofs.Arms.{aggregate_adds, arm-adds, between_adds, case_adds, chain_adds, coalesce_adds, column_adds, compared_adds, exists_adds, inlist_adds, inquery_adds, integer_adds, isdistinct_adds, isnull_adds, istruth_adds, like_adds, logic_adds, nots_adds, null_adds, nullif_adds, nullof_adds, paren_adds, quantified_adds, scalar_adds, signs_adds, step-adds, text_adds, truth_adds}
use Rattle.name_inside.proofs.Cores.{chain-stands, clauses-adds, core-adds, core-broken, core-stands, inner-adds, named-adds, operand-adds, paren-stands, query-adds, star-adds, table_star-adds, value-adds, first-added, join-tree, lateral-tree, no-sources, source-more, step-added}
use Rattle.name_inside.proofs.Gone.{flat-more, mapped-more}
use Rattle.name_inside.proofs.Over.{adds-alike, adds-both, adds-over}
use Rattle.name_inside.proofs.gathering.+gathering.Goals as goal
use Rattle.name_meaning.specs.Froms.{first_item, from_all, in_clause, in_from, join_all, FromMeant, FromPart}
use Rattle.std.proofs.lemmas.List.{take_all}
use Rattle.perm_values.proofs.Lists.{map-taken}
use Rattle.perm_values.proofs.Results.{when-ok, ok-anyway}
use Rattle.sql_tree.specs.declared.source.FromTree.{out-FromTree}
use Rattle.sql_tree.specs.declared.source.JoinStep.{JoinStep}
use Rattle.name_seen.proofs.FromTrees.{from-means}

pub expression_inside-returns-in-Null : goal.expression_inside-returns-in-Null
expression_inside-returns-in-Null t c =
    null_adds c.args.here.now.catalog.now (surroundings c.args.here.now) c.args.tree.now _ c.in-Null.is

pub expression_inside-returns-in-NullOf : goal.expression_inside-returns-in-NullOf
expression_inside-returns-in-NullOf t c =
    nullof_adds c.args.here.now.catalog.now (surroundings c.args.here.now) c.args.tree.now _ _ c.in-NullOf.is

pub expression_inside-returns-in-Integer : goal.expression_inside-returns-in-Integer
expression_inside-returns-in-Integer t c =
    integer_adds c.args.here.now.catalog.now (surroundings c.args.here.now) c.args.tree.now _ _ c.in-Integer.is

pub expression_inside-returns-in-Text : goal.expression_inside-returns-in-Text
expression_inside-returns-in-Text t c =
    text_adds c.args.here.now.catalog.now (surroundings c.args.here.now) c.args.tree.now _ _ c.in-Text.is

pub expression_inside-returns-in-Truth : goal.expression_inside-returns-in-Truth
expression_inside-returns-in-Truth t c =
    truth_adds c.args.here.now.catalog.now (surroundings c.args.here.now) c.args.tree.now _ _ c.in-Truth.is

pub expression_inside-returns-in-Column : goal.expression_inside-returns-in-Column
expression_inside-returns-in-Column t c =
    column_adds c.args.here.now.catalog.now (surroundings c.args.here.now) c.args.tree.now _ _ c.in-Column.is

pub expression_inside-returns-in-Paren : goal.expression_inside-returns-in-Paren
expression_inside-returns-in-Paren t c =
    when-ok c.expression_inside.result c.expression_inside.ensures (λ added.
    paren_adds c.args.here.now.catalog.now (surroundings c.args.here.now) c.args.tree.now _ _ _ _ c.in-Paren.is c.get.ensures added)

pub expression_inside-returns-in-Nots : goal.expression_inside-returns-in-Nots
expression_inside-returns-in-Nots t c =
    when-ok c.expression_inside-in-Nots.result c.expression_inside-in-Nots.ensures (λ added.
    nots_adds c.args.here.now.catalog.now (surroundings c.args.here.now) c.args.tree.now _ _ _ _ _ c.in-Nots.is c.get-in-Nots.ensures added)

pub expression_inside-returns-in-Signs : goal.expression_inside-returns-in-Signs
expression_inside-returns-in-Signs t c =
    when-ok c.expression_inside-in-Signs.result c.expression_inside-in-Signs.ensures (λ added.
    signs_adds c.args.here.now.catalog.now (surroundings c.args.here.now) c.args.tree.now _ _ _ _ _ c.in-Signs.is c.get-in-Signs.ensures added)

pub expression_inside-returns-in-IsNull : goal.expression_inside-returns-in-IsNull
expression_inside-returns-in-IsNull t c =
    when-ok c.expression_inside-in-IsNull.result c.expression_inside-in-IsNull.ensures (λ added.
    isnull_adds c.args.here.now.catalog.now (surroundings c.args.here.now) c.args.tree.now _ _ _ _ _ c.in-IsNull.is c.get-in-IsNull.ensures added)

pub expression_inside-returns-in-IsTruth : goal.expression_inside-returns-in-IsTruth
expression_inside-returns-in-IsTruth t c =
    when-ok c.expression_inside-in-IsTruth.result c.expression_inside-in-IsTruth.ensures (λ added.
    istruth_adds c.args.here.now.catalog.now (surroundings c.args.here.now) c.args.tree.now _ _ _ _ _ _ c.in-IsTruth.is c.get-in-IsTruth.ensures added)

pub expression_inside-returns-in_ok-expression_inside-in-Compared : goal.expression_inside-returns-in_ok-expression_inside-in-Compared
expression_inside-returns-in_ok-expression_inside-in-Compared t c =
    when-ok c.expression_inside-in-Compared-2.result c.expression_inside-in-Compared-2.ensures (λ added.
    compared_adds c.args.here.now.catalog.now (surroundings c.args.here.now) c.args.tree.now _ _ _ _ _ _ _ _ c.in-Compared.is c.get-in-Compared.ensures c.get-in-Compared-2.ensures
    c.in_ok-expression_inside-in-Compared.ensures added)

pub expression_inside-returns-in_ok-expression_inside-in-Like : goal.expression_inside-returns-in_ok-expression_inside-in-Like
expression_inside-returns-in_ok-expression_inside-in-Like t c =
    when-ok c.expression_inside-in-Like-2.result c.expression_inside-in-Like-2.ensures (λ added.
    like_adds c.args.here.now.catalog.now (surroundings c.args.here.now) c.args.tree.now _ _ _ _ _ _ _ _ c.in-Like.is c.get-in-Like.ensures c.get-in-Like-2.ensures
    c.in_ok-expression_inside-in-Like.ensures added)

pub expression_inside-returns-in_ok-expression_inside-in-IsDistinct : goal.expression_inside-returns-in_ok-expression_inside-in-IsDistinct
expression_inside-returns-in_ok-expression_inside-in-IsDistinct t c =
    when-ok c.expression_inside-in-IsDistinct-2.result c.expression_inside-in-IsDistinct-2.ensures (λ added.
    isdistinct_adds c.args.here.now.catalog.now (surroundings c.args.here.now) c.args.tree.now _ _ _ _ _ _ _ _ c.in-IsDistinct.is c.get-in-IsDistinct.ensures c.get-in-IsDistinct-2.ensures
    c.in_ok-expression_inside-in-IsDistinct.ensures added)

pub expression_inside-returns-in_ok-expression_inside-in-NullIf : goal.expression_inside-returns-in_ok-expression_inside-in-NullIf
expression_inside-returns-in_ok-expression_inside-in-NullIf t c =
    when-ok c.expression_inside-in-NullIf-2.result c.expression_inside-in-NullIf-2.ensures (λ added.
    nullif_adds c.args.here.now.catalog.now (surroundings c.args.here.now) c.args.tree.now _ _ _ _ _ _ _ c.in-NullIf.is c.get-in-NullIf.ensures c.get-in-NullIf-2.ensures
    c.in_ok-expression_inside-in-NullIf.ensures added)

pub expression_inside-returns-in_ok-expression_inside-in-Between-2 : goal.expression_inside-returns-in_ok-expression_inside-in-Between-2
expression_inside-returns-in_ok-expression_inside-in-Between-2 t c =
    when-ok c.expression_inside-in-Between-3.result c.expression_inside-in-Between-3.ensures (λ added.
    between_adds c.args.here.now.catalog.now (surroundings c.args.here.now) c.args.tree.now _ _ _ _ _ _ _ _ _ _ _ c.in-Between.is c.get-in-Between.ensures c.get-in-Between-2.ensures c.get-in-Between-3.ensures
    c.in_ok-expression_inside-in-Between.ensures c.in_ok-expression_inside-in-Between-2.ensures added)

pub expression_inside-returns-in-Logic : goal.expression_inside-returns-in-Logic
expression_inside-returns-in-Logic t c =
    when-ok c.expressions_inside.result c.expressions_inside.ensures (λ added.
    logic_adds c.args.here.now.catalog.now (surroundings c.args.here.now) c.args.tree.now _ _ _ _ _ c.in-Logic.is c.as_slice.ensures added)

pub expression_inside-returns-in-Coalesce : goal.expression_inside-returns-in-Coalesce
expression_inside-returns-in-Coalesce t c =
    when-ok c.expressions_inside-in-Coalesce.result c.expressions_inside-in-Coalesce.ensures (λ added.
    coalesce_adds c.args.here.now.catalog.now (surroundings c.args.here.now) c.args.tree.now _ _ _ _ c.in-Coalesce.is c.as_slice-in-Coalesce.ensures added)

pub expression_inside-returns-in_ok-expression_inside-in-InList : goal.expression_inside-returns-in_ok-expression_inside-in-InList
expression_inside-returns-in_ok-expression_inside-in-InList t c =
    when-ok c.expressions_inside-in-InList.result c.expressions_inside-in-InList.ensures (λ added.
    inlist_adds c.args.here.now.catalog.now (surroundings c.args.here.now) c.args.tree.now _ _ _ _ _ _ _ _ c.in-InList.is c.get-in-InList.ensures c.as_slice-in-InList.ensures
    c.in_ok-expression_inside-in-InList.ensures added)

pub expression_inside-returns-in_ok-expression_inside-in-Chain : goal.expression_inside-returns-in_ok-expression_inside-in-Chain
expression_inside-returns-in_ok-expression_inside-in-Chain t c =
    when-ok c.steps_inside.result c.steps_inside.ensures (λ added.
    chain_adds c.args.here.now.catalog.now (surroundings c.args.here.now) c.args.tree.now _ _ _ _ _ _ _ c.in-Chain.is c.get-in-Chain.ensures c.as_slice-in-Chain.ensures
    c.in_ok-expression_inside-in-Chain.ensures added)

pub expression_inside-returns-in_ok-arms_inside-in-Case : goal.expression_inside-returns-in_ok-arms_inside-in-Case
expression_inside-returns-in_ok-arms_inside-in-Case t c =
    when-ok c.otherwise_inside.result c.otherwise_inside.ensures (λ added.
    case_adds c.args.here.now.catalog.now (surroundings c.args.here.now) c.args.tree.now _ _ c.in-Case.otherwise _ _ _ c.in-Case.is c.as_slice-in-Case.ensures
    c.in_ok-arms_inside-in-Case.ensures added)

pub expression_inside-returns-in-Aggregate : goal.expression_inside-returns-in-Aggregate
expression_inside-returns-in-Aggregate t c =
    aggregate_adds c.args.here.now.catalog.now (surroundings c.args.here.now) c.args.tree.now c.in-Aggregate.function c.in-Aggregate.argument _ c.in-Aggregate.is

pub expression_inside-returns-in-InQuery : goal.expression_inside-returns-in-InQuery
expression_inside-returns-in-InQuery t c =
    when-ok c.sublink_inside.result c.sublink_inside.ensures (λ added.
    inquery_adds c.args.here.now.catalog.now (surroundings c.args.here.now) c.args.tree.now _ _ _ _ _ _ c.in-InQuery.is c.get-in-InQuery.ensures added)

pub expression_inside-returns-in-Quantified : goal.expression_inside-returns-in-Quantified
expression_inside-returns-in-Quantified t c =
    when-ok c.sublink_inside-in-Quantified.result c.sublink_inside-in-Quantified.ensures (λ added.
    quantified_adds c.args.here.now.catalog.now (surroundings c.args.here.now) c.args.tree.now _ _ _ _ _ _ _ c.in-Quantified.is c.get-in-Quantified.ensures added)

pub expression_inside-returns-in-Exists : goal.expression_inside-returns-in-Exists
expression_inside-returns-in-Exists t c =
    when-ok c.sublink_inside-in-Exists.result c.sublink_inside-in-Exists.ensures (λ added.
    exists_adds c.args.here.now.catalog.now (surroundings c.args.here.now) c.args.tree.now _ _ _ _ c.in-Exists.is c.get-in-Exists.ensures added)

pub expression_inside-returns-in-Scalar : goal.expression_inside-returns-in-Scalar
expression_inside-returns-in-Scalar t c =
    when-ok c.sublink_inside-in-Scalar.result c.sublink_inside-in-Scalar.ensures (λ added.
    scalar_adds c.args.here.now.catalog.now (surroundings c.args.here.now) c.args.tree.now _ _ _ _ c.in-Scalar.is c.get-in-Scalar.ensures added)

pub expressions_inside-loop-tree-preserved : goal.expressions_inside-loop-tree-preserved
expressions_inside-loop-tree-preserved t c =
    mapped-more (held_at (surroundings c.args.here.now)) (part_of c.args.here.now.catalog.now) c.args.trees.now c.loop-tree.tree-index c.tree-item.result c.loop-tree-test.true c.tree-item.is
    c.loop-tree.invariant c.in_ok-expression_inside.ensures

pub steps_inside-loop-step-preserved : goal.steps_inside-loop-step-preserved
steps_inside-loop-step-preserved t c =
    mapped-more (held_step (surroundings c.args.here.now)) (step_of c.args.here.now.catalog.now) c.args.steps.now c.loop-step.step-index c.step-item.result c.loop-step-test.true c.step-item.is
    c.loop-step.invariant (step-adds c.args.here.now.catalog.now (surroundings c.args.here.now) c.step-item.result c.in_ok-expression_inside.ensures)

pub arms_inside-loop-arm-preserved : goal.arms_inside-loop-arm-preserved
arms_inside-loop-arm-preserved t c =
    flat-more (held_arm (surroundings c.args.here.now)) (arm_of c.args.here.now.catalog.now) c.args.arms.now c.loop-arm.arm-index c.arm-item.result c.loop-arm-test.true c.arm-item.is
    c.loop-arm.invariant (arm-adds c.args.here.now.catalog.now (surroundings c.args.here.now) c.arm-item.result c.in_ok-expression_inside.ensures c.in_ok-expression_inside-2.ensures)

pub operands_inside-loop-step-preserved : goal.operands_inside-loop-step-preserved
operands_inside-loop-step-preserved t c =
    mapped-more (held_operand (around_of c.args.around.now)) (set_step_of c.args.around.now.catalog.now) c.args.steps.now c.loop-step.step-index c.step-item.result c.loop-step-test.true c.step-item.is
    c.loop-step.invariant (operand-adds c.args.around.now.catalog.now (around_of c.args.around.now) c.step-item.result (rw (c.operand-behind.ensures.catalog, c.operand-behind.ensures.place) at c.in_ok-set_inside.ensures))

pub items_inside-loop-item-preserved : goal.items_inside-loop-item-preserved
items_inside-loop-item-preserved t c =
    λ has_from scope. mapped-more (λ (item : SelectPart). held_select (item.means has_from scope (surroundings c.args.here.now))) (item_of c.args.here.now.catalog.now) c.args.items.now c.loop-item.item-index c.item-item.result
    c.loop-item-test.true c.item-item.is (c.loop-item.invariant has_from scope) (c.in_ok-item_inside.ensures has_from scope)

pub sources_inside-loop-tree-init : goal.sources_inside-loop-tree-init
sources_inside-loop-tree-init t c = no-sources (around_of c.args.around.now).outer c.args.found.now

pub sources_inside-loop-tree-preserved : goal.sources_inside-loop-tree-preserved
sources_inside-loop-tree-preserved t c =
    let around = c.args.around.now in
    let part = from_of around.catalog.now in
    subst (λ (parts : List FromPart). Adds (held_from (from_all (around_of around).outer parts) ∷ []) c.args.found.now c.from_inside.new.found)
    (sym (map-taken part c.args.trees.now c.loop-tree.tree-index c.tree-item.result c.loop-tree-test.true c.tree-item.is))
    (source-more (around_of around).outer (map part (take c.loop-tree.tree-index c.args.trees.now)) (part c.tree-item.result) c.args.found.now c.loop-tree.found
    c.from_inside.new.found c.loop-tree.invariant c.in_ok-from_inside.ensures)

pub sources_inside-returns : goal.sources_inside-returns
sources_inside-returns t c = rw (take_all c.loop-tree.tree-index c.args.trees.now c.loop-tree-test.false) at c.loop-tree.invariant

pub from_inside-loop-step-init : goal.from_inside-loop-step-init
from_inside-loop-step-init t c = λ names.
    first-added names _ c.in_ok-read.read c.no_items-own.result c.put_read.new.scope _ _ c.no_items-own.ensures
    ((rw (c.in_from.ensures.place, c.in_from.ensures.catalog) at c.in_ok-source_inside.ensures) names)
    ((rw (c.in_from-2.ensures.place, c.in_from-2.ensures.catalog) at c.in_ok-read.ensures) names) c.in_ok-put_read.ensures

pub from_inside-loop-step-preserved : goal.from_inside-loop-step-preserved
from_inside-loop-step-preserved t c = λ names.
    let around = c.args.around.now in
    let outer = (around_of around).outer in
    let tree = c.args.tree.now in
    let first = (from_item_of around.catalog.now (out-FromTree tree).first).means (in_from outer) names in
    step-added around.catalog.now outer (first_item names first) (out-FromTree tree).joins c.loop-step.step-index c.step-item.result c.loop-step.own c.join_inside.new.own
    (rw c.as_slice-step-items.ensures at c.loop-step-test.true) (rw c.as_slice-step-items.ensures at c.step-item.is) (c.loop-step.invariant names)
    c.in_ok-join_inside.ensures

pub from_inside-returns : goal.from_inside-returns
from_inside-returns t c = λ names.
    let around = c.args.around.now in
    let outer = (around_of around).outer in
    let tree = c.args.tree.now in
    let first = (from_item_of around.catalog.now (out-FromTree tree).first).means (in_from outer) names in
    let joins = (out-FromTree tree).joins in
    let all = rw c.as_slice-step-items.ensures at c.loop-step-test.false in
    subst (λ (m : FromMeant). Adds (held_from m ∷ []) c.args.found.now c.loop-step.found)
    (ap (λ (steps : List JoinStep). join_all outer (first_item names first) (map (join_of around.catalog.now) steps)) (take_all c.loop-step.step-index joins all)
    ∙ sym (from-means around.catalog.now tree outer names)) (c.loop-step.invariant names).adds

pub join_inside-returns-then-is_lateral : goal.join_inside-returns-then-is_lateral
join_inside-returns-then-is_lateral t c =
    let around = c.args.around.now in
    when-ok c.beside_inside.result c.beside_inside.ensures (λ added.
    lateral-tree around.catalog.now (around_of around).outer c.args.step.now c.args.own.now c.beside_inside.new.own _ _
    (sym c.is_lateral.ensures ∙ c.if-is_lateral.true) added)

pub join_inside-returns : goal.join_inside-returns
join_inside-returns t c =
    let around = c.args.around.now in
    when-ok c.on_inside.result c.on_inside.ensures (λ on.
    join-tree around.catalog.now (around_of around).outer c.args.step.now c.in_ok-read.read c.args.own.now c.put_read.new.scope _ _ _
    (sym c.is_lateral.ensures ∙ c.if-is_lateral.false)
    (rw (c.in_from.ensures.place, c.in_from.ensures.catalog) at c.in_ok-source_inside.ensures)
    (rw (c.in_from-2.ensures.place, c.in_from-2.ensures.catalog) at c.in_ok-read.ensures) c.in_ok-put_read.ensures on)

pub beside_inside-returns : goal.beside_inside-returns
beside_inside-returns t c =
    when-ok c.put_read.result c.put_read.ensures (λ puts. record {
      adds = c.in_ok-read.ensures.adds;
      read = c.in_ok-read.read;
      reads = c.in_ok-read.ensures.reads;
      puts = puts;
    })

pub seeing_inside-returns-clause-adds : goal.seeing_inside-returns-clause-adds
seeing_inside-returns-clause-adds t c =
    let around = c.args.around.now in
    let item = from_item_of around.catalog.now c.args.item.now in
    ok-anyway c.item_read.result (λ names.
    subst (λ (place : Around). Adds (held_item (item.means place names) ∷ []) c.args.found.now c.source_inside.new.found)
    (c.lateral-place.ensures.place ∙ ap around_beside c.in_ok-scopes.ensures)
    ((rw c.lateral-place.ensures.catalog at c.in_ok-source_inside.ensures) names))

pub seeing_inside-returns-clause-reads : goal.seeing_inside-returns-clause-reads
seeing_inside-returns-clause-reads t c =
    let around = c.args.around.now in
    let item = from_item_of around.catalog.now c.args.item.now in
    subst (λ (place : Around). IfOk c.item_read.result (λ read. (names : List (List ℕ)) → IsReadAs (item.means place names) read))
    (c.lateral-place.ensures.place ∙ ap around_beside c.in_ok-scopes.ensures)
    (rw c.lateral-place.ensures.catalog at c.item_read.ensures)

pub on_inside-returns : goal.on_inside-returns
on_inside-returns t c =
    let around = c.args.around.now in
    let outer = (around_of around).outer in
    let condition = option_map (part_of around.catalog.now) c.args.condition.now in
    subst (λ (here : Surroundings). Adds (held_optional here condition) c.args.found.now c.condition_inside.new.found)
    (c.seeing-here.ensures.place ∙ ap (λ (scopes : List Scope). standing_in scopes c.in_clause.result) c.in_ok-rows.ensures
    ∙ c.in_clause.ensures c.args.own.now outer)
    (rw c.seeing-here.ensures.catalog at c.in_ok-condition_inside.ensures)

pub item_inside-returns-in-Star : goal.item_inside-returns-in-Star
item_inside-returns-in-Star t c =
    λ has_from scope. star-adds c.args.here.now.catalog.now has_from scope (surroundings c.args.here.now) c.args.item.now _ _ c.in-Star.is

pub item_inside-returns-in-TableStar : goal.item_inside-returns-in-TableStar
item_inside-returns-in-TableStar t c =
    λ has_from scope. table_star-adds c.args.here.now.catalog.now has_from scope (surroundings c.args.here.now) c.args.item.now _ _ c.in-TableStar.is

pub item_inside-returns-in_ok-expression_inside-in-Value : goal.item_inside-returns-in_ok-expression_inside-in-Value
item_inside-returns-in_ok-expression_inside-in-Value t c =
    λ has_from scope. value-adds c.args.here.now.catalog.now has_from scope (surroundings c.args.here.now) c.args.item.now _ _ _ _ c.in-Value.is c.in_ok-expression_inside-in-Value.ensures

pub set_inside-returns-in_ok-core_inside-in-Core : goal.set_inside-returns-in_ok-core_inside-in-Core
set_inside-returns-in_ok-core_inside-in-Core t c =
    adds-alike (core-stands c.args.around.now.catalog.now (around_of c.args.around.now) c.args.tree.now c.in-Core.core c.in-Core.is) (rw c.get.ensures at c.in_ok-core_inside-in-Core.ensures)

pub set_inside-returns-in_ok-query_inside-in-Paren : goal.set_inside-returns-in_ok-query_inside-in-Paren
set_inside-returns-in_ok-query_inside-in-Paren t c =
    adds-alike (paren-stands c.args.around.now.catalog.now (around_of c.args.around.now) c.args.tree.now c.in-Paren.query c.in-Paren.is)
    (rw (c.get-in-Paren.ensures, c.operand.ensures.catalog, c.operand.ensures.place) at c.in_ok-query_inside-in-Paren.ensures)

pub set_inside-returns-in_ok-operands_inside-in-Chain : goal.set_inside-returns-in_ok-operands_inside-in-Chain
set_inside-returns-in_ok-operands_inside-in-Chain t c =
    adds-over (chain-stands c.args.around.now.catalog.now (around_of c.args.around.now) c.args.tree.now c.in-Chain.first c.in-Chain.steps c.in-Chain.is)
    (adds-both (rw c.get-in-Chain.ensures at c.in_ok-set_inside-in-Chain.ensures) (rw c.as_slice.ensures at c.in_ok-operands_inside-in-Chain.ensures))

pub core_inside-returns-in-None : goal.core_inside-returns-in-None
core_inside-returns-in-None t c =
    core-broken c.args.around.now.catalog.now (around_of c.args.around.now) c.args.core.now _ _ c.in_ok-scope_of.ensures c.in-None.is

pub core_inside-returns-in_ok-clauses_inside-in-Some : goal.core_inside-returns-in_ok-clauses_inside-in-Some
core_inside-returns-in_ok-clauses_inside-in-Some t c =
    core-adds c.args.around.now.catalog.now (around_of c.args.around.now) c.args.core.now _ c.in-Some.scope _ _ c.in_ok-scope_of.ensures c.in-Some.is
    c.in_ok-clauses_inside-in-Some.ensures

pub clauses_inside-returns : goal.clauses_inside-returns
clauses_inside-returns t c =
    clauses-adds c.args.around.now.catalog.now (around_of c.args.around.now) c.args.scope.now c.args.core.now (surroundings c.seeing-in_list.result)
    (surroundings c.seeing-in_where.result) c.as_slice.result.now c.as_slice-2.result.now _ _ _ _ _
    (c.seeing-in_list.ensures.place ∙ ap (λ (scopes : List Scope). standing_in scopes c.in_clause.result) c.in_ok-grouped.ensures
    ∙ c.in_clause.ensures c.args.scope.now (around_of c.args.around.now).outer)
    (c.seeing-in_where.ensures.place ∙ ap (λ (scopes : List Scope). standing_in scopes c.in_clause-2.result) c.in_ok-rows.ensures
    ∙ c.in_clause-2.ensures (record c.args.scope.now { groups = None }) (around_of c.args.around.now).outer)
    c.as_slice.ensures c.as_slice-2.ensures (rw c.seeing-in_list.ensures.catalog at c.in_ok-items_inside.ensures) c.in_ok-sources_inside.ensures
    (rw c.seeing-in_where.ensures.catalog at c.in_ok-condition_inside.ensures) (rw c.seeing-in_list.ensures.catalog at c.in_ok-condition_inside-2.ensures)

pub query_inside-returns-in_ok-set_inside-in-Some : goal.query_inside-returns-in_ok-set_inside-in-Some
query_inside-returns-in_ok-set_inside-in-Some t c =
    query-adds c.args.around.now.catalog.now (around_of c.args.around.now) c.args.tree.now c.in-Some.width _ _ _ (subst (HasWidth (query_means_at (query_of c.args.around.now.catalog.now c.args.tree.now) (around_of c.args.around.now))) c.in-Some.is c.in_ok-width_of.ensures)
    c.in_ok-add_query-in-Some.ensures c.in_ok-set_inside-in-Some.ensures

pub source_inside-returns-in_ok-name_inside-in-Named : goal.source_inside-returns-in_ok-name_inside-in-Named
source_inside-returns-in_ok-name_inside-in-Named t c =
    λ names. named-adds c.args.around.now.catalog.now (around_of c.args.around.now) names c.args.item.now _ _ _ _ c.in-Named.is refl c.in_ok-name_inside-in-Named.ensures

pub source_inside-returns-in_ok-query_inside-in-Inner : goal.source_inside-returns-in_ok-query_inside-in-Inner
source_inside-returns-in_ok-query_inside-in-Inner t c =
    λ names. inner-adds c.args.around.now.catalog.now (around_of c.args.around.now) names c.args.item.now _ _ _ _ c.in-Inner.is c.get.ensures
    c.in_ok-query_inside-in-Inner.ensures
