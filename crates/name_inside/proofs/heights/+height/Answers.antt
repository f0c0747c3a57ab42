use Rattle.std.specs.Prelude.{max, true, List, map, flat_map, ◌∷◌, [], Option, option_map}
use Rattle.std.proofs.Common.{ap, arith, refl, subst, sym, take, ◌∙◌}
use Rattle.std.proofs.lemmas.List.{take_all}
use Rattle.sql_tree.specs.declared.expression.ArmTree.{ArmTree}
use Rattle.sql_tree.specs.declared.expression.ExprStep.{ExprStep}
use Rattle.sql_tree.specs.declared.expression.ExprTree.{ExprTree}
use Rattle.sql_tree.specs.declared.query.SelectItem.{SelectItem}
use Rattle.sql_tree.specs.declared.query.SetStep.{SetStep}
use Rattle.sql_tree.specs.declared.source.FromTree.{FromTree, out-FromTree}
use Rattle.sql_tree.specs.declared.source.JoinStep.{JoinStep}
use Rattle.name_made_parts.specs.Cored.{items_meant}
use Rattle.name_meaning.specs.Expressions.{arm_operands, else_operand, step_operand}
use Rattle.name_meaning.specs.Froms.{first_item, from_all, in_clause, in_from, join_all}
use Rattle.name_meaning.specs.Items.{SelectPart}
use Rattle.name_meaning.specs.Meanings.{means_at}
use Rattle.name_meaning.specs.Operands.{operand}
use Rattle.name_meaning.specs.Queries.{may_not_ask, set_chain}
use Rattle.name_meaning.specs.Sublinks.{around_of}
use Rattle.name_meaning.specs.Trees.{arm_of, from_item_of, from_of, item_of, join_of, part_of, set_of_tree, set_step_of, step_of}
use Rattle.name_seen.proofs.FromTrees.{from-means}
use Rattle.name_inside.specs.heights.Least.{above, above_both, arm_least, chain_least, core_least, expr_least, from_least, highest, if_there, item_least, join_least, least_height, listed_least, operand_least, set_least, sources_least, step_least}
use Rattle.name_inside.specs.heights.High.{FromHigh, ListHigh, OperandsHigh, OptionalHigh, QueryHigh}
use Rattle.name_inside.proofs.heights.Chains.{grown, grown-sources, regrouped}
use Rattle.name_inside.proofs.heights.Equations.{both, aggregate-least, arm-least, between-least, case-least, chain-least, chain-set-least, coalesce-least, column-least, compared-least, core-least, core-set-least, exists-least, from-least, inlist-least, inner-least, inquery-least, integer-least, isdistinct-least, isnull-least, istruth-least, lateral-least, like-least, logic-least, named-least, nots-least, null-least, nullif-least, nullof-least, operand-least, paren-least, paren-set-least, plain-least, quantified-least, query-least, scalar-least, signs-least, star-least, step-least, table-star-least, text-least, truth-least, value-least}
use Rattle.name_inside.proofs.heights.Forms.{any-listed, any-subs, arm-high, between-high, case-high, chain-high as chained-high, coalesce-high, compared-high, condition-high, else-high, exists_tree-high, inlist-high, inquery-high, isdistinct-high, isnull-high, istruth-high, like-high, logic-high, no-condition, no-else, no-items, nots-high, nullif-high, paren-high, quantified-high, scalar_tree-high, signs-high, step-high, value-high}
use Rattle.name_inside.proofs.heights.Operands.{flat-high, listed-high, mapped-high, no-operands, operand-at, operand-pair}
use Rattle.name_inside.proofs.heights.Parts.{any-item, chain-high, chain-set, core-set, core-tree, first-high, inner-item, joins-high, lateral-tree, no-sources, paren-set, plain-tree, query-high, sources-high}
use Rattle.name_inside.proofs.heights.+height.Goals as goal

-- ---- queries

pub query_height-returns-clause-is : goal.query_height-returns-clause-is
query_height-returns-clause-is t c = c.set_height.ensures.is ∙ sym (query-least c.args.tree.now)

pub query_height-returns-clause-high : goal.query_height-returns-clause-high
query_height-returns-clause-high t c = λ held around sound.
    query-high held around c.args.tree.now c.set_height.result (c.set_height.ensures.high held around sound)

pub set_height-returns-in-Core-clause-is : goal.set_height-returns-in-Core-clause-is
set_height-returns-in-Core-clause-is t c = c.core_height.ensures.is ∙ ap core_least c.get.ensures ∙ sym (core-set-least c.args.tree.now c.in-Core.core c.in-Core.is)

pub set_height-returns-in-Core-clause-high : goal.set_height-returns-in-Core-clause-high
set_height-returns-in-Core-clause-high t c = λ held around sound.
    core-set held around c.args.tree.now c.core_height.result c.in-Core.core c.in-Core.is (rw c.get.ensures at (c.core_height.ensures.high held around sound))

pub set_height-returns-in-Paren-clause-is : goal.set_height-returns-in-Paren-clause-is
set_height-returns-in-Paren-clause-is t c = c.query_height.ensures.is ∙ ap least_height c.get-in-Paren.ensures ∙ sym (paren-set-least c.args.tree.now c.in-Paren.query c.in-Paren.is)

pub set_height-returns-in-Paren-clause-high : goal.set_height-returns-in-Paren-clause-high
set_height-returns-in-Paren-clause-high t c = λ held around sound.
    paren-set held around c.args.tree.now c.query_height.result c.in-Paren.query c.in-Paren.is
    (rw c.get-in-Paren.ensures at (c.query_height.ensures.high held (may_not_ask around) sound))

pub set_height-returns-in-Chain-clause-is : goal.set_height-returns-in-Chain-clause-is
set_height-returns-in-Chain-clause-is t c = c.chain_height.ensures.is
    ∙ both chain_least (c.set_height-before.ensures.is ∙ ap set_least c.get-in-Chain.ensures) (ap (map operand_least) c.as_slice.ensures)
    ∙ sym (chain-set-least c.args.tree.now c.in-Chain.first c.in-Chain.steps c.in-Chain.is)

pub set_height-returns-in-Chain-clause-high : goal.set_height-returns-in-Chain-clause-high
set_height-returns-in-Chain-clause-high t c = λ held around sound.
    chain-set held around c.args.tree.now c.chain_height.result c.in-Chain.first c.in-Chain.steps c.in-Chain.is
    (rw c.as_slice.ensures at (c.chain_height.ensures.high held around ((set_of_tree held c.in-Chain.first).means around) sound
    (rw c.get-in-Chain.ensures at (c.set_height-before.ensures.high held around sound))))

pub chain_height-loop-step-init : goal.chain_height-loop-step-init
chain_height-loop-step-init t c = (
  refl,
  λ held around left sound first. first,
)

pub chain_height-loop-step-preserved : goal.chain_height-loop-step-preserved
chain_height-loop-step-preserved t c = (
  grown operand_least c.args.steps.now c.loop-step.step-index c.step-item.result c.loop-step-test.true c.step-item.is above_both c.args.before c.loop-step.height
      c.set_height.result c.above-height.result (c.above-height.ensures.is ∙ ap above c.max.ensures) (c.set_height.ensures.is ∙ sym (operand-least c.step-item.result)) c.loop-step.invariant.0,
  λ held around left sound first.
      chain-high held around left c.args.steps.now c.loop-step.step-index c.step-item.result c.above-height.result c.loop-step.height c.set_height.result
      c.loop-step-test.true c.step-item.is (omega (arith, c.above-height.ensures.high, c.max.ensures))
      (c.loop-step.invariant.1 held around left sound first) (c.set_height.ensures.high held (may_not_ask around) sound),
)

pub chain_height-returns-clause-is : goal.chain_height-returns-clause-is
chain_height-returns-clause-is t c = c.loop-step.invariant.0
    ∙ ap (λ (steps : List SetStep). chain_least c.args.before (map operand_least steps)) (take_all c.loop-step.step-index c.args.steps.now c.loop-step-test.false)

pub chain_height-returns-clause-high : goal.chain_height-returns-clause-high
chain_height-returns-clause-high t c = λ held around left sound first.
    subst (λ (steps : List SetStep). QueryHigh c.loop-step.height (set_chain around left (map (set_step_of held) steps)))
    (take_all c.loop-step.step-index c.args.steps.now c.loop-step-test.false) (c.loop-step.invariant.1 held around left sound first)

pub core_height-returns-clause-is : goal.core_height-returns-clause-is
core_height-returns-clause-is t c = c.above.ensures.is
    ∙ ap above (c.max-3.ensures ∙ both max (c.max-2.ensures ∙ both max (c.max.ensures ∙ both max
    (c.sources_height-input.ensures.is ∙ ap (λ (sources : List FromTree). sources_least (map from_least sources)) c.as_slice.ensures)
    c.condition_height-kept.ensures.is) c.condition_height-chosen.ensures.is)
    (c.items_height-listed.ensures.is ∙ ap (λ (items : List SelectItem). highest (map listed_least items)) c.as_slice-2.ensures))
    ∙ sym (core-least c.args.core.now)

pub core_height-returns-clause-high : goal.core_height-returns-clause-high
core_height-returns-clause-high t c = λ held around sound.
    core-tree held around c.args.core.now c.above.result c.sources_height-input.result c.condition_height-kept.result c.condition_height-chosen.result
    c.items_height-listed.result (omega (arith, c.above.ensures.high, c.max.ensures, c.max-2.ensures, c.max-3.ensures))
    (rw c.as_slice.ensures at (c.sources_height-input.ensures.high held around.outer sound))
    (c.condition_height-kept.ensures.high held sound) (c.condition_height-chosen.ensures.high held sound)
    (λ has_from scope. rw c.as_slice-2.ensures at (c.items_height-listed.ensures.high held has_from scope (in_clause scope around.outer true) sound))

-- ---- FROM

pub sources_height-loop-place-init : goal.sources_height-loop-place-init
sources_height-loop-place-init t c = (
  refl,
  λ held outer sound. no-sources outer,
)

pub sources_height-loop-place-preserved : goal.sources_height-loop-place-preserved
sources_height-loop-place-preserved t c = (
  grown-sources from_least c.args.sources.now c.loop-place.place c.index-sources-place.result c.loop-place-test.true c.index-sources-place.is c.loop-place.height
      c.source_height.result c.beside-height.result c.beside-height.ensures.first c.beside-height.ensures.behind c.source_height.ensures.is c.loop-place.invariant.0,
  λ held outer sound.
      sources-high held outer c.args.sources.now c.loop-place.place c.index-sources-place.result _ _ _ c.loop-place-test.true c.index-sources-place.is
      (λ zero. omega (arith, c.beside-height.ensures.first zero)) c.beside-height.ensures.more (c.loop-place.invariant.1 held outer sound)
      (λ earlier. c.source_height.ensures.high held outer earlier sound),
)

pub sources_height-returns-clause-is : goal.sources_height-returns-clause-is
sources_height-returns-clause-is t c = c.loop-place.invariant.0
    ∙ ap (λ (sources : List FromTree). sources_least (map from_least sources)) (take_all c.loop-place.place c.args.sources.now c.loop-place-test.false)

pub sources_height-returns-clause-high : goal.sources_height-returns-clause-high
sources_height-returns-clause-high t c = λ held outer sound.
    subst (λ (sources : List FromTree). FromHigh c.loop-place.height (from_all outer (map (from_of held) sources)))
    (take_all c.loop-place.place c.args.sources.now c.loop-place-test.false) (c.loop-place.invariant.1 held outer sound)

pub source_height-loop-step-init : goal.source_height-loop-step-init
source_height-loop-step-init t c = (
  c.item_height-height.ensures.is,
  λ held outer earlier sound.
      first-high held outer earlier (out-FromTree c.args.tree.now).first _ sound (c.item_height-height.ensures.high held (in_from outer) earlier sound),
)

pub source_height-loop-step-preserved : goal.source_height-loop-step-preserved
source_height-loop-step-preserved t c = (
  grown join_least (out-FromTree c.args.tree.now).joins c.loop-step.step-index c.step-item.result (rw c.as_slice-step-items.ensures at c.loop-step-test.true)
      (rw c.as_slice-step-items.ensures at c.step-item.is) above_both (item_least (out-FromTree c.args.tree.now).first) c.loop-step.height (join_least c.step-item.result) c.join_height-height.result
      c.join_height-height.ensures.is refl c.loop-step.invariant.0,
  λ held outer earlier sound.
      let tree = c.args.tree.now in
      let joins = (out-FromTree tree).joins in
      let left = first_item earlier ((from_item_of held (out-FromTree tree).first).means (in_from outer) earlier) in
      joins-high held outer left joins c.loop-step.step-index c.step-item.result _
      (rw c.as_slice-step-items.ensures at c.loop-step-test.true) (rw c.as_slice-step-items.ensures at c.step-item.is)
      (c.join_height-height.ensures.high held outer (join_all outer left (map (join_of held) (take c.loop-step.step-index joins))) sound
      (c.loop-step.invariant.1 held outer earlier sound)),
)

pub source_height-returns-clause-is : goal.source_height-returns-clause-is
source_height-returns-clause-is t c = c.loop-step.invariant.0
    ∙ ap (λ (steps : List JoinStep). chain_least (item_least (out-FromTree c.args.tree.now).first) (map join_least steps))
    (take_all c.loop-step.step-index (out-FromTree c.args.tree.now).joins (rw c.as_slice-step-items.ensures at c.loop-step-test.false))
    ∙ sym (from-least c.args.tree.now)

pub source_height-returns-clause-high : goal.source_height-returns-clause-high
source_height-returns-clause-high t c = λ held outer earlier sound.
    let tree = c.args.tree.now in
    let joins = (out-FromTree tree).joins in
    let left = first_item earlier ((from_item_of held (out-FromTree tree).first).means (in_from outer) earlier) in
    let all = rw c.as_slice-step-items.ensures at c.loop-step-test.false in
    subst (FromHigh c.loop-step.height)
    (ap (λ (steps : List JoinStep). join_all outer left (map (join_of held) steps)) (take_all c.loop-step.step-index joins all)
    ∙ sym (from-means held tree outer earlier)) (c.loop-step.invariant.1 held outer earlier sound)

pub join_height-returns-then-is_lateral-clause-is : goal.join_height-returns-then-is_lateral-clause-is
join_height-returns-then-is_lateral-clause-is t c = c.above.ensures.is
    ∙ ap above (c.max.ensures ∙ ap (max c.args.before) (c.item_height-right.ensures.is ∙ sym (lateral-least c.args.step.now (sym c.is_lateral.ensures ∙ c.if-is_lateral.true))))

pub join_height-returns-then-is_lateral-clause-high : goal.join_height-returns-then-is_lateral-clause-high
join_height-returns-then-is_lateral-clause-high t c = λ held outer left sound before.
    lateral-tree held sound outer left c.args.step.now c.above.result c.args.before c.item_height-right.result
    (sym c.is_lateral.ensures ∙ c.if-is_lateral.true) (omega (arith, c.above.ensures.high, c.max.ensures)) before
    (λ around earlier. c.item_height-right.ensures.high held around earlier sound)

pub join_height-returns-clause-is : goal.join_height-returns-clause-is
join_height-returns-clause-is t c =
    let parts = both max c.item_height-right.ensures.is c.condition_height-on.ensures.is ∙ sym (plain-least c.args.step.now (sym c.is_lateral.ensures ∙ c.if-is_lateral.false)) in
    c.above-2.ensures.is
    ∙ ap above (regrouped c.args.before c.item_height-right.result c.condition_height-on.result c.max-2.result c.max-3.result c.max-2.ensures c.max-3.ensures ∙ ap (max c.args.before) parts)

pub join_height-returns-clause-high : goal.join_height-returns-clause-high
join_height-returns-clause-high t c = λ held outer left sound before.
    plain-tree held sound outer left c.args.step.now c.above-2.result c.args.before c.item_height-right.result c.condition_height-on.result
    (sym c.is_lateral.ensures ∙ c.if-is_lateral.false) (omega (arith, c.above-2.ensures.high, c.max-2.ensures, c.max-3.ensures)) before
    (λ around earlier. c.item_height-right.ensures.high held around earlier sound) (c.condition_height-on.ensures.high held sound)

pub item_height-returns-in-Named-clause-is : goal.item_height-returns-in-Named-clause-is
item_height-returns-in-Named-clause-is t c = sym (named-least c.args.item.now c.in-Named.field-0 c.in-Named.is)

pub item_height-returns-in-Named-clause-high : goal.item_height-returns-in-Named-clause-high
item_height-returns-in-Named-clause-high t c = λ held around earlier sound. any-item ((from_item_of held c.args.item.now).means around earlier)

pub item_height-returns-in-Inner-clause-is : goal.item_height-returns-in-Inner-clause-is
item_height-returns-in-Inner-clause-is t c = c.query_height.ensures.is ∙ ap least_height c.get.ensures ∙ sym (inner-least c.args.item.now c.in-Inner.query c.in-Inner.is)

pub item_height-returns-in-Inner-clause-high : goal.item_height-returns-in-Inner-clause-high
item_height-returns-in-Inner-clause-high t c = λ held around earlier sound.
    inner-item held around earlier c.args.item.now c.in-Inner.query _ c.in-Inner.is (rw c.get.ensures at (c.query_height.ensures.high held around sound))

-- ---- conditions and lists

pub condition_height-returns-in-None-clause-is : goal.condition_height-returns-in-None-clause-is
condition_height-returns-in-None-clause-is t c = ap (λ (condition : Option ExprTree). if_there (option_map expr_least condition)) (sym c.in-None.is)

pub condition_height-returns-in-None-clause-high : goal.condition_height-returns-in-None-clause-high
condition_height-returns-in-None-clause-high t c = λ held sound.
    subst (λ (condition : Option ExprTree). OptionalHigh 0 (option_map (part_of held) condition)) (sym c.in-None.is) no-condition

pub condition_height-returns-in-Some-clause-is : goal.condition_height-returns-in-Some-clause-is
condition_height-returns-in-Some-clause-is t c = c.expression_height.ensures.is ∙ ap (λ (condition : Option ExprTree). if_there (option_map expr_least condition)) (sym c.in-Some.is)

pub condition_height-returns-in-Some-clause-high : goal.condition_height-returns-in-Some-clause-high
condition_height-returns-in-Some-clause-high t c = λ held sound.
    subst (λ (condition : Option ExprTree). OptionalHigh c.expression_height.result (option_map (part_of held) condition)) (sym c.in-Some.is)
    (condition-high held c.in-Some.tree _ (λ here. c.expression_height.ensures.high held here sound))

pub items_height-loop-item-init : goal.items_height-loop-item-init
items_height-loop-item-init t c = (
  refl,
  λ held has_from scope here sound. no-items,
)

pub items_height-loop-item-preserved : goal.items_height-loop-item-preserved
items_height-loop-item-preserved t c = (
  grown listed_least c.args.items.now c.loop-item.item-index c.item-item.result c.loop-item-test.true c.item-item.is max 0 c.loop-item.height c.listed_height.result
      c.max-height.result c.max-height.ensures c.listed_height.ensures.is c.loop-item.invariant.0,
  λ held has_from scope here sound.
      rw c.max-height.ensures (listed-high (λ (item : SelectPart). item.means has_from scope here) (item_of held) c.args.items.now c.loop-item.item-index
      c.item-item.result c.loop-item.height c.listed_height.result c.loop-item-test.true c.item-item.is (c.loop-item.invariant.1 held has_from scope here sound)
      (c.listed_height.ensures.high held has_from scope here sound)),
)

pub items_height-returns-clause-is : goal.items_height-returns-clause-is
items_height-returns-clause-is t c = c.loop-item.invariant.0
    ∙ ap (λ (items : List SelectItem). highest (map listed_least items)) (take_all c.loop-item.item-index c.args.items.now c.loop-item-test.false)

pub items_height-returns-clause-high : goal.items_height-returns-clause-high
items_height-returns-clause-high t c = λ held has_from scope here sound.
    subst (λ (items : List SelectItem). ListHigh c.loop-item.height (items_meant has_from scope here (map (item_of held) items)))
    (take_all c.loop-item.item-index c.args.items.now c.loop-item-test.false) (c.loop-item.invariant.1 held has_from scope here sound)

pub listed_height-returns-in-Star-clause-is : goal.listed_height-returns-in-Star-clause-is
listed_height-returns-in-Star-clause-is t c = sym (star-least c.args.item.now _ c.in-Star.is)

pub listed_height-returns-in-Star-clause-high : goal.listed_height-returns-in-Star-clause-high
listed_height-returns-in-Star-clause-high t c = λ held has_from scope here sound. any-listed ((item_of held c.args.item.now).means has_from scope here)

pub listed_height-returns-in-TableStar-clause-is : goal.listed_height-returns-in-TableStar-clause-is
listed_height-returns-in-TableStar-clause-is t c = sym (table-star-least c.args.item.now _ c.in-TableStar.is)

pub listed_height-returns-in-TableStar-clause-high : goal.listed_height-returns-in-TableStar-clause-high
listed_height-returns-in-TableStar-clause-high t c = λ held has_from scope here sound. any-listed ((item_of held c.args.item.now).means has_from scope here)

pub listed_height-returns-in-Value-clause-is : goal.listed_height-returns-in-Value-clause-is
listed_height-returns-in-Value-clause-is t c = c.expression_height.ensures.is ∙ sym (value-least c.args.item.now _ _ c.in-Value.is)

pub listed_height-returns-in-Value-clause-high : goal.listed_height-returns-in-Value-clause-high
listed_height-returns-in-Value-clause-high t c = λ held has_from scope here sound.
    value-high held has_from scope here c.args.item.now _ _ _ c.in-Value.is (c.expression_height.ensures.high held here sound)

-- ---- expressions

pub expression_height-returns-in-Null-clause-is : goal.expression_height-returns-in-Null-clause-is
expression_height-returns-in-Null-clause-is t c = sym (null-least c.args.tree.now c.in-Null.is)

pub expression_height-returns-in-Null-clause-high : goal.expression_height-returns-in-Null-clause-high
expression_height-returns-in-Null-clause-high t c = λ held here sound. any-subs (means_at (part_of held c.args.tree.now) here)

pub expression_height-returns-in-NullOf-clause-is : goal.expression_height-returns-in-NullOf-clause-is
expression_height-returns-in-NullOf-clause-is t c = sym (nullof-least c.args.tree.now _ c.in-NullOf.is)

pub expression_height-returns-in-NullOf-clause-high : goal.expression_height-returns-in-NullOf-clause-high
expression_height-returns-in-NullOf-clause-high t c = λ held here sound. any-subs (means_at (part_of held c.args.tree.now) here)

pub expression_height-returns-in-Integer-clause-is : goal.expression_height-returns-in-Integer-clause-is
expression_height-returns-in-Integer-clause-is t c = sym (integer-least c.args.tree.now _ c.in-Integer.is)

pub expression_height-returns-in-Integer-clause-high : goal.expression_height-returns-in-Integer-clause-high
expression_height-returns-in-Integer-clause-high t c = λ held here sound. any-subs (means_at (part_of held c.args.tree.now) here)

pub expression_height-returns-in-Text-clause-is : goal.expression_height-returns-in-Text-clause-is
expression_height-returns-in-Text-clause-is t c = sym (text-least c.args.tree.now _ c.in-Text.is)

pub expression_height-returns-in-Text-clause-high : goal.expression_height-returns-in-Text-clause-high
expression_height-returns-in-Text-clause-high t c = λ held here sound. any-subs (means_at (part_of held c.args.tree.now) here)

pub expression_height-returns-in-Truth-clause-is : goal.expression_height-returns-in-Truth-clause-is
expression_height-returns-in-Truth-clause-is t c = sym (truth-least c.args.tree.now _ c.in-Truth.is)

pub expression_height-returns-in-Truth-clause-high : goal.expression_height-returns-in-Truth-clause-high
expression_height-returns-in-Truth-clause-high t c = λ held here sound. any-subs (means_at (part_of held c.args.tree.now) here)

pub expression_height-returns-in-Column-clause-is : goal.expression_height-returns-in-Column-clause-is
expression_height-returns-in-Column-clause-is t c = sym (column-least c.args.tree.now _ c.in-Column.is)

pub expression_height-returns-in-Column-clause-high : goal.expression_height-returns-in-Column-clause-high
expression_height-returns-in-Column-clause-high t c = λ held here sound. any-subs (means_at (part_of held c.args.tree.now) here)

pub expression_height-returns-in-Aggregate-clause-is : goal.expression_height-returns-in-Aggregate-clause-is
expression_height-returns-in-Aggregate-clause-is t c = sym (aggregate-least c.args.tree.now _ _ c.in-Aggregate.is)

pub expression_height-returns-in-Aggregate-clause-high : goal.expression_height-returns-in-Aggregate-clause-high
expression_height-returns-in-Aggregate-clause-high t c = λ held here sound. any-subs (means_at (part_of held c.args.tree.now) here)

pub expression_height-returns-in-Paren-clause-is : goal.expression_height-returns-in-Paren-clause-is
expression_height-returns-in-Paren-clause-is t c = c.expression_height.ensures.is ∙ ap expr_least c.get.ensures ∙ sym (paren-least c.args.tree.now _ c.in-Paren.is)

pub expression_height-returns-in-Paren-clause-high : goal.expression_height-returns-in-Paren-clause-high
expression_height-returns-in-Paren-clause-high t c = λ held here sound.
    paren-high held here c.args.tree.now _ _ c.in-Paren.is (rw c.get.ensures at (c.expression_height.ensures.high held here sound))

pub expression_height-returns-in-Nots-clause-is : goal.expression_height-returns-in-Nots-clause-is
expression_height-returns-in-Nots-clause-is t c = c.expression_height-in-Nots.ensures.is ∙ ap expr_least c.get-in-Nots.ensures ∙ sym (nots-least c.args.tree.now _ _ c.in-Nots.is)

pub expression_height-returns-in-Nots-clause-high : goal.expression_height-returns-in-Nots-clause-high
expression_height-returns-in-Nots-clause-high t c = λ held here sound.
    nots-high held here c.args.tree.now _ _ _ c.in-Nots.is (rw c.get-in-Nots.ensures at (c.expression_height-in-Nots.ensures.high held here sound))

pub expression_height-returns-in-Signs-clause-is : goal.expression_height-returns-in-Signs-clause-is
expression_height-returns-in-Signs-clause-is t c = c.expression_height-in-Signs.ensures.is ∙ ap expr_least c.get-in-Signs.ensures ∙ sym (signs-least c.args.tree.now _ _ c.in-Signs.is)

pub expression_height-returns-in-Signs-clause-high : goal.expression_height-returns-in-Signs-clause-high
expression_height-returns-in-Signs-clause-high t c = λ held here sound.
    signs-high held here c.args.tree.now _ _ _ c.in-Signs.is (rw c.get-in-Signs.ensures at (c.expression_height-in-Signs.ensures.high held here sound))

pub expression_height-returns-in-Logic-clause-is : goal.expression_height-returns-in-Logic-clause-is
expression_height-returns-in-Logic-clause-is t c = c.expressions_height.ensures.is ∙ ap (λ (trees : List ExprTree). highest (map expr_least trees)) c.as_slice.ensures ∙ sym (logic-least c.args.tree.now _ _ c.in-Logic.is)

pub expression_height-returns-in-Logic-clause-high : goal.expression_height-returns-in-Logic-clause-high
expression_height-returns-in-Logic-clause-high t c = λ held here sound.
    logic-high held here c.args.tree.now _ _ _ c.in-Logic.is (λ need. rw c.as_slice.ensures at (c.expressions_height.ensures.high held here need sound))

pub expression_height-returns-in-Chain-clause-is : goal.expression_height-returns-in-Chain-clause-is
expression_height-returns-in-Chain-clause-is t c = c.max.ensures
    ∙ both max (c.expression_height-front.ensures.is ∙ ap expr_least c.get-in-Chain.ensures) (c.steps_height.ensures.is ∙ ap (λ (steps : List ExprStep). highest (map step_least steps)) c.as_slice-in-Chain.ensures)
    ∙ sym (chain-least c.args.tree.now _ _ c.in-Chain.is)

pub expression_height-returns-in-Chain-clause-high : goal.expression_height-returns-in-Chain-clause-high
expression_height-returns-in-Chain-clause-high t c = λ held here sound.
    rw c.max.ensures (chained-high held here c.args.tree.now c.expression_height-front.result c.steps_height.result _ _ c.in-Chain.is
    (rw c.get-in-Chain.ensures at (c.expression_height-front.ensures.high held here sound))
    (rw c.as_slice-in-Chain.ensures at (c.steps_height.ensures.high held here sound)))

pub expression_height-returns-in-Compared-clause-is : goal.expression_height-returns-in-Compared-clause-is
expression_height-returns-in-Compared-clause-is t c = c.max-in-Compared.ensures
    ∙ both max (c.expression_height-front-in-Compared.ensures.is ∙ ap expr_least c.get-in-Compared.ensures) (c.expression_height-in-Compared.ensures.is ∙ ap expr_least c.get-in-Compared-2.ensures)
    ∙ sym (compared-least c.args.tree.now _ _ _ c.in-Compared.is)

pub expression_height-returns-in-Compared-clause-high : goal.expression_height-returns-in-Compared-clause-high
expression_height-returns-in-Compared-clause-high t c = λ held here sound.
    rw c.max-in-Compared.ensures (compared-high held here c.args.tree.now (max c.expression_height-front-in-Compared.result c.expression_height-in-Compared.result) _ _ _ c.in-Compared.is
    (λ need more. operand-pair c.expression_height-front-in-Compared.result c.expression_height-in-Compared.result here need more (part_of held c.in-Compared.first) (part_of held c.in-Compared.second)
    (rw c.get-in-Compared.ensures at (c.expression_height-front-in-Compared.ensures.high held here sound))
    (rw c.get-in-Compared-2.ensures at (c.expression_height-in-Compared.ensures.high held here sound))))

pub expression_height-returns-in-Like-clause-is : goal.expression_height-returns-in-Like-clause-is
expression_height-returns-in-Like-clause-is t c = c.max-in-Like.ensures
    ∙ both max (c.expression_height-front-in-Like.ensures.is ∙ ap expr_least c.get-in-Like.ensures) (c.expression_height-in-Like.ensures.is ∙ ap expr_least c.get-in-Like-2.ensures)
    ∙ sym (like-least c.args.tree.now _ _ _ c.in-Like.is)

pub expression_height-returns-in-Like-clause-high : goal.expression_height-returns-in-Like-clause-high
expression_height-returns-in-Like-clause-high t c = λ held here sound.
    rw c.max-in-Like.ensures (like-high held here c.args.tree.now (max c.expression_height-front-in-Like.result c.expression_height-in-Like.result) _ _ _ c.in-Like.is
    (λ need more. operand-pair c.expression_height-front-in-Like.result c.expression_height-in-Like.result here need more (part_of held c.in-Like.text) (part_of held c.in-Like.pattern)
    (rw c.get-in-Like.ensures at (c.expression_height-front-in-Like.ensures.high held here sound))
    (rw c.get-in-Like-2.ensures at (c.expression_height-in-Like.ensures.high held here sound))))

pub expression_height-returns-in-Between-clause-is : goal.expression_height-returns-in-Between-clause-is
expression_height-returns-in-Between-clause-is t c = c.max-in-Between-2.ensures
    ∙ both max (c.expression_height-front-in-Between.ensures.is ∙ ap expr_least c.get-in-Between.ensures) (c.max-in-Between.ensures
    ∙ both max (c.expression_height-lowest.ensures.is ∙ ap expr_least c.get-in-Between-2.ensures) (c.expression_height-in-Between.ensures.is ∙ ap expr_least c.get-in-Between-3.ensures))
    ∙ sym (between-least c.args.tree.now _ _ _ _ c.in-Between.is)

pub expression_height-returns-in-Between-clause-high : goal.expression_height-returns-in-Between-clause-high
expression_height-returns-in-Between-clause-high t c = λ held here sound.
    rw (c.max-in-Between-2.ensures, c.max-in-Between.ensures) (between-high held here c.args.tree.now c.expression_height-front-in-Between.result
    (max c.expression_height-lowest.result c.expression_height-in-Between.result) _ _ _ _ c.in-Between.is
    (rw c.get-in-Between.ensures at (c.expression_height-front-in-Between.ensures.high held here sound))
    (λ need more. operand-pair c.expression_height-lowest.result c.expression_height-in-Between.result here need more (part_of held c.in-Between.low)
    (part_of held c.in-Between.high) (rw c.get-in-Between-2.ensures at (c.expression_height-lowest.ensures.high held here sound))
    (rw c.get-in-Between-3.ensures at (c.expression_height-in-Between.ensures.high held here sound))))

pub expression_height-returns-in-InList-clause-is : goal.expression_height-returns-in-InList-clause-is
expression_height-returns-in-InList-clause-is t c = c.max-in-InList.ensures
    ∙ both max (c.expression_height-front-in-InList.ensures.is ∙ ap expr_least c.get-in-InList.ensures) (c.expressions_height-in-InList.ensures.is ∙ ap (λ (trees : List ExprTree). highest (map expr_least trees)) c.as_slice-in-InList.ensures)
    ∙ sym (inlist-least c.args.tree.now _ _ _ c.in-InList.is)

pub expression_height-returns-in-InList-clause-high : goal.expression_height-returns-in-InList-clause-high
expression_height-returns-in-InList-clause-high t c = λ held here sound.
    rw c.max-in-InList.ensures (inlist-high held here c.args.tree.now c.expression_height-front-in-InList.result c.expressions_height-in-InList.result
    _ _ _ c.in-InList.is (rw c.get-in-InList.ensures at (c.expression_height-front-in-InList.ensures.high held here sound))
    (λ need. rw c.as_slice-in-InList.ensures at (c.expressions_height-in-InList.ensures.high held here need sound)))

pub expression_height-returns-in-InQuery-clause-is : goal.expression_height-returns-in-InQuery-clause-is
expression_height-returns-in-InQuery-clause-is t c = c.query_height.ensures.is ∙ ap least_height c.get-in-InQuery.ensures ∙ sym (inquery-least c.args.tree.now _ _ _ c.in-InQuery.is)

pub expression_height-returns-in-InQuery-clause-high : goal.expression_height-returns-in-InQuery-clause-high
expression_height-returns-in-InQuery-clause-high t c = λ held here sound.
    inquery-high held here c.args.tree.now _ _ _ _ c.in-InQuery.is (rw c.get-in-InQuery.ensures at (c.query_height.ensures.high held (around_of here) sound))

pub expression_height-returns-in-Quantified-clause-is : goal.expression_height-returns-in-Quantified-clause-is
expression_height-returns-in-Quantified-clause-is t c = c.query_height-in-Quantified.ensures.is ∙ ap least_height c.get-in-Quantified.ensures ∙ sym (quantified-least c.args.tree.now _ _ _ _ c.in-Quantified.is)

pub expression_height-returns-in-Quantified-clause-high : goal.expression_height-returns-in-Quantified-clause-high
expression_height-returns-in-Quantified-clause-high t c = λ held here sound.
    quantified-high held here c.args.tree.now _ _ _ _ _ c.in-Quantified.is (rw c.get-in-Quantified.ensures at (c.query_height-in-Quantified.ensures.high held (around_of here) sound))

pub expression_height-returns-in-IsNull-clause-is : goal.expression_height-returns-in-IsNull-clause-is
expression_height-returns-in-IsNull-clause-is t c = c.expression_height-in-IsNull.ensures.is ∙ ap expr_least c.get-in-IsNull.ensures ∙ sym (isnull-least c.args.tree.now _ _ c.in-IsNull.is)

pub expression_height-returns-in-IsNull-clause-high : goal.expression_height-returns-in-IsNull-clause-high
expression_height-returns-in-IsNull-clause-high t c = λ held here sound.
    isnull-high held here c.args.tree.now _ _ _ c.in-IsNull.is (rw c.get-in-IsNull.ensures at (c.expression_height-in-IsNull.ensures.high held here sound))

pub expression_height-returns-in-IsTruth-clause-is : goal.expression_height-returns-in-IsTruth-clause-is
expression_height-returns-in-IsTruth-clause-is t c = c.expression_height-in-IsTruth.ensures.is ∙ ap expr_least c.get-in-IsTruth.ensures ∙ sym (istruth-least c.args.tree.now _ _ _ c.in-IsTruth.is)

pub expression_height-returns-in-IsTruth-clause-high : goal.expression_height-returns-in-IsTruth-clause-high
expression_height-returns-in-IsTruth-clause-high t c = λ held here sound.
    istruth-high held here c.args.tree.now _ _ _ _ c.in-IsTruth.is (rw c.get-in-IsTruth.ensures at (c.expression_height-in-IsTruth.ensures.high held here sound))

pub expression_height-returns-in-IsDistinct-clause-is : goal.expression_height-returns-in-IsDistinct-clause-is
expression_height-returns-in-IsDistinct-clause-is t c = c.max-in-IsDistinct.ensures
    ∙ both max (c.expression_height-front-in-IsDistinct.ensures.is ∙ ap expr_least c.get-in-IsDistinct.ensures) (c.expression_height-in-IsDistinct.ensures.is ∙ ap expr_least c.get-in-IsDistinct-2.ensures)
    ∙ sym (isdistinct-least c.args.tree.now _ _ _ c.in-IsDistinct.is)

pub expression_height-returns-in-IsDistinct-clause-high : goal.expression_height-returns-in-IsDistinct-clause-high
expression_height-returns-in-IsDistinct-clause-high t c = λ held here sound.
    rw c.max-in-IsDistinct.ensures (isdistinct-high held here c.args.tree.now (max c.expression_height-front-in-IsDistinct.result c.expression_height-in-IsDistinct.result) _ _ _ c.in-IsDistinct.is
    (λ need more. operand-pair c.expression_height-front-in-IsDistinct.result c.expression_height-in-IsDistinct.result here need more (part_of held c.in-IsDistinct.first) (part_of held c.in-IsDistinct.second)
    (rw c.get-in-IsDistinct.ensures at (c.expression_height-front-in-IsDistinct.ensures.high held here sound))
    (rw c.get-in-IsDistinct-2.ensures at (c.expression_height-in-IsDistinct.ensures.high held here sound))))

pub expression_height-returns-in-Case-clause-is : goal.expression_height-returns-in-Case-clause-is
expression_height-returns-in-Case-clause-is t c = c.max-in-Case.ensures
    ∙ both max (c.arms_height-front.ensures.is ∙ ap (λ (arms : List ArmTree). highest (map arm_least arms)) c.as_slice-in-Case.ensures) c.otherwise_height.ensures.is
    ∙ sym (case-least c.args.tree.now _ c.in-Case.otherwise c.in-Case.is)

pub expression_height-returns-in-Case-clause-high : goal.expression_height-returns-in-Case-clause-high
expression_height-returns-in-Case-clause-high t c = λ held here sound.
    rw c.max-in-Case.ensures (case-high held here c.args.tree.now c.arms_height-front.result c.otherwise_height.result _ c.in-Case.otherwise c.in-Case.is
    (rw c.as_slice-in-Case.ensures at (c.arms_height-front.ensures.high held here sound)) (c.otherwise_height.ensures.high held here sound))

pub expression_height-returns-in-Coalesce-clause-is : goal.expression_height-returns-in-Coalesce-clause-is
expression_height-returns-in-Coalesce-clause-is t c = c.expressions_height-in-Coalesce.ensures.is ∙ ap (λ (trees : List ExprTree). highest (map expr_least trees)) c.as_slice-in-Coalesce.ensures ∙ sym (coalesce-least c.args.tree.now _ c.in-Coalesce.is)

pub expression_height-returns-in-Coalesce-clause-high : goal.expression_height-returns-in-Coalesce-clause-high
expression_height-returns-in-Coalesce-clause-high t c = λ held here sound.
    coalesce-high held here c.args.tree.now _ _ c.in-Coalesce.is (λ need. rw c.as_slice-in-Coalesce.ensures at (c.expressions_height-in-Coalesce.ensures.high held here need sound))

pub expression_height-returns-in-NullIf-clause-is : goal.expression_height-returns-in-NullIf-clause-is
expression_height-returns-in-NullIf-clause-is t c = c.max-in-NullIf.ensures
    ∙ both max (c.expression_height-front-in-NullIf.ensures.is ∙ ap expr_least c.get-in-NullIf.ensures) (c.expression_height-in-NullIf.ensures.is ∙ ap expr_least c.get-in-NullIf-2.ensures)
    ∙ sym (nullif-least c.args.tree.now _ _ c.in-NullIf.is)

pub expression_height-returns-in-NullIf-clause-high : goal.expression_height-returns-in-NullIf-clause-high
expression_height-returns-in-NullIf-clause-high t c = λ held here sound.
    rw c.max-in-NullIf.ensures (nullif-high held here c.args.tree.now (max c.expression_height-front-in-NullIf.result c.expression_height-in-NullIf.result) _ _ c.in-NullIf.is
    (λ need more. operand-pair c.expression_height-front-in-NullIf.result c.expression_height-in-NullIf.result here need more (part_of held c.in-NullIf.first) (part_of held c.in-NullIf.second)
    (rw c.get-in-NullIf.ensures at (c.expression_height-front-in-NullIf.ensures.high held here sound))
    (rw c.get-in-NullIf-2.ensures at (c.expression_height-in-NullIf.ensures.high held here sound))))

pub expression_height-returns-in-Exists-clause-is : goal.expression_height-returns-in-Exists-clause-is
expression_height-returns-in-Exists-clause-is t c = c.query_height-in-Exists.ensures.is ∙ ap least_height c.get-in-Exists.ensures ∙ sym (exists-least c.args.tree.now _ c.in-Exists.is)

pub expression_height-returns-in-Exists-clause-high : goal.expression_height-returns-in-Exists-clause-high
expression_height-returns-in-Exists-clause-high t c = λ held here sound.
    exists_tree-high held here c.args.tree.now _ _ c.in-Exists.is (rw c.get-in-Exists.ensures at (c.query_height-in-Exists.ensures.high held (around_of here) sound))

pub expression_height-returns-in-Scalar-clause-is : goal.expression_height-returns-in-Scalar-clause-is
expression_height-returns-in-Scalar-clause-is t c = c.query_height-in-Scalar.ensures.is ∙ ap least_height c.get-in-Scalar.ensures ∙ sym (scalar-least c.args.tree.now _ c.in-Scalar.is)

pub expression_height-returns-in-Scalar-clause-high : goal.expression_height-returns-in-Scalar-clause-high
expression_height-returns-in-Scalar-clause-high t c = λ held here sound.
    scalar_tree-high held here c.args.tree.now _ _ c.in-Scalar.is (rw c.get-in-Scalar.ensures at (c.query_height-in-Scalar.ensures.high held (around_of here) sound))

-- ---- operands

pub expressions_height-loop-tree-init : goal.expressions_height-loop-tree-init
expressions_height-loop-tree-init t c = (
  refl,
  λ held here need sound. no-operands,
)

pub expressions_height-loop-tree-preserved : goal.expressions_height-loop-tree-preserved
expressions_height-loop-tree-preserved t c = (
  grown expr_least c.args.trees.now c.loop-tree.tree-index c.tree-item.result c.loop-tree-test.true c.tree-item.is max 0 c.loop-tree.height c.expression_height.result
      c.max-height.result c.max-height.ensures c.expression_height.ensures.is c.loop-tree.invariant.0,
  λ held here need sound.
      rw c.max-height.ensures (mapped-high (operand here need) (part_of held) c.args.trees.now c.loop-tree.tree-index c.tree-item.result c.loop-tree.height
      c.expression_height.result c.loop-tree-test.true c.tree-item.is (c.loop-tree.invariant.1 held here need sound)
      (operand-at c.expression_height.result here need (part_of held c.tree-item.result) (c.expression_height.ensures.high held here sound))),
)

pub expressions_height-returns-clause-is : goal.expressions_height-returns-clause-is
expressions_height-returns-clause-is t c = c.loop-tree.invariant.0
    ∙ ap (λ (trees : List ExprTree). highest (map expr_least trees)) (take_all c.loop-tree.tree-index c.args.trees.now c.loop-tree-test.false)

pub expressions_height-returns-clause-high : goal.expressions_height-returns-clause-high
expressions_height-returns-clause-high t c = λ held here need sound.
    subst (λ (trees : List ExprTree). OperandsHigh c.loop-tree.height (map (operand here need) (map (part_of held) trees)))
    (take_all c.loop-tree.tree-index c.args.trees.now c.loop-tree-test.false) (c.loop-tree.invariant.1 held here need sound)

pub steps_height-loop-step-init : goal.steps_height-loop-step-init
steps_height-loop-step-init t c = (
  refl,
  λ held here sound. no-operands,
)

pub steps_height-loop-step-preserved : goal.steps_height-loop-step-preserved
steps_height-loop-step-preserved t c = (
  grown step_least c.args.steps.now c.loop-step.step-index c.step-item.result c.loop-step-test.true c.step-item.is max 0 c.loop-step.height c.expression_height.result
      c.max-height.result c.max-height.ensures (c.expression_height.ensures.is ∙ sym (step-least c.step-item.result)) c.loop-step.invariant.0,
  λ held here sound.
      rw c.max-height.ensures (mapped-high (step_operand here) (step_of held) c.args.steps.now c.loop-step.step-index c.step-item.result c.loop-step.height
      c.expression_height.result c.loop-step-test.true c.step-item.is (c.loop-step.invariant.1 held here sound)
      (step-high held here c.step-item.result c.expression_height.result (c.expression_height.ensures.high held here sound))),
)

pub steps_height-returns-clause-is : goal.steps_height-returns-clause-is
steps_height-returns-clause-is t c = c.loop-step.invariant.0
    ∙ ap (λ (steps : List ExprStep). highest (map step_least steps)) (take_all c.loop-step.step-index c.args.steps.now c.loop-step-test.false)

pub steps_height-returns-clause-high : goal.steps_height-returns-clause-high
steps_height-returns-clause-high t c = λ held here sound.
    subst (λ (steps : List ExprStep). OperandsHigh c.loop-step.height (map (step_operand here) (map (step_of held) steps)))
    (take_all c.loop-step.step-index c.args.steps.now c.loop-step-test.false) (c.loop-step.invariant.1 held here sound)

pub arms_height-loop-arm-init : goal.arms_height-loop-arm-init
arms_height-loop-arm-init t c = (
  refl,
  λ held here sound. no-operands,
)

pub arms_height-loop-arm-preserved : goal.arms_height-loop-arm-preserved
arms_height-loop-arm-preserved t c = (
  grown arm_least c.args.arms.now c.loop-arm.arm-index c.arm-item.result c.loop-arm-test.true c.arm-item.is max 0 c.loop-arm.height c.max-both.result
      c.max-height.result c.max-height.ensures (c.max-both.ensures ∙ both max c.expression_height-front.ensures.is c.expression_height.ensures.is ∙ sym (arm-least c.arm-item.result)) c.loop-arm.invariant.0,
  λ held here sound.
      let arm = c.arm-item.result in
      rw (c.max-height.ensures, c.max-both.ensures) (flat-high (arm_operands here) (arm_of held) c.args.arms.now c.loop-arm.arm-index arm c.loop-arm.height
      (max c.expression_height-front.result c.expression_height.result) c.loop-arm-test.true c.arm-item.is (c.loop-arm.invariant.1 held here sound)
      (arm-high held here arm (max c.expression_height-front.result c.expression_height.result)
      (λ need more. operand-pair c.expression_height-front.result c.expression_height.result here need more (part_of held arm.condition)
      (part_of held arm.value) (c.expression_height-front.ensures.high held here sound) (c.expression_height.ensures.high held here sound)))),
)

pub arms_height-returns-clause-is : goal.arms_height-returns-clause-is
arms_height-returns-clause-is t c = c.loop-arm.invariant.0
    ∙ ap (λ (arms : List ArmTree). highest (map arm_least arms)) (take_all c.loop-arm.arm-index c.args.arms.now c.loop-arm-test.false)

pub arms_height-returns-clause-high : goal.arms_height-returns-clause-high
arms_height-returns-clause-high t c = λ held here sound.
    subst (λ (arms : List ArmTree). OperandsHigh c.loop-arm.height (flat_map (arm_operands here) (map (arm_of held) arms)))
    (take_all c.loop-arm.arm-index c.args.arms.now c.loop-arm-test.false) (c.loop-arm.invariant.1 held here sound)

pub otherwise_height-returns-in-None-clause-is : goal.otherwise_height-returns-in-None-clause-is
otherwise_height-returns-in-None-clause-is t c = ap (λ (tree : Option ExprTree). if_there (option_map expr_least tree)) (sym c.in-None.is)

pub otherwise_height-returns-in-None-clause-high : goal.otherwise_height-returns-in-None-clause-high
otherwise_height-returns-in-None-clause-high t c = λ held here sound.
    subst (λ (tree : Option ExprTree). OperandsHigh 0 (else_operand here (option_map (part_of held) tree) ∷ [])) (sym c.in-None.is) (no-else held here)

pub otherwise_height-returns-in-Some-clause-is : goal.otherwise_height-returns-in-Some-clause-is
otherwise_height-returns-in-Some-clause-is t c = c.expression_height.ensures.is ∙ ap expr_least c.get.ensures ∙ ap (λ (tree : Option ExprTree). if_there (option_map expr_least tree)) (sym c.in-Some.is)

pub otherwise_height-returns-in-Some-clause-high : goal.otherwise_height-returns-in-Some-clause-high
otherwise_height-returns-in-Some-clause-high t c = λ held here sound.
    subst (λ (tree : Option ExprTree). OperandsHigh c.expression_height.result (else_operand here (option_map (part_of held) tree) ∷ [])) (sym c.in-Some.is)
    (else-high held here c.in-Some.tree _ (rw c.get.ensures at (c.expression_height.ensures.high held here sound)))
