use Rattle.std.specs.Prelude.{ℕ, true, false, cond, not, List, [], ◌∷◌, ◌++◌, map, flat_map, None, Some, Result, Ok, Err}
use Rattle.null_logic.specs.declared.operator.Operator.TheVariants as x
use Rattle.perm_values.specs.declared.kind.Kind.TheVariants as kind
use Rattle.perm_values.specs.declared.value.Value.TheVariants as v
use Rattle.bag_algebra.specs.declared.expr.Expr.{Expr}
use Rattle.bag_algebra.specs.declared.expr.Expr.TheVariants.{Lit, Op, IsNull, IsTruth, Same}
use Rattle.sql_tree.specs.declared.query.QueryTree.{QueryTree}
use Rattle.null_logic.specs.declared.compare.Compare.TheVariants.{Equal, NotEqual}
use Rattle.std.proofs.Common.{ap, refl, sym, subst, ◌∙◌}
use Rattle.std.proofs.lemmas.List.{take_all}
use Rattle.name_meaning.specs.Expressions.{arm_operands, case_made, chain_gives, chain_made, else_operand, first_need, in_kind, first_of, negated_if, second_of, step_operand, times}
use Rattle.name_meaning.specs.Meanings.{means_at, query_means_at}
use Rattle.name_meaning.specs.Scopes.{look_up}
use Rattle.name_meaning.specs.Sublinks.{aggregate_meant, around_of as inner_around, in_argument, null_at}
use Rattle.name_seen_parts.specs.declared.operands.Operands.{Operands}
use Rattle.name_seen_parts.specs.declared.refusal.Refusal.{Refusal}
use Rattle.sql_tree.specs.declared.expression.ExprTree.{ExprTree}
use Rattle.name_seen_parts.specs.Seen.{no_operand, seen}
use Rattle.name_meaning.specs.Operands.{Operand, gives_of, need_of, node, operand}
use Rattle.name_meaning.specs.Trees.{part_of, step_of, arm_of, query_of}
use Rattle.name_meaning.specs.declared.need.Gives.{Gives}
use Rattle.name_meaning.specs.declared.need.Gives.TheVariants.{Common as common}
use Rattle.name_meaning.specs.declared.need.Need.TheVariants.{Alike as alike, OfKind as of_kind}
use Rattle.name_meaning.proofs.Forms.{means-null, means-nullof, means-integer, means-text, means-truth, means-column, means-paren, means-nots, means-signs, means-logic, means-chain, means-compared, means-like, means-between, means-inlist, means-isnull, means-istruth, means-isdistinct, means-coalesce, means-exists, means-inquery, means-nullif, means-quantified, means-scalar}
use Rattle.name_meaning.proofs.Joins.{joins-behind}
use Rattle.name_seen_parts.specs.Named.{scopes_of}
use Rattle.name_seen_parts.specs.Standing.{surroundings, around_beside}
use Rattle.name_seen_cores.specs.Expressed.{ExpressionSeen, OperandsBehind, kind_over}
use Rattle.name_seen_cores.specs.Inner.{exists_over, scalar_over, tested_over}
use Rattle.name_seen_cores.proofs.Alone.{null-alone, known-alone, column-alone, told-by, told-so}
use Rattle.name_seen_parts.proofs.Arms.{means-is, part-at}
use Rattle.name_seen_cores.proofs.Behind.{behind-both, behind-nothing, meant-so, operand-seen}
use Rattle.name_seen_cores.proofs.Forms.{mapped-more, flat-more, step-is, arm-is, without-else}
use Rattle.name_seen_cores.proofs.Sublinked.{exists-looked, inner-refused, looked_so, query-at, result-so, scalar-looked, tested-seen}
use Rattle.name_seen.proofs.WhereSeen.{meant_here, operand_here, operands_here}
use Rattle.std.specs.Prelude.{◌+◌, Bool, Option}
use Rattle.std.proofs.Common.{take, drop}
use Rattle.perm_values.proofs.Lists.{map-taken}
use Rattle.perm_values.proofs.Results.{ok-anyway}
use Rattle.sql_tree.specs.declared.query.Core.{out-Core}
use Rattle.sql_tree.specs.declared.source.FromTree.{FromTree, out-FromTree}
use Rattle.sql_tree.specs.declared.source.JoinStep.{JoinStep, out-JoinStep}
use Rattle.sql_tree.specs.declared.query.SetStep.{SetStep}
use Rattle.name_meaning.specs.Cores.{BodyPart}
use Rattle.name_meaning.specs.Froms.{FromMeant, FromPart, ItemMeant, Read, first_item, from_all, in_clause, in_from, join_all, join_item, joined_item, label_of, optional_meant, read_of, scope_name}
use Rattle.name_meaning.specs.Items.{SelectMeant}
use Rattle.name_meaning.specs.Meanings.{Around, Part, QueryMeant}
use Rattle.perm_catalog.specs.Contents.{Contents}
use Rattle.name_meaning.specs.Queries.{set_chain, may_not_ask}
use Rattle.name_meaning.specs.Trees.{core_of, from_item_of, from_of, item_of, join_of, set_of_tree, set_step_of, source_of}
use Rattle.name_seen_parts.specs.Standing.{around_of}
use Rattle.name_seen_parts.specs.Told.{Tells}
use Rattle.name_seen_parts.specs.declared.refusal.Refusal.TheVariants.{Break as Broken}
use Rattle.name_seen_cores.specs.from.Queried.{ColumnsSeen, FromSeen, FromWhole, QuerySeen}
use Rattle.name_seen_cores.specs.Behind.{ConditionSeen, core_behind, optional_part}
use Rattle.name_seen_cores.specs.Listed.{ItemSeen as ItemIsSeen, ListSeen, ListWhole, seen_at}
use Rattle.name_seen_cores.proofs.Lists.{list-more, nothing-listed}
use Rattle.name_seen_cores.proofs.Opened.{chain-means, paren-means, set-is, step-at, step-operand as operand-of}
use Rattle.name_seen_cores.proofs.Queried.{chain-behind, chain-refused}
use Rattle.name_meaning.specs.declared.scope.Scope.{Scope}
use Rattle.name_seen_cores.specs.from.Readings.{ItemAdded, ItemSeen, ReadSeen}
use Rattle.name_seen.proofs.Conditions.{some-condition}
use Rattle.name_seen.proofs.CoreSteps.{core-answered, from-answered, from-refused, groups-refused, has-from, having-refused, where-refused, word-refused}
use Rattle.name_seen.proofs.FromTrees.{from-means, inner-read, item-refused, item-means, joined-condition, joined-item, joined-word, lateral-means, named-read, read-refused}
use Rattle.name_seen.proofs.Joined.{first-refused, first-whole, join-behind, join-refused, lateral-seen, never-if_ok, never-ok, none-held, nothing-read, source-refused, step-refused}
use Rattle.name_meaning.proofs.Lateral.{join-lateral, join-plain, lateral_item, plain_item}
use Rattle.sql_tree.specs.Regular.{is_lateral}
use Rattle.name_seen.specs.Joining.{JoinSeen}
use Rattle.name_seen_cores.proofs.Sourced.{source-behind}
use Rattle.name_seen.proofs.Nodes.{aggregate-alone, aggregate-means, argument-told, case-means, node-behind, none-first, rest-so, steps-so}
use Rattle.name_seen.proofs.ListItems.{list-refused, star-seen, table_star-seen, value-refused, value-seen}
use Rattle.name_seen.proofs.QuerySteps.{body_meant, kinds-known, paren-refused, query-answered, query-refused}
use Rattle.name_seen.proofs.Rows.{mapped-at, same-refused, twice-at, twice-more}
use Rattle.name_seen.proofs.+seen.Goals as goal

pub expressions::expression_seen-returns-in-Null : goal.expressions::expression_seen-returns-in-Null
expressions::expression_seen-returns-in-Null t c =
    let here = c.args.here.now in
    meant-so (meant_here here c.args.tree.now) _ c.args.facts.now c.args.facts.now (Ok None)
    (means-null here.catalog.now (surroundings here) c.args.tree.now c.in-Null.is) (null-alone c.args.facts.now)

pub expressions::expression_seen-returns-in-NullOf : goal.expressions::expression_seen-returns-in-NullOf
expressions::expression_seen-returns-in-NullOf t c =
    let here = c.args.here.now in
    meant-so (meant_here here c.args.tree.now) _ c.args.facts.now c.args.facts.now (Ok (Some c.in-NullOf.kind))
    (means-nullof here.catalog.now (surroundings here) c.args.tree.now c.in-NullOf.kind c.in-NullOf.is) (known-alone c.in-NullOf.kind (null_at c.in-NullOf.kind) c.args.facts.now)

pub expressions::expression_seen-returns-in-Integer : goal.expressions::expression_seen-returns-in-Integer
expressions::expression_seen-returns-in-Integer t c =
    let here = c.args.here.now in
    meant-so (meant_here here c.args.tree.now) _ c.args.facts.now c.args.facts.now (Ok (Some kind.Integer))
    (means-integer here.catalog.now (surroundings here) c.args.tree.now c.in-Integer.field-0 c.in-Integer.is) (known-alone kind.Integer (Lit (v.Integer c.in-Integer.field-0) kind.Integer) c.args.facts.now)

pub expressions::expression_seen-returns-in-Text : goal.expressions::expression_seen-returns-in-Text
expressions::expression_seen-returns-in-Text t c =
    let here = c.args.here.now in
    meant-so (meant_here here c.args.tree.now) _ c.args.facts.now c.args.facts.now (Ok (Some kind.Text))
    (means-text here.catalog.now (surroundings here) c.args.tree.now c.in-Text.field-0 c.in-Text.is) (known-alone kind.Text (Lit (v.Text c.in-Text.field-0) kind.Text) c.args.facts.now)

pub expressions::expression_seen-returns-in-Truth : goal.expressions::expression_seen-returns-in-Truth
expressions::expression_seen-returns-in-Truth t c =
    let here = c.args.here.now in
    meant-so (meant_here here c.args.tree.now) _ c.args.facts.now c.args.facts.now (Ok (Some kind.Boolean))
    (means-truth here.catalog.now (surroundings here) c.args.tree.now c.in-Truth.field-0 c.in-Truth.is) (known-alone kind.Boolean (Lit (v.Boolean c.in-Truth.field-0) kind.Boolean) c.args.facts.now)

pub expressions::expression_seen-returns-in-Column : goal.expressions::expression_seen-returns-in-Column
expressions::expression_seen-returns-in-Column t c =
    let here = c.args.here.now in
    meant-so (meant_here here c.args.tree.now) _ c.args.facts.now c.args.facts.now c.column.result
    (means-column here.catalog.now (surroundings here) c.args.tree.now c.in-Column.reference c.in-Column.is) (column-alone (surroundings here) c.in-Column.reference.at (look_up 0 (scopes_of here.scopes.now) c.in-Column.reference) c.args.facts.now c.column.result (told-by _ _ c.column.result refl c.column.ensures))

pub expressions::expression_seen-returns-in-Paren : goal.expressions::expression_seen-returns-in-Paren
expressions::expression_seen-returns-in-Paren t c =
    let here = c.args.here.now in
    meant-so (meant_here here c.args.tree.now) _ c.args.facts.now c.expression_seen.new.facts c.expression_seen.result
    ((means-paren here.catalog.now (surroundings here) c.args.tree.now c.in-Paren.part c.in-Paren.is) ∙ means-is (part_of here.catalog.now c.in-Paren.part) (surroundings here)) (rw c.get.ensures at c.expression_seen.ensures)

pub expressions::expression_seen-returns-in-Nots : goal.expressions::expression_seen-returns-in-Nots
expressions::expression_seen-returns-in-Nots t c =
    let here = c.args.here.now in
    meant-so (meant_here here c.args.tree.now) _ c.args.facts.now c.over_last.new.facts c.over_last.result
    (means-nots here.catalog.now (surroundings here) c.args.tree.now c.in-Nots.count c.in-Nots.part c.in-Nots.is)
    (rw (c.need_of-need.ensures, c.gives_of-gives.ensures, c.get-in-Nots.ensures) at (c.over_last.ensures c.args.facts.now [] (λ (es : List Expr). times x.Not c.in-Nots.count (first_of es))
    (none-first _ c.args.facts.now c.none.ensures)))

pub expressions::expression_seen-returns-in-Signs : goal.expressions::expression_seen-returns-in-Signs
expressions::expression_seen-returns-in-Signs t c =
    let here = c.args.here.now in
    meant-so (meant_here here c.args.tree.now) _ c.args.facts.now c.over_last-in-Signs.new.facts c.over_last-in-Signs.result
    (means-signs here.catalog.now (surroundings here) c.args.tree.now c.in-Signs.count c.in-Signs.part c.in-Signs.is)
    (rw (c.need_of-need-in-Signs.ensures, c.gives_of-gives-in-Signs.ensures, c.get-in-Signs.ensures) at (c.over_last-in-Signs.ensures c.args.facts.now [] (λ (es : List Expr). times x.Negate c.in-Signs.count (first_of es))
    (none-first _ c.args.facts.now c.none.ensures)))

pub expressions::expression_seen-returns-in-Logic : goal.expressions::expression_seen-returns-in-Logic
expressions::expression_seen-returns-in-Logic t c =
    let here = c.args.here.now in
    meant-so (meant_here here c.args.tree.now) _ c.args.facts.now c.over_rest.new.facts c.over_rest.result
    (means-logic here.catalog.now (surroundings here) c.args.tree.now c.in-Logic.op c.in-Logic.parts c.in-Logic.is)
    (rw (c.need_of-need-in-Logic.ensures, c.gives_of-gives-in-Logic.ensures, c.as_slice.ensures) at (c.over_rest.ensures c.args.facts.now [] (Op c.in-Logic.op)
    (none-first _ c.args.facts.now c.none.ensures)))

pub expressions::expression_seen-returns-in-Chain : goal.expressions::expression_seen-returns-in-Chain
expressions::expression_seen-returns-in-Chain t c =
    let here = c.args.here.now in
    let steps = map (step_of here.catalog.now) c.in-Chain.steps in
    steps-so here.catalog.now (surroundings here) _ c.in-Chain.steps (operand_here here (first_need steps) c.in-Chain.first) (chain_made steps)
    (meant_here here c.args.tree.now) c.args.facts.now c.over_steps.new.facts c.over_steps.result c.as_slice-in-Chain-2.ensures
    (means-chain here.catalog.now (surroundings here) c.args.tree.now c.in-Chain.first c.in-Chain.steps c.in-Chain.is)
    (c.over_steps.ensures c.args.facts.now (operand_here here (first_need steps) c.in-Chain.first ∷ []) (chain_made steps)
    (rw (c.first_need-need.ensures here.catalog.now, c.as_slice-in-Chain.ensures, c.get-in-Chain.ensures, c.none.ensures) at c.operand-seen.ensures))

pub expressions::expression_seen-returns-in-Compared : goal.expressions::expression_seen-returns-in-Compared
expressions::expression_seen-returns-in-Compared t c =
    let here = c.args.here.now in
    meant-so (meant_here here c.args.tree.now) _ c.args.facts.now c.over_last-in-Compared.new.facts c.over_last-in-Compared.result
    (means-compared here.catalog.now (surroundings here) c.args.tree.now c.in-Compared.op c.in-Compared.first c.in-Compared.second c.in-Compared.is)
    (rw (c.need_of-need-in-Compared.ensures, c.gives_of-gives-in-Compared.ensures, c.get-in-Compared-2.ensures) at (c.over_last-in-Compared.ensures c.args.facts.now (operand_here here (need_of (x.Compare c.in-Compared.op) false) c.in-Compared.first ∷ []) (Op (x.Compare c.in-Compared.op))
    (rw (c.need_of-need-in-Compared.ensures, c.get-in-Compared.ensures, c.none.ensures) at c.operand-seen-in-Compared.ensures)))

pub expressions::expression_seen-returns-in-Like : goal.expressions::expression_seen-returns-in-Like
expressions::expression_seen-returns-in-Like t c =
    let here = c.args.here.now in
    meant-so (meant_here here c.args.tree.now) _ c.args.facts.now c.over_last-in-Like.new.facts c.over_last-in-Like.result
    (means-like here.catalog.now (surroundings here) c.args.tree.now c.in-Like.negated c.in-Like.text c.in-Like.pattern c.in-Like.is)
    (rw (c.need_of-need-in-Like.ensures, c.gives_of-gives-in-Like.ensures, c.get-in-Like-2.ensures) at (c.over_last-in-Like.ensures c.args.facts.now (operand_here here (need_of x.Like false) c.in-Like.text ∷ []) (λ (es : List Expr). negated_if c.in-Like.negated (Op x.Like es))
    (rw (c.need_of-need-in-Like.ensures, c.get-in-Like.ensures, c.none.ensures) at c.operand-seen-in-Like.ensures)))

pub expressions::expression_seen-returns-in-Between : goal.expressions::expression_seen-returns-in-Between
expressions::expression_seen-returns-in-Between t c =
    let here = c.args.here.now in
    meant-so (meant_here here c.args.tree.now) _ c.args.facts.now c.over_last-in-Between.new.facts c.over_last-in-Between.result
    (means-between here.catalog.now (surroundings here) c.args.tree.now c.in-Between.negated c.in-Between.part c.in-Between.low c.in-Between.high c.in-Between.is)
    (rw (c.need_of-need-in-Between.ensures, c.gives_of-gives-in-Between.ensures, c.get-in-Between-3.ensures) at (c.over_last-in-Between.ensures c.args.facts.now (operand_here here (need_of x.Between false) c.in-Between.part ∷ operand_here here (need_of x.Between false) c.in-Between.low ∷ []) (λ (es : List Expr). negated_if c.in-Between.negated (Op x.Between es))
    (behind-both (operand_here here (need_of x.Between false) c.in-Between.part ∷ []) (operand_here here (need_of x.Between false) c.in-Between.low ∷ []) (Ok no_operand)
    c.operand-seen-in-Between.result c.operand-seen-in-Between-2.result c.args.facts.now c.operand-seen-in-Between.new.facts c.operand-seen-in-Between-2.new.facts
    (rw (c.need_of-need-in-Between.ensures, c.get-in-Between.ensures, c.none.ensures) at c.operand-seen-in-Between.ensures)
    (rw (c.need_of-need-in-Between.ensures, c.get-in-Between-2.ensures) at c.operand-seen-in-Between-2.ensures))))

pub expressions::expression_seen-returns-in-InList : goal.expressions::expression_seen-returns-in-InList
expressions::expression_seen-returns-in-InList t c =
    let here = c.args.here.now in
    rest-so _ (gives_of x.InList false) _ (need_of x.InList false) _ c.in-InList.list here (operand_here here (need_of x.InList false) c.in-InList.part)
    (λ (es : List Expr). negated_if c.in-InList.negated (Op x.InList es)) (meant_here here c.args.tree.now) c.args.facts.now c.over_rest-in-InList.new.facts c.over_rest-in-InList.result
    c.gives_of-gives-in-InList.ensures c.need_of-need-in-InList.ensures c.as_slice-in-InList.ensures
    (means-inlist here.catalog.now (surroundings here) c.args.tree.now c.in-InList.negated c.in-InList.part c.in-InList.list c.in-InList.is)
    (c.over_rest-in-InList.ensures c.args.facts.now (operand_here here (need_of x.InList false) c.in-InList.part ∷ []) (λ (es : List Expr). negated_if c.in-InList.negated (Op x.InList es))
    (rw (c.need_of-need-in-InList.ensures, c.get-in-InList.ensures, c.none.ensures) at c.operand-seen-in-InList.ensures))

pub expressions::expression_seen-returns-in-IsNull : goal.expressions::expression_seen-returns-in-IsNull
expressions::expression_seen-returns-in-IsNull t c =
    let here = c.args.here.now in
    meant-so (meant_here here c.args.tree.now) _ c.args.facts.now c.over_last-in-IsNull.new.facts c.over_last-in-IsNull.result
    (means-isnull here.catalog.now (surroundings here) c.args.tree.now c.in-IsNull.negated c.in-IsNull.part c.in-IsNull.is)
    (rw c.get-in-IsNull.ensures at (c.over_last-in-IsNull.ensures c.args.facts.now [] (λ (es : List Expr). negated_if c.in-IsNull.negated (IsNull (first_of es)))
    (none-first _ c.args.facts.now c.none.ensures)))

pub expressions::expression_seen-returns-in-IsTruth : goal.expressions::expression_seen-returns-in-IsTruth
expressions::expression_seen-returns-in-IsTruth t c =
    let here = c.args.here.now in
    meant-so (meant_here here c.args.tree.now) _ c.args.facts.now c.over_last-in-IsTruth.new.facts c.over_last-in-IsTruth.result
    (means-istruth here.catalog.now (surroundings here) c.args.tree.now c.in-IsTruth.negated c.in-IsTruth.truth c.in-IsTruth.part c.in-IsTruth.is)
    (rw c.get-in-IsTruth.ensures at (c.over_last-in-IsTruth.ensures c.args.facts.now [] (λ (es : List Expr). negated_if c.in-IsTruth.negated (IsTruth c.in-IsTruth.truth (first_of es)))
    (none-first _ c.args.facts.now c.none.ensures)))

pub expressions::expression_seen-returns-in-IsDistinct : goal.expressions::expression_seen-returns-in-IsDistinct
expressions::expression_seen-returns-in-IsDistinct t c =
    let here = c.args.here.now in
    meant-so (meant_here here c.args.tree.now) _ c.args.facts.now c.over_last-in-IsDistinct.new.facts c.over_last-in-IsDistinct.result
    (means-isdistinct here.catalog.now (surroundings here) c.args.tree.now c.in-IsDistinct.negated c.in-IsDistinct.first c.in-IsDistinct.second c.in-IsDistinct.is)
    (rw c.get-in-IsDistinct-2.ensures at (c.over_last-in-IsDistinct.ensures c.args.facts.now (operand_here here alike c.in-IsDistinct.first ∷ []) (λ (es : List Expr). negated_if (not c.in-IsDistinct.negated) (Same (first_of es) (second_of es)))
    (rw (c.get-in-IsDistinct.ensures, c.none.ensures) at c.operand-seen-in-IsDistinct.ensures)))

pub expressions::expression_seen-returns-in-Coalesce : goal.expressions::expression_seen-returns-in-Coalesce
expressions::expression_seen-returns-in-Coalesce t c =
    let here = c.args.here.now in
    meant-so (meant_here here c.args.tree.now) _ c.args.facts.now c.over_rest-in-Coalesce.new.facts c.over_rest-in-Coalesce.result
    (means-coalesce here.catalog.now (surroundings here) c.args.tree.now c.in-Coalesce.list c.in-Coalesce.is)
    (rw c.as_slice-in-Coalesce.ensures at (c.over_rest-in-Coalesce.ensures c.args.facts.now [] (Op x.Coalesce)
    (none-first _ c.args.facts.now c.none.ensures)))

pub expressions::expression_seen-returns-in-NullIf : goal.expressions::expression_seen-returns-in-NullIf
expressions::expression_seen-returns-in-NullIf t c =
    let here = c.args.here.now in
    meant-so (meant_here here c.args.tree.now) _ c.args.facts.now c.over_last-in-NullIf.new.facts c.over_last-in-NullIf.result
    (means-nullif here.catalog.now (surroundings here) c.args.tree.now c.in-NullIf.first c.in-NullIf.second c.in-NullIf.is)
    (rw c.get-in-NullIf-2.ensures at (c.over_last-in-NullIf.ensures c.args.facts.now (operand_here here alike c.in-NullIf.first ∷ []) (Op x.NullIf)
    (rw (c.get-in-NullIf.ensures, c.none.ensures) at c.operand-seen-in-NullIf.ensures)))

pub expressions::expression_seen-returns-in-Case : goal.expressions::expression_seen-returns-in-Case
expressions::expression_seen-returns-in-Case t c =
    let here = c.args.here.now in
    let arms = map (arm_of here.catalog.now) c.in-Case.arms in
    meant-so (meant_here here c.args.tree.now) _ c.args.facts.now c.over_else.new.facts c.over_else.result
    (case-means here.catalog.now (surroundings here) c.args.tree.now c.in-Case.arms c.in-Case.otherwise c.in-Case.is)
    (c.over_else.ensures c.args.facts.now (flat_map (arm_operands (surroundings here)) arms) (case_made arms)
    (rw (c.as_slice-in-Case.ensures, c.none.ensures) at c.operands_of_arms-seen.ensures))

pub expressions::over_last-returns : goal.expressions::over_last-returns
expressions::over_last-returns t c = λ before first assembled answered.
    node-behind c.args.gives assembled first (operand_here c.args.here.now c.args.need c.args.tree.now ∷ []) before c.args.facts.now c.operand-seen.new.facts c.args.so_far c.operand-seen.result c.kind_over.result
    answered c.operand-seen.ensures c.kind_over.ensures

pub expressions::over_rest-returns : goal.expressions::over_rest-returns
expressions::over_rest-returns t c = λ before first assembled answered.
    node-behind c.args.gives assembled first (operands_here c.args.here.now c.args.need c.args.trees.now) before c.args.facts.now c.operands-seen.new.facts c.args.so_far c.operands-seen.result c.kind_over.result
    answered c.operands-seen.ensures c.kind_over.ensures

pub expressions::over_steps-returns : goal.expressions::over_steps-returns
expressions::over_steps-returns t c = λ before first assembled answered.
    let catalog = c.args.here.now.catalog.now in
    let steps = map (step_of catalog) c.args.steps.now in
    node-behind (chain_gives steps) assembled first (map (step_operand (surroundings c.args.here.now)) steps) before c.args.facts.now c.operands_of_steps-seen.new.facts c.args.so_far c.operands_of_steps-seen.result c.kind_over.result
    answered c.operands_of_steps-seen.ensures (c.kind_over.ensures ∙ ap (λ (g : Gives). kind_over g c.operands_of_steps-seen.result) (c.chain_gives.ensures catalog))

pub expressions::over_else-returns-in-None : goal.expressions::over_else-returns-in-None
expressions::over_else-returns-in-None t c = λ before first assembled answered.
    let here = c.args.here.now in
    subst (λ (o : Option ExprTree). ExpressionSeen (node common assembled (first ++ else_operand (surroundings here) (optional_part here.catalog.now o) ∷ [])) before c.args.facts.now c.kind_over.result) (sym c.in-None.is)
    (node-behind common assembled first (else_operand (surroundings here) None ∷ []) before c.args.facts.now c.args.facts.now c.args.so_far c.args.so_far c.kind_over.result
    answered (without-else (surroundings here) c.args.so_far c.args.facts.now) c.kind_over.ensures)

pub expressions::over_else-returns-in-Some : goal.expressions::over_else-returns-in-Some
expressions::over_else-returns-in-Some t c = λ before first assembled answered.
    let here = c.args.here.now in
    subst (λ (o : Option ExprTree). ExpressionSeen (node common assembled (first ++ else_operand (surroundings here) (optional_part here.catalog.now o) ∷ [])) before c.over_last.new.facts c.over_last.result) (sym c.in-Some.is)
    (rw c.get.ensures at (c.over_last.ensures before first assembled answered))

pub expressions::aggregate_seen-returns-in-None : goal.expressions::aggregate_seen-returns-in-None
expressions::aggregate_seen-returns-in-None t c =
    let here = surroundings c.args.here.now in
    subst (λ (o : Option ExprTree). Tells (seen (aggregate_meant here c.args.at c.args.function (optional_part c.args.here.now.catalog.now o))) c.answered.result) (sym c.in-None.is)
    (told-by _ c.count_kind.result c.answered.result (c.count_kind.ensures here refl) c.answered.ensures)

pub expressions::aggregate_seen-returns-in-Some : goal.expressions::aggregate_seen-returns-in-Some
expressions::aggregate_seen-returns-in-Some t c =
    let here = surroundings c.args.here.now in
    let catalog = c.args.here.now.catalog.now in
    let part = part_of catalog c.in-Some.argument in
    subst (λ (o : Option ExprTree). Tells (seen (aggregate_meant here c.args.at c.args.function (optional_part catalog o))) c.aggregated.result) (sym c.in-Some.is)
    (argument-told here c.args.at c.args.function part c.get-in-Some.result.now.at c.aggregated.result
    (ap (λ (tree : ExprTree). tree.at) c.get-in-Some.ensures ∙ sym (part-at catalog c.in-Some.argument))
    (c.aggregated.ensures (means_at part (in_argument here))
    (rw (
      c.seeing-place.ensures.place,
      c.seeing-place.ensures.catalog,
      c.ungrouped-scopes.ensures,
      c.in_argument.ensures (scopes_of c.args.here.now.scopes.now),
      c.get.ensures,
    ) at c.kind_of-kind.ensures)))

pub expressions::operand-returns-in-Ok : goal.expressions::operand-returns-in-Ok
expressions::operand-returns-in-Ok t c =
    let here = c.args.here.now in
    subst (λ (so_far : Result Operands Refusal). OperandsBehind (operand_here here c.args.need c.args.tree.now ∷ []) so_far c.args.facts.now c.expression_seen.new.facts c.operands_with.result) (sym c.in-Ok.is)
    (operand-seen here.catalog.now (surroundings here) c.args.need c.args.tree.now c.in-Ok.operands c.args.facts.now c.expression_seen.new.facts c.expression_seen.result c.operands_with.result
    c.expression_seen.ensures c.operands_with.ensures)

pub expressions::operands-loop-tree-init : goal.expressions::operands-loop-tree-init
expressions::operands-loop-tree-init t c = behind-nothing c.args.so_far c.args.facts.now

pub expressions::operands-loop-tree-preserved : goal.expressions::operands-loop-tree-preserved
expressions::operands-loop-tree-preserved t c =
    let here = c.args.here.now in
    mapped-more (operand (surroundings here) c.args.need) (part_of here.catalog.now) c.args.trees.now c.loop-tree.tree-index c.tree-item.result c.args.so_far c.loop-tree.seen c.operand-seen.result c.args.facts.now c.loop-tree.facts c.operand-seen.new.facts c.loop-tree-test.true c.tree-item.is c.loop-tree.invariant
    c.operand-seen.ensures

pub expressions::operands-returns : goal.expressions::operands-returns
expressions::operands-returns t c = rw (take_all c.loop-tree.tree-index c.args.trees.now c.loop-tree-test.false) at c.loop-tree.invariant

pub expressions::operands_of_steps-loop-step-init : goal.expressions::operands_of_steps-loop-step-init
expressions::operands_of_steps-loop-step-init t c = behind-nothing c.args.so_far c.args.facts.now

pub expressions::operands_of_steps-loop-step-preserved : goal.expressions::operands_of_steps-loop-step-preserved
expressions::operands_of_steps-loop-step-preserved t c =
    let here = c.args.here.now in
    mapped-more (step_operand (surroundings here)) (step_of here.catalog.now) c.args.steps.now c.loop-step.step-index c.step-item.result c.args.so_far c.loop-step.seen c.operand-seen.result c.args.facts.now c.loop-step.facts c.operand-seen.new.facts c.loop-step-test.true c.step-item.is c.loop-step.invariant
    (subst (λ (o : Operand). OperandsBehind (o ∷ []) c.loop-step.seen c.loop-step.facts c.operand-seen.new.facts c.operand-seen.result) (step-is here.catalog.now (surroundings here) c.step-item.result) (rw c.need_of-need.ensures at c.operand-seen.ensures))

pub expressions::operands_of_steps-returns : goal.expressions::operands_of_steps-returns
expressions::operands_of_steps-returns t c = rw (take_all c.loop-step.step-index c.args.steps.now c.loop-step-test.false) at c.loop-step.invariant

pub expressions::operands_of_arms-loop-arm-init : goal.expressions::operands_of_arms-loop-arm-init
expressions::operands_of_arms-loop-arm-init t c = behind-nothing c.args.so_far c.args.facts.now

pub expressions::operands_of_arms-loop-arm-preserved : goal.expressions::operands_of_arms-loop-arm-preserved
expressions::operands_of_arms-loop-arm-preserved t c =
    let here = c.args.here.now in
    flat-more (arm_operands (surroundings here)) (arm_of here.catalog.now) c.args.arms.now c.loop-arm.arm-index c.arm-item.result c.args.so_far c.loop-arm.seen c.operand-seen-in-loop-arm.result c.args.facts.now c.loop-arm.facts c.operand-seen-in-loop-arm.new.facts c.loop-arm-test.true c.arm-item.is c.loop-arm.invariant
    (subst (λ (os : List Operand). OperandsBehind os c.loop-arm.seen c.loop-arm.facts c.operand-seen-in-loop-arm.new.facts c.operand-seen-in-loop-arm.result) (arm-is here.catalog.now (surroundings here) c.arm-item.result)
    (behind-both (operand_here here (of_kind kind.Boolean) c.arm-item.result.condition ∷ []) (operand_here here alike c.arm-item.result.value ∷ []) c.loop-arm.seen c.operand-seen.result c.operand-seen-in-loop-arm.result c.loop-arm.facts c.operand-seen.new.facts c.operand-seen-in-loop-arm.new.facts
    c.operand-seen.ensures c.operand-seen-in-loop-arm.ensures))

pub expressions::operands_of_arms-returns : goal.expressions::operands_of_arms-returns
expressions::operands_of_arms-returns t c = rw (take_all c.loop-arm.arm-index c.args.arms.now c.loop-arm-test.false) at c.loop-arm.invariant

pub expressions::kind_of-returns : goal.expressions::kind_of-returns
expressions::kind_of-returns t c = told-so (means_at (part_of c.args.here.now.catalog.now c.args.tree.now) (surroundings c.args.here.now)) _ c.expression_seen.new.facts c.expression_seen.result c.expression_seen.ensures

pub expressions::tested_kind-returns : goal.expressions::tested_kind-returns
expressions::tested_kind-returns t c =
    rw (c.seeing-place.ensures.place, c.seeing-place.ensures.catalog, c.in_tested.ensures (scopes_of c.args.here.now.scopes.now)) at c.kind_of.ensures

pub expressions::expression_seen-returns-in-Exists : goal.expressions::expression_seen-returns-in-Exists
expressions::expression_seen-returns-in-Exists t c =
    let here = c.args.here.now in
    meant-so (meant_here here c.args.tree.now) _ c.args.facts.now c.inner_seen.new.facts c.exists_over.result
    (means-exists here.catalog.now (surroundings here) c.args.tree.now c.in-Exists.query c.in-Exists.is)
    (result-so _ c.args.facts.now c.inner_seen.new.facts (exists_over c.inner_seen.result) c.exists_over.result c.exists_over.ensures (exists-looked (surroundings here) c.args.tree.now.at (query_of here.catalog.now c.in-Exists.query) c.args.facts.now c.inner_seen.new.facts c.inner_seen.result
    (rw c.get-in-Exists.ensures at c.inner_seen.ensures)))

pub expressions::expression_seen-returns-in-Scalar : goal.expressions::expression_seen-returns-in-Scalar
expressions::expression_seen-returns-in-Scalar t c =
    let here = c.args.here.now in
    meant-so (meant_here here c.args.tree.now) _ c.args.facts.now c.inner_seen-inner-in-Scalar.new.facts c.scalar_over.result
    (means-scalar here.catalog.now (surroundings here) c.args.tree.now c.in-Scalar.query c.in-Scalar.is)
    (result-so _ c.args.facts.now c.inner_seen-inner-in-Scalar.new.facts (scalar_over (query_of here.catalog.now c.in-Scalar.query).at c.inner_seen-inner-in-Scalar.result) c.scalar_over.result (c.scalar_over.ensures ∙ ap (λ (at : ℕ). scalar_over at c.inner_seen-inner-in-Scalar.result) (ap (λ (q : QueryTree). q.at) c.get-in-Scalar-2.ensures ∙ sym (query-at here.catalog.now c.in-Scalar.query)))
    (scalar-looked (surroundings here) c.args.tree.now.at (query_of here.catalog.now c.in-Scalar.query) c.args.facts.now c.inner_seen-inner-in-Scalar.new.facts c.inner_seen-inner-in-Scalar.result
    (rw c.get-in-Scalar.ensures at c.inner_seen-inner-in-Scalar.ensures)))

pub expressions::expression_seen-returns-in-InQuery : goal.expressions::expression_seen-returns-in-InQuery
expressions::expression_seen-returns-in-InQuery t c =
    let here = c.args.here.now in
    meant-so (meant_here here c.args.tree.now) _ c.args.facts.now c.inner_seen-inner.new.facts c.tested_over.result
    (means-inquery here.catalog.now (surroundings here) c.args.tree.now c.in-InQuery.negated c.in-InQuery.part c.in-InQuery.query c.in-InQuery.is)
    (result-so _ c.args.facts.now c.inner_seen-inner.new.facts (tested_over c.tested_kind-tested.result (query_of here.catalog.now c.in-InQuery.query).at c.inner_seen-inner.result) c.tested_over.result (c.tested_over.ensures ∙ ap (λ (at : ℕ). tested_over c.tested_kind-tested.result at c.inner_seen-inner.result) (ap (λ (q : QueryTree). q.at) c.get-in-InQuery-3.ensures ∙ sym (query-at here.catalog.now c.in-InQuery.query)))
    (tested-seen (surroundings here) c.args.tree.now.at (in_kind c.in-InQuery.negated (cond c.in-InQuery.negated NotEqual Equal)) (part_of here.catalog.now c.in-InQuery.part) (query_of here.catalog.now c.in-InQuery.query)
    c.args.facts.now c.inner_seen-inner.new.facts c.tested_kind-tested.result c.inner_seen-inner.result
    (rw c.get-in-InQuery.ensures at c.tested_kind-tested.ensures) (rw c.get-in-InQuery-2.ensures at c.inner_seen-inner.ensures)))

pub expressions::expression_seen-returns-in-Quantified : goal.expressions::expression_seen-returns-in-Quantified
expressions::expression_seen-returns-in-Quantified t c =
    let here = c.args.here.now in
    meant-so (meant_here here c.args.tree.now) _ c.args.facts.now c.inner_seen-inner-in-Quantified.new.facts c.tested_over-in-Quantified.result
    (means-quantified here.catalog.now (surroundings here) c.args.tree.now c.in-Quantified.every c.in-Quantified.op c.in-Quantified.part c.in-Quantified.query c.in-Quantified.is)
    (result-so _ c.args.facts.now c.inner_seen-inner-in-Quantified.new.facts (tested_over c.tested_kind-tested-in-Quantified.result (query_of here.catalog.now c.in-Quantified.query).at c.inner_seen-inner-in-Quantified.result) c.tested_over-in-Quantified.result (c.tested_over-in-Quantified.ensures ∙ ap (λ (at : ℕ). tested_over c.tested_kind-tested-in-Quantified.result at c.inner_seen-inner-in-Quantified.result) (ap (λ (q : QueryTree). q.at) c.get-in-Quantified-3.ensures ∙ sym (query-at here.catalog.now c.in-Quantified.query)))
    (tested-seen (surroundings here) c.args.tree.now.at (in_kind c.in-Quantified.every c.in-Quantified.op) (part_of here.catalog.now c.in-Quantified.part) (query_of here.catalog.now c.in-Quantified.query)
    c.args.facts.now c.inner_seen-inner-in-Quantified.new.facts c.tested_kind-tested-in-Quantified.result c.inner_seen-inner-in-Quantified.result
    (rw c.get-in-Quantified.ensures at c.tested_kind-tested-in-Quantified.ensures) (rw c.get-in-Quantified-2.ensures at c.inner_seen-inner-in-Quantified.ensures)))

pub expressions::inner_seen-returns-in-Ok : goal.expressions::inner_seen-returns-in-Ok
expressions::inner_seen-returns-in-Ok t c =
    let here = c.args.here.now in
    let query = query_means_at (query_of here.catalog.now c.args.query.now) (inner_around (surroundings here)) in
    looked_so here.standing.sublinks query c.args.at c.args.facts.now c.add_inner.new.facts c.add_inner.result c.if-not-here.false
    (c.add_inner.ensures query (rw (c.below.ensures.place, c.below.ensures.catalog) at c.in-Ok.ensures))

pub expressions::inner_seen-returns-in-Err : goal.expressions::inner_seen-returns-in-Err
expressions::inner_seen-returns-in-Err t c =
    let here = c.args.here.now in
    let query = query_of here.catalog.now c.args.query.now in
    looked_so here.standing.sublinks (query_means_at query (inner_around (surroundings here))) c.args.at c.args.facts.now c.args.facts.now (Err c.in-Err.refusal) c.if-not-here.false
    (inner-refused (query_means_at query (inner_around (surroundings here))) c.args.facts.now c.args.facts.now c.in-Err.refusal
    (subst (λ (place : Around). QuerySeen (query_means_at query place) (Err c.in-Err.refusal)) c.below.ensures.place
    (subst (λ (held : Contents). QuerySeen (query_means_at (query_of held c.args.query.now) (around_of c.below.result)) (Err c.in-Err.refusal)) c.below.ensures.catalog
    c.in-Err.ensures)))

pub expressions::expression_seen-returns-in-Aggregate : goal.expressions::expression_seen-returns-in-Aggregate
expressions::expression_seen-returns-in-Aggregate t c =
    let here = c.args.here.now in
    meant-so (meant_here here c.args.tree.now) _ c.args.facts.now c.args.facts.now c.aggregate_seen.result
    (aggregate-means here.catalog.now (surroundings here) c.args.tree.now c.in-Aggregate.function c.in-Aggregate.argument c.in-Aggregate.is)
    (aggregate-alone (surroundings here) c.args.tree.now.at c.in-Aggregate.function (optional_part here.catalog.now c.in-Aggregate.argument) c.args.facts.now c.aggregate_seen.result
    c.aggregate_seen.ensures)

-- ---- cores

pub cores::clause_kind-returns : goal.cores::clause_kind-returns
cores::clause_kind-returns t c =
    rw (c.seeing-place.ensures.place, c.seeing-place.ensures.catalog, c.in_ok-scopes.ensures, c.in_clause.ensures c.args.scope.now (scopes_of c.args.around.now.outer.now))
    at c.expression_seen.ensures

pub cores::condition_seen-returns-in-Some : goal.cores::condition_seen-returns-in-Some
cores::condition_seen-returns-in-Some t c =
    let around = c.args.around.now in
    let here = in_clause c.args.scope.now (scopes_of around.outer.now) c.args.aggregates in
    subst (λ (o : Option ExprTree). ConditionSeen (optional_part around.catalog.now o) (optional_meant here (optional_part around.catalog.now o)) c.args.facts.now
    c.clause_kind.new.facts c.condition_over.result) (sym c.in-Some.is)
    (some-condition around.catalog.now c.in-Some.tree here c.args.facts.now c.clause_kind.new.facts c.clause_kind.result c.condition_over.result c.clause_kind.ensures
    c.condition_over.ensures.tells)

pub cores::core_seen-returns-in_err-word_break : goal.cores::core_seen-returns-in_err-word_break
cores::core_seen-returns-in_err-word_break t c =
    let around = c.args.around.now in
    let first = c.in_err-word_break.field-0.0 in
    same-refused (λ result. ColumnsSeen ((core_of around.catalog.now c.args.core.now).means (around_of around)) c.args.facts.now c.args.facts.now result)
    c.from_residual.result (Broken first) c.from_residual.ensures.1
    (word-refused around.catalog.now c.args.core.now (around_of around) c.args.facts.now c.args.facts.now first (sym (c.in_err-word_break.ensures (around_of around) refl)))

pub cores::core_seen-returns-in_err-own : goal.cores::core_seen-returns-in_err-own
cores::core_seen-returns-in_err-own t c =
    let around = c.args.around.now in
    same-refused (λ result. ColumnsSeen ((core_of around.catalog.now c.args.core.now).means (around_of around)) c.args.facts.now c.from_scope.new.facts result)
    c.from_residual-in_err-own.result c.in_err-own.field-0.0 c.from_residual-in_err-own.ensures.1
    (from-refused around.catalog.now c.args.core.now (around_of around) c.args.facts.now c.from_scope.new.facts c.in_err-own.field-0.0
    (sym (c.in_ok-word_break.ensures (around_of around) refl)) (subst (λ (sources : List FromTree). FromSeen (from_all (scopes_of around.outer.now) (map (from_of around.catalog.now) sources)) [] c.args.facts.now
    c.from_scope.new.facts (Err c.in_err-own.field-0.0)) c.as_slice.ensures c.in_err-own.ensures))

pub cores::core_seen-returns : goal.cores::core_seen-returns
cores::core_seen-returns t c =
    let around = c.args.around.now in
    from-answered around.catalog.now c.args.core.now (around_of around) c.args.facts.now c.from_scope.new.facts c.core_clauses.new.facts c.in_ok-own.own c.core_clauses.result
    (sym (c.in_ok-word_break.ensures (around_of around) refl)) (rw c.as_slice.ensures at c.in_ok-own.ensures) c.core_clauses.ensures

pub cores::core_clauses-returns : goal.cores::core_clauses-returns
cores::core_clauses-returns t c = λ before input items is adds.
    let around = c.args.around.now in
    let here = in_clause c.in_ok-scope.scope (scopes_of around.outer.now) true in
    core-answered around.catalog.now c.args.core.now (around_of around) input items c.args.own c.in_ok-scope.scope before c.args.facts.now c.condition_seen.new.facts
    c.condition_seen-2.new.facts c.list_seen.new.facts c.list_seen.result is adds c.in_ok-condition_seen.ensures (c.in_ok-scope.ensures around.catalog.now)
    c.in_ok-condition_seen-2.ensures
    (subst (λ (b : Bool). ListSeen (map (seen_at b c.in_ok-scope.scope here) (map (item_of around.catalog.now) (out-Core c.args.core.now).items))
    c.condition_seen-2.new.facts c.list_seen.new.facts c.list_seen.result)
    (has-from around.catalog.now c.args.core.now c.is_empty.result c.is_empty.ensures.0 c.is_empty.ensures.1) (rw c.as_slice.ensures at c.list_seen.ensures))

pub cores::list_seen-loop-item-init : goal.cores::list_seen-loop-item-init
cores::list_seen-loop-item-init t c =
    subst (λ columns. ListWhole [] c.args.facts.now c.args.facts.now columns) (sym c.new-columns.ensures) (nothing-listed c.args.facts.now)

pub cores::list_seen-loop-item-preserved : goal.cores::list_seen-loop-item-preserved
cores::list_seen-loop-item-preserved t c =
    let around = c.args.around.now in
    let seen = (seen_at c.args.has_from c.args.scope.now (in_clause c.args.scope.now (scopes_of around.outer.now) true)) in
    let item = item_of around.catalog.now in
    subst (λ (ms : List SelectMeant). ListWhole ms c.args.facts.now c.list_item.new.facts c.list_item.new.columns)
    (sym (twice-more seen item c.args.items.now c.loop-item.item-index c.item-item.result c.loop-item-test.true c.item-item.is))
    (list-more (map seen (map item (take c.loop-item.item-index c.args.items.now))) (seen (item c.item-item.result)) c.args.facts.now c.loop-item.facts c.list_item.new.facts
    c.loop-item.columns c.list_item.new.columns c.loop-item.invariant c.in_ok-list_item.ensures)

pub cores::list_seen-returns : goal.cores::list_seen-returns
cores::list_seen-returns t c = rw (take_all c.loop-item.item-index c.args.items.now c.loop-item-test.false) at c.loop-item.invariant

pub cores::list_item-returns-in-Star : goal.cores::list_item-returns-in-Star
cores::list_item-returns-in-Star t c =
    let around = c.args.around.now in
    star-seen around.catalog.now c.args.item.now c.args.has_from c.args.scope.now (in_clause c.args.scope.now (scopes_of around.outer.now) true) c.in-Star.at c.in-Star.is
    c.args.columns.now c.add_star.new.columns c.args.facts.now c.args.facts.now c.add_star.result (c.add_star.ensures c.args.facts.now)

pub cores::list_item-returns-in-TableStar : goal.cores::list_item-returns-in-TableStar
cores::list_item-returns-in-TableStar t c =
    let around = c.args.around.now in
    table_star-seen around.catalog.now c.args.item.now c.args.has_from c.args.scope.now (in_clause c.args.scope.now (scopes_of around.outer.now) true) c.in-TableStar.table
    c.in-TableStar.is c.args.columns.now c.add_table_star.new.columns c.args.facts.now c.args.facts.now c.add_table_star.result (c.add_table_star.ensures c.args.facts.now)

pub cores::list_item-returns-in_err-kind-in-Value : goal.cores::list_item-returns-in_err-kind-in-Value
cores::list_item-returns-in_err-kind-in-Value t c =
    let around = c.args.around.now in
    let here = in_clause c.args.scope.now (scopes_of around.outer.now) true in
    same-refused (λ result. ItemIsSeen (seen_at c.args.has_from c.args.scope.now here (item_of around.catalog.now c.args.item.now)) c.args.columns.now c.args.columns.now c.args.facts.now
    c.clause_kind.new.facts result) c.from_residual.result c.in_err-kind-in-Value.field-0.0 c.from_residual.ensures.1
    (value-refused around.catalog.now c.args.item.now c.args.has_from c.args.scope.now here c.in-Value.expr c.in-Value.name c.in-Value.is c.args.columns.now c.args.columns.now
    c.args.facts.now c.clause_kind.new.facts c.in_err-kind-in-Value.field-0.0 c.in_err-kind-in-Value.ensures)

pub cores::list_item-returns-in_ok-add_value-in-Value : goal.cores::list_item-returns-in_ok-add_value-in-Value
cores::list_item-returns-in_ok-add_value-in-Value t c =
    let around = c.args.around.now in
    let here = in_clause c.args.scope.now (scopes_of around.outer.now) true in
    value-seen around.catalog.now c.args.item.now c.args.has_from c.args.scope.now here c.in-Value.expr c.in-Value.name c.in-Value.is c.in_ok-kind-in-Value.kind c.args.columns.now
    c.add_value.new.columns c.args.facts.now c.clause_kind.new.facts c.in_ok-kind-in-Value.ensures (c.in_ok-add_value-in-Value.ensures around.catalog.now)

-- ---- trees of set operations

pub sets::set_seen-returns-in-Core : goal.sets::set_seen-returns-in-Core
sets::set_seen-returns-in-Core t c =
    let around = c.args.around.now in
    subst (λ (body : BodyPart). ColumnsSeen (body.means (around_of around)) c.args.facts.now c.core_seen.new.facts c.core_seen.result)
    (sym (set-is around.catalog.now c.args.tree.now c.in-Core.core c.in-Core.is)) (rw c.get.ensures at c.core_seen.ensures)

pub sets::set_seen-returns-in-Chain : goal.sets::set_seen-returns-in-Chain
sets::set_seen-returns-in-Chain t c =
    let around = c.args.around.now in
    subst (λ (m : QueryMeant). ColumnsSeen m c.args.facts.now c.operands_seen.new.facts c.operands_seen.result)
    (sym (chain-means around.catalog.now c.args.tree.now c.in-Chain.first c.in-Chain.steps (around_of around) c.in-Chain.is))
    (rw c.as_slice.ensures at (c.operands_seen.ensures ((set_of_tree around.catalog.now c.in-Chain.first).means (around_of around)) c.args.facts.now
    (rw c.get-in-Chain.ensures at c.set_seen-first.ensures)))

pub sets::set_seen-returns-in-Ok : goal.sets::set_seen-returns-in-Ok
sets::set_seen-returns-in-Ok t c =
    let around = c.args.around.now in
    subst (λ (m : QueryMeant). ColumnsSeen m c.args.facts.now c.add_shown.new.facts c.add_shown.result)
    (sym (paren-means around.catalog.now c.args.tree.now c.in-Paren.query (around_of around) c.in-Paren.is))
    (c.add_shown.ensures (query_means_at (query_of around.catalog.now c.in-Paren.query) (may_not_ask (around_of around)))
    (rw (c.operand.ensures.place, c.operand.ensures.catalog, c.get-in-Paren.ensures) at c.in-Ok.ensures))

pub sets::set_seen-returns-in-Err : goal.sets::set_seen-returns-in-Err
sets::set_seen-returns-in-Err t c =
    let around = c.args.around.now in
    let place = may_not_ask (around_of around) in
    subst (λ (m : QueryMeant). ColumnsSeen m c.args.facts.now c.args.facts.now (Err c.in-Err.refusal))
    (sym (paren-means around.catalog.now c.args.tree.now c.in-Paren.query (around_of around) c.in-Paren.is))
    (paren-refused (query_means_at (query_of around.catalog.now c.in-Paren.query) place) c.args.facts.now c.args.facts.now c.in-Err.refusal
    (subst (λ (query : QueryTree). QuerySeen (query_means_at (query_of around.catalog.now query) place) (Err c.in-Err.refusal)) c.get-in-Paren.ensures
    (subst (λ (place : Around). QuerySeen (query_means_at (query_of around.catalog.now c.get-in-Paren.result.now) place) (Err c.in-Err.refusal)) c.operand.ensures.place
    (subst (λ (held : Contents). QuerySeen (query_means_at (query_of held c.get-in-Paren.result.now) (around_of c.operand.result)) (Err c.in-Err.refusal)) c.operand.ensures.catalog c.in-Err.ensures))))

pub sets::operands_seen-loop-step-init : goal.sets::operands_seen-loop-step-init
sets::operands_seen-loop-step-init t c = λ left before first. first

pub sets::operands_seen-loop-step-preserved : goal.sets::operands_seen-loop-step-preserved
sets::operands_seen-loop-step-preserved t c = λ left before first.
    let around = around_of c.args.around.now in
    let steps = map (set_step_of c.args.around.now.catalog.now) (take c.loop-step.step-index c.args.steps.now) in
    subst (λ (m : QueryMeant). ColumnsSeen m before c.operand_seen-seen.new.facts c.operand_seen-seen.result)
    (sym (ap (set_chain around left) (map-taken (set_step_of c.args.around.now.catalog.now) c.args.steps.now c.loop-step.step-index c.step-item.result c.loop-step-test.true c.step-item.is)
    ∙ chain-behind around left steps (set_step_of c.args.around.now.catalog.now c.step-item.result)))
    (c.operand_seen-seen.ensures (set_chain around left steps) before (c.loop-step.invariant left before first))

pub sets::operands_seen-returns : goal.sets::operands_seen-returns
sets::operands_seen-returns t c = λ left before first.
    subst (λ (steps : List SetStep). ColumnsSeen (set_chain (around_of c.args.around.now) left (map (set_step_of c.args.around.now.catalog.now) steps)) before c.loop-step.facts c.loop-step.seen)
    (take_all c.loop-step.step-index c.args.steps.now c.loop-step-test.false) (c.loop-step.invariant left before first)

pub sets::operand_seen-returns-in-Ok : goal.sets::operand_seen-returns-in-Ok
sets::operand_seen-returns-in-Ok t c = λ left before so_far.
    let around = c.args.around.now in
    let step = set_step_of around.catalog.now c.args.step.now in
    let operand = step.operand.means (may_not_ask (around_of around)) in
    c.add_operand.ensures left step operand before c.args.facts.now c.set_seen-operand.new.facts (step-at around.catalog.now c.args.step.now)
    (subst (λ r. ColumnsSeen left before c.args.facts.now r) c.in-Ok.is so_far)
    (subst (λ (body : BodyPart). ColumnsSeen (body.means (may_not_ask (around_of around))) c.args.facts.now c.set_seen-operand.new.facts c.set_seen-operand.result)
    (sym (operand-of around.catalog.now c.args.step.now)) (rw (c.operand.ensures.place, c.operand.ensures.catalog) at c.set_seen-operand.ensures))

pub sets::operand_seen-returns-in-Err : goal.sets::operand_seen-returns-in-Err
sets::operand_seen-returns-in-Err t c = λ left before so_far.
    let around = c.args.around.now in
    let step = set_step_of around.catalog.now c.args.step.now in
    chain-refused left step (step.operand.means (may_not_ask (around_of around))) before c.args.facts.now c.args.facts.now c.in-Err.refusal
    (subst (λ r. ColumnsSeen left before c.args.facts.now r) c.in-Err.is so_far)

-- ---- queries

pub queries::query_seen-returns-in_err-columns : goal.queries::query_seen-returns-in_err-columns
queries::query_seen-returns-in_err-columns t c =
    let around = c.args.around.now in
    let tree = c.args.tree.now in
    let is = c.asks_provenance-asking.ensures around.catalog.now in
    same-refused (QuerySeen (query_means_at (query_of around.catalog.now tree) (around_of around))) c.from_residual.result c.in_err-columns.field-0.0 c.from_residual.ensures.1
    (query-refused around.catalog.now tree (around_of around) c.asks_provenance-asking.result is c.none-facts.result c.set_seen.new.facts c.in_err-columns.field-0.0
    c.in_err-columns.ensures)

pub queries::query_seen-returns : goal.queries::query_seen-returns
queries::query_seen-returns t c =
    let around = c.args.around.now in
    let tree = c.args.tree.now in
    let is = c.asks_provenance-asking.ensures around.catalog.now in
    query-answered around.catalog.now tree (around_of around) c.asks_provenance-asking.result is c.query_over.result
    (rw c.as_slice.ensures at (c.query_over.ensures tree.at (body_meant around.catalog.now tree (around_of around) c.asks_provenance-asking.result) tree.limit c.none-facts.result
    c.none-facts.ensures c.in_ok-columns.ensures
    (rw c.as_slice.ensures (kinds-known around.catalog.now tree (around_of around) c.asks_provenance-asking.result is c.requires))))

-- ---- sources

pub sources::read_source-returns-in-Named : goal.sources::read_source-returns-in-Named
sources::read_source-returns-in-Named t c =
    let around = c.args.around.now in
    subst (λ (read : Read). ReadSeen read c.read_named.result) (sym (named-read around.catalog.now (around_of around) c.args.source.now c.in-Named.name c.in-Named.is))
    c.read_named.ensures

pub sources::read_source-returns-in-Inner : goal.sources::read_source-returns-in-Inner
sources::read_source-returns-in-Inner t c =
    let around = c.args.around.now in
    subst (λ (read : Read). ReadSeen read c.read_inner.result)
    (sym (inner-read around.catalog.now (around_of around) c.args.source.now c.in-Inner.query c.in-Inner.is))
    (rw c.get.ensures at c.read_inner.ensures)

pub sources::read_inner-returns-in_ok-read_shown-in-Ok : goal.sources::read_inner-returns-in_ok-read_shown-in-Ok
sources::read_inner-returns-in_ok-read_shown-in-Ok t c =
    let around = c.args.around.now in
    c.in_ok-read_shown-in-Ok.ensures (query_means_at (query_of around.catalog.now c.args.query.now) (around_of around)) c.in-Ok.ensures

pub sources::read_inner-returns-in-Err : goal.sources::read_inner-returns-in-Err
sources::read_inner-returns-in-Err t c =
    let around = c.args.around.now in
    read-refused (query_means_at (query_of around.catalog.now c.args.query.now) (around_of around)) c.in-Err.refusal c.in-Err.ensures

pub sources::from_item-returns-in_err-reading-clause-seen : goal.sources::from_item-returns-in_err-reading-clause-seen
sources::from_item-returns-in_err-reading-clause-seen t c =
    let around = c.args.around.now in
    let item = c.args.item.now in
    let place = in_from (scopes_of around.outer.now) in
    let held = c.args.names.now.known.keys in
    same-refused (λ result. ItemSeen ((from_item_of around.catalog.now item).means place held) c.args.scope.now c.args.facts.now c.args.facts.now c.args.scope.now result)
    c.from_residual.result c.in_err-reading.field-0.0 c.from_residual.ensures.1
    (subst (λ (m : ItemMeant). ItemSeen m c.args.scope.now c.args.facts.now c.args.facts.now c.args.scope.now (Err c.in_err-reading.field-0.0))
    (sym (item-means around.catalog.now item place held))
    (item-refused item.at item.mark held (scope_name (source_of around.catalog.now item.source) item.alias) (label_of (source_of around.catalog.now item.source) item.alias)
    (read_of around.catalog.now place (source_of around.catalog.now item.source)) c.args.scope.now c.args.scope.now c.args.facts.now c.args.facts.now
    c.in_err-reading.field-0.0
    (subst (λ (there : Around). ReadSeen (read_of around.catalog.now there (source_of around.catalog.now item.source)) (Err c.in_err-reading.field-0.0)) c.in_from.ensures.place
    (subst (λ (kept : Contents). ReadSeen (read_of kept (around_of c.in_from.result) (source_of kept item.source)) (Err c.in_err-reading.field-0.0)) c.in_from.ensures.catalog
    c.in_err-reading.ensures))))

pub sources::from_item-returns-clause-seen : goal.sources::from_item-returns-clause-seen
sources::from_item-returns-clause-seen t c =
    let around = c.args.around.now in
    let item = c.args.item.now in
    let place = in_from (scopes_of around.outer.now) in
    subst (λ (m : ItemMeant). ItemSeen m c.args.scope.now c.args.facts.now c.put_item.new.facts c.put_item.new.scope c.put_item.result)
    (sym (item-means around.catalog.now item place c.args.names.now.known.keys))
    (c.put_item.ensures.seen around.catalog.now (read_of around.catalog.now place (source_of around.catalog.now item.source))
    (rw (c.in_from.ensures.place, c.in_from.ensures.catalog) at c.in_ok-reading.ensures))

pub sources::lateral_item-returns-in_err-reading-clause-seen : goal.sources::lateral_item-returns-in_err-reading-clause-seen
sources::lateral_item-returns-in_err-reading-clause-seen t c =
    let around = c.args.around.now in
    let item = c.args.item.now in
    let place = around_beside (c.args.scope.now ∷ scopes_of around.outer.now) in
    let held = c.args.names.now.known.keys in
    same-refused (λ result. ItemSeen ((from_item_of around.catalog.now item).means place held) c.args.scope.now c.args.facts.now c.args.facts.now c.args.scope.now result)
    c.from_residual.result c.in_err-reading.field-0.0 c.from_residual.ensures.1
    (subst (λ (m : ItemMeant). ItemSeen m c.args.scope.now c.args.facts.now c.args.facts.now c.args.scope.now (Err c.in_err-reading.field-0.0))
    (sym (item-means around.catalog.now item place held))
    (item-refused item.at item.mark held (scope_name (source_of around.catalog.now item.source) item.alias) (label_of (source_of around.catalog.now item.source) item.alias)
    (read_of around.catalog.now place (source_of around.catalog.now item.source)) c.args.scope.now c.args.scope.now c.args.facts.now c.args.facts.now
    c.in_err-reading.field-0.0 c.in_err-reading.ensures))

pub sources::lateral_item-returns-clause-seen : goal.sources::lateral_item-returns-clause-seen
sources::lateral_item-returns-clause-seen t c =
    let around = c.args.around.now in
    let item = c.args.item.now in
    let place = around_beside (c.args.scope.now ∷ scopes_of around.outer.now) in
    subst (λ (m : ItemMeant). ItemSeen m c.args.scope.now c.args.facts.now c.put_item.new.facts c.put_item.new.scope c.put_item.result)
    (sym (item-means around.catalog.now item place c.args.names.now.known.keys))
    (c.put_item.ensures.seen around.catalog.now (read_of around.catalog.now place (source_of around.catalog.now item.source)) c.in_ok-reading.ensures)

pub sources::from_item-returns-in_err-reading-clause-named : goal.sources::from_item-returns-in_err-reading-clause-named
sources::from_item-returns-in_err-reading-clause-named t c = never-ok _ c.from_residual.result _ c.from_residual.ensures.1

pub sources::from_item-returns-clause-named : goal.sources::from_item-returns-clause-named
sources::from_item-returns-clause-named t c = c.put_item.ensures.named

pub sources::lateral_item-returns-in_err-reading-clause-named : goal.sources::lateral_item-returns-in_err-reading-clause-named
sources::lateral_item-returns-in_err-reading-clause-named t c = never-ok _ c.from_residual.result _ c.from_residual.ensures.1

pub sources::lateral_item-returns-clause-named : goal.sources::lateral_item-returns-clause-named
sources::lateral_item-returns-clause-named t c = c.put_item.ensures.named

pub sources::read_beside-returns : goal.sources::read_beside-returns
sources::read_beside-returns t c =
    let around = c.args.around.now in
    let source = c.args.item.now.source in
    subst (λ (there : Around). ReadSeen (read_of around.catalog.now there (source_of around.catalog.now source)) c.read_source.result)
    (c.lateral.ensures.place ∙ ap around_beside c.in_ok-scopes.ensures)
    (subst (λ (kept : Contents). ReadSeen (read_of kept (around_of c.lateral.result) (source_of kept source)) c.read_source.result) c.lateral.ensures.catalog
    c.read_source.ensures)

pub sources::join_seen-returns-then-is_lateral-clause-seen : goal.sources::join_seen-returns-then-is_lateral-clause-seen
sources::join_seen-returns-then-is_lateral-clause-seen t c = λ left earlier before held first.
    let around = c.args.around.now in
    let step = c.args.step.now in
    let outer = scopes_of around.outer.now in
    let joined = join_of around.catalog.now step in
    let lateral = ap is_lateral (joined-word around.catalog.now step) ∙ sym c.is_lateral.ensures ∙ c.if-is_lateral.true in
    subst (λ (m : FromMeant). JoinSeen m earlier before c.lateral_item.new.facts c.lateral_item.new.scope c.lateral_item.result)
    (sym (join-lateral outer left joined lateral))
    (lateral-seen left joined.word (lateral_item outer left joined) earlier before c.args.facts.now c.lateral_item.new.facts c.args.scope.now
    c.lateral_item.new.scope c.lateral_item.result first
    (subst (λ (m : ItemMeant). ItemSeen m c.args.scope.now c.args.facts.now c.lateral_item.new.facts c.lateral_item.new.scope c.lateral_item.result)
    (sym (lateral-means around.catalog.now step outer left earlier before c.args.facts.now c.args.scope.now c.args.names.now.known.keys held first)) c.lateral_item.ensures.seen))

pub sources::join_seen-returns-in_err-from_item-clause-seen : goal.sources::join_seen-returns-in_err-from_item-clause-seen
sources::join_seen-returns-in_err-from_item-clause-seen t c = λ left earlier before held first.
    let around = c.args.around.now in
    let step = c.args.step.now in
    let outer = scopes_of around.outer.now in
    let joined = join_of around.catalog.now step in
    let plain = ap is_lateral (joined-word around.catalog.now step) ∙ sym c.is_lateral.ensures ∙ c.if-is_lateral.false in
    same-refused (λ result. JoinSeen (join_item outer left joined (joined_item outer left joined)) earlier before c.from_item.new.facts
    c.from_item.new.scope result) c.from_residual.result c.in_err-from_item.field-0.0 c.from_residual.ensures.1
    (subst (λ (m : FromMeant). JoinSeen m earlier before c.from_item.new.facts c.from_item.new.scope (Err c.in_err-from_item.field-0.0))
    (sym (join-plain outer left joined plain))
    (join-refused outer left joined (plain_item outer left joined) earlier before c.args.facts.now c.from_item.new.facts c.args.scope.now
    c.from_item.new.scope c.in_err-from_item.field-0.0 first
    (subst (λ (m : ItemMeant). ItemSeen m c.args.scope.now c.args.facts.now c.from_item.new.facts c.from_item.new.scope (Err c.in_err-from_item.field-0.0))
    (sym (joined-item around.catalog.now step (in_from outer) left.names c.args.names.now.known.keys (first.names ∙ sym held)))
    c.in_err-from_item.ensures.seen)))

pub sources::join_seen-returns-clause-seen : goal.sources::join_seen-returns-clause-seen
sources::join_seen-returns-clause-seen t c = λ left earlier before held first.
    let around = c.args.around.now in
    let step = c.args.step.now in
    let outer = scopes_of around.outer.now in
    let joined = join_of around.catalog.now step in
    let plain = ap is_lateral (joined-word around.catalog.now step) ∙ sym c.is_lateral.ensures ∙ c.if-is_lateral.false in
    subst (λ (m : FromMeant). JoinSeen m earlier before c.condition_seen.new.facts c.from_item.new.scope c.condition_seen.result)
    (sym (join-plain outer left joined plain))
    (join-behind outer left joined (plain_item outer left joined) earlier before c.args.facts.now c.from_item.new.facts
    c.condition_seen.new.facts c.args.scope.now c.from_item.new.scope c.condition_seen.result first
    (subst (λ (m : ItemMeant). ItemAdded m c.args.scope.now c.args.facts.now c.from_item.new.facts c.from_item.new.scope)
    (sym (joined-item around.catalog.now step (in_from outer) left.names c.args.names.now.known.keys (first.names ∙ sym held))) c.in_ok-from_item.ensures.seen)
    (subst (λ (part : Option Part). ConditionSeen part (optional_meant (in_clause c.from_item.new.scope outer false) part) c.from_item.new.facts
    c.condition_seen.new.facts c.condition_seen.result)
    (sym (joined-condition around.catalog.now step (out-JoinStep step).condition refl)) c.condition_seen.ensures))

pub sources::join_seen-returns-then-is_lateral-clause-named : goal.sources::join_seen-returns-then-is_lateral-clause-named
sources::join_seen-returns-then-is_lateral-clause-named t c = c.lateral_item.ensures.named

pub sources::join_seen-returns-in_err-from_item-clause-named : goal.sources::join_seen-returns-in_err-from_item-clause-named
sources::join_seen-returns-in_err-from_item-clause-named t c = never-ok _ c.from_residual.result _ c.from_residual.ensures.1

pub sources::join_seen-returns-clause-named : goal.sources::join_seen-returns-clause-named
sources::join_seen-returns-clause-named t c = ok-anyway c.condition_seen.result c.in_ok-from_item.ensures.named

pub sources::source_items-returns-in_err-from_item-clause-seen : goal.sources::source_items-returns-in_err-from_item-clause-seen
sources::source_items-returns-in_err-from_item-clause-seen t c =
    let around = c.args.around.now in
    let outer = scopes_of around.outer.now in
    let tree = c.args.tree.now in
    let earlier = c.args.names.now.known.keys in
    let first = (from_item_of around.catalog.now (out-FromTree tree).first).means (in_from outer) earlier in
    let joins = (out-FromTree tree).joins in
    let join = join_of around.catalog.now in
    same-refused (λ result. FromSeen ((from_of around.catalog.now tree).means outer earlier) earlier c.args.facts.now c.from_item.new.facts result)
    c.from_residual.result c.in_err-from_item.field-0.0 c.from_residual.ensures.1
    (subst (λ (m : FromMeant). FromSeen m earlier c.args.facts.now c.from_item.new.facts (Err c.in_err-from_item.field-0.0))
    (sym (from-means around.catalog.now tree outer earlier))
    (first-refused outer first (map join joins) earlier c.args.facts.now c.from_item.new.facts c.no_items-scope.result c.from_item.new.scope c.in_err-from_item.field-0.0
    c.in_err-from_item.ensures.seen))

pub sources::source_items-returns-in_err-from_item-clause-named : goal.sources::source_items-returns-in_err-from_item-clause-named
sources::source_items-returns-in_err-from_item-clause-named t c = never-if_ok _ c.from_residual.result _ c.from_residual.ensures.1

pub sources::source_items-loop-step-init : goal.sources::source_items-loop-step-init
sources::source_items-loop-step-init t c =
    let around = c.args.around.now in
    let outer = scopes_of around.outer.now in
    let tree = c.args.tree.now in
    let earlier = c.args.names.now.known.keys in
    let first = (from_item_of around.catalog.now (out-FromTree tree).first).means (in_from outer) earlier in
    record {
      seen = first-whole first earlier c.args.facts.now c.from_item.new.facts c.no_items-scope.result c.from_item.new.scope c.no_items-scope.ensures
          c.in_ok-from_item.ensures.seen;
      named = c.in_ok-from_item.ensures.named earlier (sym (none-held earlier c.no_items-scope.result c.no_items-scope.ensures));
    }

pub sources::source_items-returns-in_err-join_seen-clause-seen : goal.sources::source_items-returns-in_err-join_seen-clause-seen
sources::source_items-returns-in_err-join_seen-clause-seen t c =
    let around = c.args.around.now in
    let outer = scopes_of around.outer.now in
    let tree = c.args.tree.now in
    let earlier = c.args.names.now.known.keys in
    let first = (from_item_of around.catalog.now (out-FromTree tree).first).means (in_from outer) earlier in
    let joins = (out-FromTree tree).joins in
    let join = join_of around.catalog.now in
    let so_far = join_all outer (first_item earlier first) (map join (take c.loop-step.step-index joins)) in
    let within = rw c.as_slice-step-items.ensures at c.loop-step-test.true in
    let is = rw c.as_slice-step-items.ensures at c.step-item.is in
    same-refused (λ result. FromSeen ((from_of around.catalog.now tree).means outer earlier) earlier c.args.facts.now c.join_seen.new.facts result)
    c.from_residual-in_err-join_seen.result c.in_err-join_seen.field-0.0 c.from_residual-in_err-join_seen.ensures.1
    (subst (λ (m : FromMeant). FromSeen m earlier c.args.facts.now c.join_seen.new.facts (Err c.in_err-join_seen.field-0.0))
    (sym (from-means around.catalog.now tree outer earlier
    ∙ ap (join_all outer (first_item earlier first)) (mapped-at join joins c.loop-step.step-index c.step-item.result within is)))
    (step-refused outer (first_item earlier first) (map join (take c.loop-step.step-index joins)) (join c.step-item.result)
    (map join (drop (c.loop-step.step-index + 1) joins)) earlier c.args.facts.now c.join_seen.new.facts c.join_seen.new.scope c.in_err-join_seen.field-0.0
    (c.in_err-join_seen.ensures.seen so_far earlier c.args.facts.now c.loop-step.invariant.named c.loop-step.invariant.seen)))

pub sources::source_items-returns-in_err-join_seen-clause-named : goal.sources::source_items-returns-in_err-join_seen-clause-named
sources::source_items-returns-in_err-join_seen-clause-named t c =
    never-if_ok _ c.from_residual-in_err-join_seen.result _ c.from_residual-in_err-join_seen.ensures.1

pub sources::source_items-loop-step-preserved : goal.sources::source_items-loop-step-preserved
sources::source_items-loop-step-preserved t c =
    let around = c.args.around.now in
    let outer = scopes_of around.outer.now in
    let tree = c.args.tree.now in
    let earlier = c.args.names.now.known.keys in
    let first = (from_item_of around.catalog.now (out-FromTree tree).first).means (in_from outer) earlier in
    let joins = (out-FromTree tree).joins in
    let join = join_of around.catalog.now in
    let so_far = join_all outer (first_item earlier first) (map join (take c.loop-step.step-index joins)) in
    let within = rw c.as_slice-step-items.ensures at c.loop-step-test.true in
    let is = rw c.as_slice-step-items.ensures at c.step-item.is in
    record {
      seen = subst (λ (m : FromMeant). FromWhole m earlier c.args.facts.now c.join_seen.new.facts c.join_seen.new.scope)
          (sym (ap (join_all outer (first_item earlier first)) (map-taken join joins c.loop-step.step-index c.step-item.result within is)
          ∙ joins-behind outer (first_item earlier first) (map join (take c.loop-step.step-index joins)) (join c.step-item.result)))
          (c.in_ok-join_seen.ensures.seen so_far earlier c.args.facts.now c.loop-step.invariant.named c.loop-step.invariant.seen);
      named = c.in_ok-join_seen.ensures.named earlier c.loop-step.invariant.named;
    }

pub sources::source_items-returns-clause-seen : goal.sources::source_items-returns-clause-seen
sources::source_items-returns-clause-seen t c =
    let around = c.args.around.now in
    let outer = scopes_of around.outer.now in
    let tree = c.args.tree.now in
    let earlier = c.args.names.now.known.keys in
    let first = (from_item_of around.catalog.now (out-FromTree tree).first).means (in_from outer) earlier in
    let joins = (out-FromTree tree).joins in
    let join = join_of around.catalog.now in
    let all = rw c.as_slice-step-items.ensures at c.loop-step-test.false in
    subst (λ (m : FromMeant). FromWhole m earlier c.args.facts.now c.loop-step.facts c.loop-step.scope)
    (ap (λ (steps : List JoinStep). join_all outer (first_item earlier first) (map join steps)) (take_all c.loop-step.step-index joins all)
    ∙ sym (from-means around.catalog.now tree outer earlier)) c.loop-step.invariant.seen

pub sources::source_items-returns-clause-named : goal.sources::source_items-returns-clause-named
sources::source_items-returns-clause-named t c = c.loop-step.invariant.named

pub sources::from_scope-returns-in_err-own : goal.sources::from_scope-returns-in_err-own
sources::from_scope-returns-in_err-own t c =
    let around = c.args.around.now in
    let outer = scopes_of around.outer.now in
    let part = from_of around.catalog.now in
    let so_far = map part (take c.loop-source.source-index c.args.sources.now) in
    same-refused (λ result. FromSeen (from_all outer (map part c.args.sources.now)) [] c.args.facts.now c.source_items.new.facts result)
    c.from_residual.result c.in_err-own.field-0.0 c.from_residual.ensures.1
    (subst (λ (parts : List FromPart). FromSeen (from_all outer parts) [] c.args.facts.now c.source_items.new.facts (Err c.in_err-own.field-0.0))
    (sym (mapped-at part c.args.sources.now c.loop-source.source-index c.source-item.result c.loop-source-test.true c.source-item.is))
    (source-refused outer so_far (part c.source-item.result) (map part (drop (c.loop-source.source-index + 1) c.args.sources.now)) c.args.facts.now c.loop-source.facts
    c.source_items.new.facts c.loop-source.scope c.in_err-own.field-0.0 c.loop-source.invariant.seen
    (subst (λ (names : List (List ℕ)). FromSeen ((part c.source-item.result).means outer names) names c.loop-source.facts c.source_items.new.facts (Err c.in_err-own.field-0.0))
    c.loop-source.invariant.named c.in_err-own.ensures.seen)))

pub sources::from_scope-loop-source-init : goal.sources::from_scope-loop-source-init
sources::from_scope-loop-source-init t c = record {
  seen = nothing-read (scopes_of c.args.around.now.outer.now) c.args.facts.now c.no_items-scope.result c.no_items-scope.ensures;
  named = c.none-names.ensures ∙ ap (λ (scope : Scope). scope.items) (sym c.no_items-scope.ensures);
}

pub sources::from_scope-loop-source-preserved : goal.sources::from_scope-loop-source-preserved
sources::from_scope-loop-source-preserved t c =
    let around = c.args.around.now in
    let outer = scopes_of around.outer.now in
    let part = from_of around.catalog.now in
    let so_far = map part (take c.loop-source.source-index c.args.sources.now) in
    record {
      seen = subst (λ (parts : List FromPart). FromWhole (from_all outer parts) [] c.args.facts.now c.source_items.new.facts c.add_items.new.left)
          (sym (map-taken part c.args.sources.now c.loop-source.source-index c.source-item.result c.loop-source-test.true c.source-item.is))
          (source-behind outer so_far (part c.source-item.result) c.args.facts.now c.loop-source.facts c.source_items.new.facts c.loop-source.scope c.in_ok-own.own c.add_items.new.left
          c.loop-source.invariant.seen
          (subst (λ (names : List (List ℕ)). FromSeen ((part c.source-item.result).means outer names) names c.loop-source.facts c.source_items.new.facts (Ok c.in_ok-own.own))
          c.loop-source.invariant.named c.in_ok-own.ensures.seen) c.in_ok-add_items.ensures);
      named = c.in_ok-own.ensures.named ∙ ap (λ (names : List (List ℕ)). names ++ c.in_ok-own.own.items) c.loop-source.invariant.named
          ∙ ap (λ (scope : Scope). scope.items) (sym c.in_ok-add_items.ensures);
    }

pub sources::from_scope-returns : goal.sources::from_scope-returns
sources::from_scope-returns t c =
    subst (λ (sources : List FromTree). FromWhole (from_all (scopes_of c.args.around.now.outer.now) (map (from_of c.args.around.now.catalog.now) sources)) [] c.args.facts.now
    c.loop-source.facts c.loop-source.scope) (take_all c.loop-source.source-index c.args.sources.now c.loop-source-test.false) c.loop-source.invariant.seen

pub cores::core_clauses-returns-in_err-condition_seen : goal.cores::core_clauses-returns-in_err-condition_seen
cores::core_clauses-returns-in_err-condition_seen t c = λ before input items is adds.
    let around = c.args.around.now in
    same-refused (λ result. ColumnsSeen (core_behind around.catalog.now c.args.core.now (around_of around) input items) before c.condition_seen.new.facts result)
    c.from_residual.result c.in_err-condition_seen.field-0.0 c.from_residual.ensures.1
    (where-refused around.catalog.now c.args.core.now (around_of around) input items c.args.own before c.args.facts.now c.condition_seen.new.facts c.in_err-condition_seen.field-0.0 is
    c.in_err-condition_seen.ensures)

pub cores::core_clauses-returns-in_err-scope : goal.cores::core_clauses-returns-in_err-scope
cores::core_clauses-returns-in_err-scope t c = λ before input items is adds.
    let around = c.args.around.now in
    same-refused (λ result. ColumnsSeen (core_behind around.catalog.now c.args.core.now (around_of around) input items) before c.condition_seen.new.facts result)
    c.from_residual-in_err-scope.result c.in_err-scope.field-0.0 c.from_residual-in_err-scope.ensures.1
    (groups-refused around.catalog.now c.args.core.now (around_of around) input items c.args.own before c.args.facts.now c.condition_seen.new.facts c.in_err-scope.field-0.0 is
    c.in_ok-condition_seen.ensures (c.in_err-scope.ensures around.catalog.now))

pub cores::core_clauses-returns-in_err-condition_seen-2 : goal.cores::core_clauses-returns-in_err-condition_seen-2
cores::core_clauses-returns-in_err-condition_seen-2 t c = λ before input items is adds.
    let around = c.args.around.now in
    same-refused (λ result. ColumnsSeen (core_behind around.catalog.now c.args.core.now (around_of around) input items) before c.condition_seen-2.new.facts result)
    c.from_residual-in_err-condition_seen-2.result c.in_err-condition_seen-2.field-0.0 c.from_residual-in_err-condition_seen-2.ensures.1
    (having-refused around.catalog.now c.args.core.now (around_of around) input items c.args.own c.in_ok-scope.scope before c.args.facts.now c.condition_seen.new.facts
    c.condition_seen-2.new.facts c.in_err-condition_seen-2.field-0.0 is c.in_ok-condition_seen.ensures (c.in_ok-scope.ensures around.catalog.now) c.in_err-condition_seen-2.ensures)

pub cores::list_seen-returns-in_err-list_item : goal.cores::list_seen-returns-in_err-list_item
cores::list_seen-returns-in_err-list_item t c =
    let around = c.args.around.now in
    let seen = (seen_at c.args.has_from c.args.scope.now (in_clause c.args.scope.now (scopes_of around.outer.now) true)) in
    let item = item_of around.catalog.now in
    same-refused (λ result. ListSeen (map seen (map item c.args.items.now)) c.args.facts.now c.list_item.new.facts result)
    c.from_residual.result c.in_err-list_item.field-0.0 c.from_residual.ensures.1
    (subst (λ (ms : List SelectMeant). ListSeen ms c.args.facts.now c.list_item.new.facts (Err c.in_err-list_item.field-0.0))
    (sym (twice-at seen item c.args.items.now c.loop-item.item-index c.item-item.result c.loop-item-test.true c.item-item.is))
    (list-refused (map seen (map item (take c.loop-item.item-index c.args.items.now))) (seen (item c.item-item.result))
    (map seen (map item (drop (c.loop-item.item-index + 1) c.args.items.now))) c.args.facts.now c.loop-item.facts c.list_item.new.facts
    c.loop-item.columns c.list_item.new.columns c.in_err-list_item.field-0.0 c.loop-item.invariant c.in_err-list_item.ensures))
