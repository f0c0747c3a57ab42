use Rattle.std.specs.Prelude.{List, map, flat_map}
use Rattle.std.specs.List.{list_any}
use Rattle.std.proofs.Common.{ap, sym, ◌∙◌}
use Rattle.sql_tree.specs.declared.expression.ArmTree.{ArmTree}
use Rattle.sql_tree.specs.declared.expression.ExprStep.{ExprStep}
use Rattle.sql_tree.specs.declared.expression.ExprTree.{ExprTree}
use Rattle.name_meaning.specs.Expressions.{arm_parts}
use Rattle.name_meaning.specs.Trees.{body_of, part_of, step_of, arm_of}
use Rattle.name_meaning.proofs.Equations.{token, exprbody-null, exprbody-nullof, exprbody-integer, exprbody-text, exprbody-truth, exprbody-column, exprbody-paren, exprbody-nots, exprbody-signs, exprbody-logic, exprbody-chain, exprbody-compared, exprbody-like, exprbody-between, exprbody-inlist, exprbody-inquery, exprbody-quantified, exprbody-isnull, exprbody-istruth, exprbody-isdistinct, exprbody-coalesce, exprbody-nullif, exprbody-exists, exprbody-scalar}
use Rattle.name_seen_parts.specs.Aggregates.{is_aggregating, step_aggregates}
use Rattle.name_seen_parts.proofs.Aggregating.{aggregate-is, any-flat-more, any-more, arm-is, case-is, got, of-body, one-part, part-and, step-is, steps-are, three-parts, two-parts}
use Rattle.name_seen_parts.proofs.clauses.aggregates.+aggregates.Goals as goal

pub has_aggregate-returns-in-Null : goal.has_aggregate-returns-in-Null
unfolding token
has_aggregate-returns-in-Null t c = λ contents.
    sym (of-body contents c.args.tree.now _ (ap (body_of contents) c.in-Null.is ∙ exprbody-null contents))

pub has_aggregate-returns-in-NullOf : goal.has_aggregate-returns-in-NullOf
unfolding token
has_aggregate-returns-in-NullOf t c = λ contents.
    sym (of-body contents c.args.tree.now _ (ap (body_of contents) c.in-NullOf.is ∙ exprbody-nullof contents c.in-NullOf.field-0))

pub has_aggregate-returns-in-Integer : goal.has_aggregate-returns-in-Integer
unfolding token
has_aggregate-returns-in-Integer t c = λ contents.
    sym (of-body contents c.args.tree.now _ (ap (body_of contents) c.in-Integer.is ∙ exprbody-integer contents c.in-Integer.field-0))

pub has_aggregate-returns-in-Text : goal.has_aggregate-returns-in-Text
unfolding token
has_aggregate-returns-in-Text t c = λ contents.
    sym (of-body contents c.args.tree.now _ (ap (body_of contents) c.in-Text.is ∙ exprbody-text contents c.in-Text.field-0))

pub has_aggregate-returns-in-Truth : goal.has_aggregate-returns-in-Truth
unfolding token
has_aggregate-returns-in-Truth t c = λ contents.
    sym (of-body contents c.args.tree.now _ (ap (body_of contents) c.in-Truth.is ∙ exprbody-truth contents c.in-Truth.field-0))

pub has_aggregate-returns-in-Column : goal.has_aggregate-returns-in-Column
unfolding token
has_aggregate-returns-in-Column t c = λ contents.
    sym (of-body contents c.args.tree.now _ (ap (body_of contents) c.in-Column.is ∙ exprbody-column contents c.in-Column.field-0))

pub has_aggregate-returns-in-Paren : goal.has_aggregate-returns-in-Paren
unfolding token
has_aggregate-returns-in-Paren t c = λ contents.
    (got contents c.has_aggregate.result c.get.result.now c.in-Paren.part (c.has_aggregate.ensures contents) c.get.ensures) ∙ sym (of-body contents c.args.tree.now _ (ap (body_of contents) c.in-Paren.is ∙ exprbody-paren contents c.in-Paren.part))

pub has_aggregate-returns-in-Nots : goal.has_aggregate-returns-in-Nots
unfolding token
has_aggregate-returns-in-Nots t c = λ contents.
    one-part _ _ (got contents c.has_aggregate-in-Nots.result c.get-in-Nots.result.now c.in-Nots.part (c.has_aggregate-in-Nots.ensures contents) c.get-in-Nots.ensures)
    ∙ sym (of-body contents c.args.tree.now _ (ap (body_of contents) c.in-Nots.is ∙ exprbody-nots contents c.in-Nots.count c.in-Nots.part))

pub has_aggregate-returns-in-Signs : goal.has_aggregate-returns-in-Signs
unfolding token
has_aggregate-returns-in-Signs t c = λ contents.
    one-part _ _ (got contents c.has_aggregate-in-Signs.result c.get-in-Signs.result.now c.in-Signs.part (c.has_aggregate-in-Signs.ensures contents) c.get-in-Signs.ensures)
    ∙ sym (of-body contents c.args.tree.now _ (ap (body_of contents) c.in-Signs.is ∙ exprbody-signs contents c.in-Signs.count c.in-Signs.part))

pub has_aggregate-returns-in-Logic : goal.has_aggregate-returns-in-Logic
unfolding token
has_aggregate-returns-in-Logic t c = λ contents.
    (c.any_aggregates.ensures contents ∙ ap (λ (trees : List ExprTree). list_any is_aggregating (map (part_of contents) trees)) c.as_slice.ensures)
    ∙ sym (of-body contents c.args.tree.now _ (ap (body_of contents) c.in-Logic.is ∙ exprbody-logic contents c.in-Logic.op c.in-Logic.parts))

pub has_aggregate-returns-in-Chain : goal.has_aggregate-returns-in-Chain
unfolding token
has_aggregate-returns-in-Chain t c = λ contents.
    part-and _ _ _ _ (got contents c.has_aggregate-in-Chain.result c.get-in-Chain.result.now c.in-Chain.first (c.has_aggregate-in-Chain.ensures contents) c.get-in-Chain.ensures)
    (c.any_step_aggregates.ensures contents ∙ ap (λ (steps : List ExprStep). list_any step_aggregates (map (step_of contents) steps)) c.as_slice-in-Chain.ensures ∙ steps-are (map (step_of contents) c.in-Chain.steps))
    ∙ sym (of-body contents c.args.tree.now _ (ap (body_of contents) c.in-Chain.is ∙ exprbody-chain contents c.in-Chain.first c.in-Chain.steps))

pub has_aggregate-returns-in-Compared : goal.has_aggregate-returns-in-Compared
unfolding token
has_aggregate-returns-in-Compared t c = λ contents.
    two-parts _ _ _ _ (got contents c.has_aggregate-in-Compared.result c.get-in-Compared.result.now c.in-Compared.first (c.has_aggregate-in-Compared.ensures contents) c.get-in-Compared.ensures)
    (got contents c.has_aggregate-in-Compared-2.result c.get-in-Compared-2.result.now c.in-Compared.second (c.has_aggregate-in-Compared-2.ensures contents) c.get-in-Compared-2.ensures)
    ∙ sym (of-body contents c.args.tree.now _ (ap (body_of contents) c.in-Compared.is ∙ exprbody-compared contents c.in-Compared.op c.in-Compared.first c.in-Compared.second))

pub has_aggregate-returns-in-Like : goal.has_aggregate-returns-in-Like
unfolding token
has_aggregate-returns-in-Like t c = λ contents.
    two-parts _ _ _ _ (got contents c.has_aggregate-in-Like.result c.get-in-Like.result.now c.in-Like.text (c.has_aggregate-in-Like.ensures contents) c.get-in-Like.ensures)
    (got contents c.has_aggregate-in-Like-2.result c.get-in-Like-2.result.now c.in-Like.pattern (c.has_aggregate-in-Like-2.ensures contents) c.get-in-Like-2.ensures)
    ∙ sym (of-body contents c.args.tree.now _ (ap (body_of contents) c.in-Like.is ∙ exprbody-like contents c.in-Like.negated c.in-Like.text c.in-Like.pattern))

pub has_aggregate-returns-in-Between : goal.has_aggregate-returns-in-Between
unfolding token
has_aggregate-returns-in-Between t c = λ contents.
    three-parts _ _ _ _ _ _ (got contents c.has_aggregate-in-Between.result c.get-in-Between.result.now c.in-Between.part (c.has_aggregate-in-Between.ensures contents) c.get-in-Between.ensures)
    (got contents c.has_aggregate-in-Between-2.result c.get-in-Between-2.result.now c.in-Between.low (c.has_aggregate-in-Between-2.ensures contents) c.get-in-Between-2.ensures)
    (got contents c.has_aggregate-in-Between-3.result c.get-in-Between-3.result.now c.in-Between.high (c.has_aggregate-in-Between-3.ensures contents) c.get-in-Between-3.ensures)
    ∙ sym (of-body contents c.args.tree.now _ (ap (body_of contents) c.in-Between.is ∙ exprbody-between contents c.in-Between.negated c.in-Between.part c.in-Between.low c.in-Between.high))

pub has_aggregate-returns-in-InList : goal.has_aggregate-returns-in-InList
unfolding token
has_aggregate-returns-in-InList t c = λ contents.
    part-and _ _ _ _ (got contents c.has_aggregate-in-InList.result c.get-in-InList.result.now c.in-InList.part (c.has_aggregate-in-InList.ensures contents) c.get-in-InList.ensures)
    (c.any_aggregates-in-InList.ensures contents ∙ ap (λ (trees : List ExprTree). list_any is_aggregating (map (part_of contents) trees)) c.as_slice-in-InList.ensures)
    ∙ sym (of-body contents c.args.tree.now _ (ap (body_of contents) c.in-InList.is ∙ exprbody-inlist contents c.in-InList.negated c.in-InList.part c.in-InList.list))

pub has_aggregate-returns-in-InQuery : goal.has_aggregate-returns-in-InQuery
unfolding token
has_aggregate-returns-in-InQuery t c = λ contents.
    one-part _ _ (got contents c.has_aggregate-in-InQuery.result c.get-in-InQuery.result.now c.in-InQuery.part (c.has_aggregate-in-InQuery.ensures contents) c.get-in-InQuery.ensures)
    ∙ sym (of-body contents c.args.tree.now _ (ap (body_of contents) c.in-InQuery.is ∙ exprbody-inquery contents c.in-InQuery.negated c.in-InQuery.part c.in-InQuery.query))

pub has_aggregate-returns-in-Quantified : goal.has_aggregate-returns-in-Quantified
unfolding token
has_aggregate-returns-in-Quantified t c = λ contents.
    one-part _ _ (got contents c.has_aggregate-in-Quantified.result c.get-in-Quantified.result.now c.in-Quantified.part (c.has_aggregate-in-Quantified.ensures contents) c.get-in-Quantified.ensures)
    ∙ sym (of-body contents c.args.tree.now _ (ap (body_of contents) c.in-Quantified.is ∙ exprbody-quantified contents c.in-Quantified.every c.in-Quantified.op c.in-Quantified.part c.in-Quantified.query))

pub has_aggregate-returns-in-IsNull : goal.has_aggregate-returns-in-IsNull
unfolding token
has_aggregate-returns-in-IsNull t c = λ contents.
    one-part _ _ (got contents c.has_aggregate-in-IsNull.result c.get-in-IsNull.result.now c.in-IsNull.part (c.has_aggregate-in-IsNull.ensures contents) c.get-in-IsNull.ensures)
    ∙ sym (of-body contents c.args.tree.now _ (ap (body_of contents) c.in-IsNull.is ∙ exprbody-isnull contents c.in-IsNull.negated c.in-IsNull.part))

pub has_aggregate-returns-in-IsTruth : goal.has_aggregate-returns-in-IsTruth
unfolding token
has_aggregate-returns-in-IsTruth t c = λ contents.
    one-part _ _ (got contents c.has_aggregate-in-IsTruth.result c.get-in-IsTruth.result.now c.in-IsTruth.part (c.has_aggregate-in-IsTruth.ensures contents) c.get-in-IsTruth.ensures)
    ∙ sym (of-body contents c.args.tree.now _ (ap (body_of contents) c.in-IsTruth.is ∙ exprbody-istruth contents c.in-IsTruth.negated c.in-IsTruth.truth c.in-IsTruth.part))

pub has_aggregate-returns-in-IsDistinct : goal.has_aggregate-returns-in-IsDistinct
unfolding token
has_aggregate-returns-in-IsDistinct t c = λ contents.
    two-parts _ _ _ _ (got contents c.has_aggregate-in-IsDistinct.result c.get-in-IsDistinct.result.now c.in-IsDistinct.first (c.has_aggregate-in-IsDistinct.ensures contents) c.get-in-IsDistinct.ensures)
    (got contents c.has_aggregate-in-IsDistinct-2.result c.get-in-IsDistinct-2.result.now c.in-IsDistinct.second (c.has_aggregate-in-IsDistinct-2.ensures contents) c.get-in-IsDistinct-2.ensures)
    ∙ sym (of-body contents c.args.tree.now _ (ap (body_of contents) c.in-IsDistinct.is ∙ exprbody-isdistinct contents c.in-IsDistinct.negated c.in-IsDistinct.first c.in-IsDistinct.second))

pub has_aggregate-returns-in-Coalesce : goal.has_aggregate-returns-in-Coalesce
unfolding token
has_aggregate-returns-in-Coalesce t c = λ contents.
    (c.any_aggregates-in-Coalesce.ensures contents ∙ ap (λ (trees : List ExprTree). list_any is_aggregating (map (part_of contents) trees)) c.as_slice-in-Coalesce.ensures)
    ∙ sym (of-body contents c.args.tree.now _ (ap (body_of contents) c.in-Coalesce.is ∙ exprbody-coalesce contents c.in-Coalesce.list))

pub has_aggregate-returns-in-NullIf : goal.has_aggregate-returns-in-NullIf
unfolding token
has_aggregate-returns-in-NullIf t c = λ contents.
    two-parts _ _ _ _ (got contents c.has_aggregate-in-NullIf.result c.get-in-NullIf.result.now c.in-NullIf.first (c.has_aggregate-in-NullIf.ensures contents) c.get-in-NullIf.ensures)
    (got contents c.has_aggregate-in-NullIf-2.result c.get-in-NullIf-2.result.now c.in-NullIf.second (c.has_aggregate-in-NullIf-2.ensures contents) c.get-in-NullIf-2.ensures)
    ∙ sym (of-body contents c.args.tree.now _ (ap (body_of contents) c.in-NullIf.is ∙ exprbody-nullif contents c.in-NullIf.first c.in-NullIf.second))

pub has_aggregate-returns-in-Exists : goal.has_aggregate-returns-in-Exists
unfolding token
has_aggregate-returns-in-Exists t c = λ contents.
    sym (of-body contents c.args.tree.now _ (ap (body_of contents) c.in-Exists.is ∙ exprbody-exists contents c.in-Exists.field-0))

pub has_aggregate-returns-in-Scalar : goal.has_aggregate-returns-in-Scalar
unfolding token
has_aggregate-returns-in-Scalar t c = λ contents.
    sym (of-body contents c.args.tree.now _ (ap (body_of contents) c.in-Scalar.is ∙ exprbody-scalar contents c.in-Scalar.field-0))

pub any_step_aggregates-loop-step-preserved : goal.any_step_aggregates-loop-step-preserved
any_step_aggregates-loop-step-preserved t c = λ contents.
    part-and _ _ _ _ (c.loop-step.invariant contents) (c.has_aggregate-found.ensures contents ∙ step-is contents c.step-item.result)
    ∙ sym (any-more step_aggregates (step_of contents) c.args.steps.now c.loop-step.step-index c.step-item.result c.loop-step-test.true c.step-item.is)

pub any_arm_aggregates-loop-arm-preserved : goal.any_arm_aggregates-loop-arm-preserved
any_arm_aggregates-loop-arm-preserved t c = λ contents.
    part-and _ _ _ _ (c.loop-arm.invariant contents)
    (two-parts _ _ _ _ (c.has_aggregate.ensures contents) (c.has_aggregate-in-loop-arm.ensures contents) ∙ arm-is contents c.arm-item.result)
    ∙ sym (any-flat-more is_aggregating arm_parts (arm_of contents) c.args.arms.now c.loop-arm.arm-index c.arm-item.result c.loop-arm-test.true c.arm-item.is)

pub has_aggregate-returns-in-Case : goal.has_aggregate-returns-in-Case
unfolding token
has_aggregate-returns-in-Case t c = λ contents.
    case-is contents c.args.tree.now c.in-Case.arms c.in-Case.otherwise c.any_arm_aggregates.result c.otherwise_aggregates.result c.in-Case.is
    (c.any_arm_aggregates.ensures contents ∙ ap (λ (arms : List ArmTree). list_any is_aggregating (flat_map arm_parts (map (arm_of contents) arms))) c.as_slice-in-Case.ensures)
    (c.otherwise_aggregates.ensures contents)

pub has_aggregate-returns-in-Aggregate : goal.has_aggregate-returns-in-Aggregate
unfolding token
has_aggregate-returns-in-Aggregate t c = λ contents.
    aggregate-is contents c.args.tree.now c.in-Aggregate.function c.in-Aggregate.argument c.in-Aggregate.is
