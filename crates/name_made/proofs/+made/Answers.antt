use Rattle.std.specs.Prelude.{◌≡◌, ℕ, suc, ◌+◌, Bool, true, false, cond, not, List, [], ◌∷◌, ◌++◌, map, Some, None, option_map, IfOk}
use Rattle.std.proofs.Common.{refl, ap, sym, subst, ◌∙◌, take, arith, rules}
use Rattle.std.proofs.lemmas.List.{take_all, map-append}
use Rattle.null_logic.specs.declared.compare.Compare.TheVariants.{Equal, NotEqual}
use Rattle.bag_algebra.specs.declared.expr.Arm.{Arm}
use Rattle.bag_algebra.specs.declared.expr.ChainStep.{ChainStep}
use Rattle.bag_algebra.specs.declared.expr.Expr.{Expr}
use Rattle.bag_algebra.specs.declared.expr.Expr.TheVariants.{Lit, Op, Chain, Case, IsNull, IsTruth, Same}
use Rattle.perm_values.specs.declared.kind.Kind.{Kind}
use Rattle.name_meaning.specs.Expressions.{StepPart, ArmPart, in_kind, negated_if, times}
use Rattle.name_meaning.specs.Meanings.{Surroundings, means_at, query_means_at}
use Rattle.name_meaning.specs.Operands.{Operand, gives_of, need_of, node, operand, wanted_of}
use Rattle.name_meaning.specs.Sublinks.{around_of, aggregated, exists_meant, if_standing, in_argument, in_tested, null_at, rows_counted, scalar_meant}
use Rattle.name_meaning.specs.Trees.{arm_of, part_of, query_of, step_of, core_of, set_of_tree, from_item_of, from_of, join_of}
use Rattle.name_meaning.specs.declared.need.Gives.TheVariants.{Common}
use Rattle.name_meaning.specs.declared.need.Need.TheVariants.{Alike, OfKind}
use Rattle.name_seen_parts.specs.Named.{scopes_of, here_only}
use Rattle.name_seen_parts.specs.Standing.{surroundings, around_beside, around_of as standing_of}
use Rattle.sql_tree.specs.Regular.{is_lateral}
use Rattle.sql_tree.specs.declared.query.Core.{the_lemmas}
use Rattle.name_meaning.specs.nodes.Makes.{Links, Makes, MakesArms, MakesMore, MakesSteps, before_of, with_sub, MakesQuery}
use Rattle.name_meaning.proofs.ArmsMade.{behind-others, next-arm-made, next-step-made, operand-one}
use Rattle.name_meaning.proofs.FormsMade.{aggregate-form, arm-is, between-form, case-else-form, case-form, chain-form, coalesce-form, column-form, compared-form, count-form, distinct-form, exists-form, in-list-form, in-query-form, integer-form, like-form, logic-form, nots-form, null-form, null-of-form, null-test-form, nullif-form, paren-form, quantified-form, scalar-form, signs-form, step-is, text-form, told, truth-form, truth-test-form}
use Rattle.name_meaning.proofs.Linking.{aggregated-made, tested-made, untested-made}
use Rattle.name_meaning.proofs.Parts.{more-more, node-made}
use Rattle.name_meaning.specs.Queries.{may_not_ask}
use Rattle.name_made_parts.proofs.Coring.{core-none, core-some, clauses-made, item-so, none-kept, some-kept, star-is, table-star-is, value-is}
use Rattle.name_made_parts.proofs.Querying.{chain-made, chain-of-one, core-is, paren-is, query-is}
use Rattle.null_logic.specs.declared.operator.Operator.TheVariants as x
use Rattle.perm_values.specs.declared.kind.Kind.TheVariants as kind
use Rattle.perm_values.specs.declared.value.Value.TheVariants as v
use Rattle.perm_values.proofs.Lists.{map-taken}
use Rattle.perm_values.proofs.Results.{where_made}
use Rattle.name_meaning.specs.Cores.{group_scope}
use Rattle.name_meaning.specs.Froms.{first_item, in_clause, in_from, join_all, optional_meant, FromMeant, FromPart}
use Rattle.name_meaning.specs.declared.scope.Scope.{Scope}
use Rattle.bag_algebra.specs.declared.query.Aggr.{Aggr}
use Rattle.sql_tree.specs.declared.query.Core.{out-Core}
use Rattle.sql_tree.specs.declared.query.SetStep.{SetStep}
use Rattle.sql_tree.specs.declared.source.FromTree.{out-FromTree}
use Rattle.sql_tree.specs.declared.source.JoinStep.{JoinStep}
use Rattle.name_meaning.proofs.ItemLists.{value-listed}
use Rattle.name_made_parts.specs.Cored.{Keeps, MakesClauses, MakesList, having_part, kept_of, select_parts, sources_meant}
use Rattle.name_made_parts.specs.Sources.{JoinsMade, MakesSource, SourcesMade, join_count}
use Rattle.name_made_parts.proofs.Sourcing.{first-made, item-inner, item-named, no-sources, own-stands, source-more, sources-made}
use Rattle.bag_algebra.specs.declared.query.Query.{Query}
use Rattle.name_seen.proofs.FromTrees.{from-means}
use Rattle.name_made.proofs.Chaining.{ChainMade, chain-step}
use Rattle.name_made.proofs.Standing.{from-count, items-more, of-on, step-more, tree-join, tree-lateral}
use Rattle.name_made.proofs.OfResults.{from-one, of-beside, of-both, of-both-is, of-one, of-one-is, of-three-is}
use Rattle.name_made.proofs.+made.Goals as goal

pub expressions::made-returns-in-Null : goal.expressions::made-returns-in-Null
expressions::made-returns-in-Null t c =
    rw c.null_at.ensures (null-form c.args.here.now.catalog.now (surroundings c.args.here.now) c.args.here.now.standing.sublinks c.args.tree.now c.args.wanted c.args.found.now c.in-Null.is)

pub expressions::made-returns-in-NullOf : goal.expressions::made-returns-in-NullOf
expressions::made-returns-in-NullOf t c =
    rw c.null_at-in-NullOf.ensures (null-of-form c.args.here.now.catalog.now (surroundings c.args.here.now) c.args.here.now.standing.sublinks c.args.tree.now c.args.wanted c.in-NullOf.kind c.args.found.now c.in-NullOf.is)

pub expressions::made-returns-in-Integer : goal.expressions::made-returns-in-Integer
expressions::made-returns-in-Integer t c =
    rw c.integer_read.ensures (integer-form c.args.here.now.catalog.now (surroundings c.args.here.now) c.args.here.now.standing.sublinks c.args.tree.now c.args.wanted c.in-Integer.number c.args.found.now c.in-Integer.is)

pub expressions::made-returns-in-Text : goal.expressions::made-returns-in-Text
expressions::made-returns-in-Text t c =
    told c.args.here.now.standing.sublinks (means_at (part_of c.args.here.now.catalog.now c.args.tree.now) (surroundings c.args.here.now)) c.args.wanted (Lit (v.Text c.in-Text.text) kind.Text) c.args.found.now c.args.found.now c.text_value.result c.text_value.ensures
    (text-form c.args.here.now.catalog.now (surroundings c.args.here.now) c.args.here.now.standing.sublinks c.args.tree.now c.args.wanted c.in-Text.text c.args.found.now c.in-Text.is)

pub expressions::made-returns-in-Truth : goal.expressions::made-returns-in-Truth
expressions::made-returns-in-Truth t c =
    rw c.truth_value.ensures (truth-form c.args.here.now.catalog.now (surroundings c.args.here.now) c.args.here.now.standing.sublinks c.args.tree.now c.args.wanted c.in-Truth.truth c.args.found.now c.in-Truth.is)

pub expressions::made-returns-in-Column : goal.expressions::made-returns-in-Column
expressions::made-returns-in-Column t c =
    column-form c.args.here.now.catalog.now (surroundings c.args.here.now) c.args.here.now.standing.sublinks c.args.tree.now c.args.wanted c.in-Column.reference c.look_up-meant.result c.column_made.result c.args.found.now c.in-Column.is c.look_up-meant.ensures
    (c.column_made.ensures (surroundings c.args.here.now) c.in-Column.reference.at (before_of c.args.found.now))

pub expressions::made-returns-in-Paren : goal.expressions::made-returns-in-Paren
expressions::made-returns-in-Paren t c =
    where_made (λ e. Makes c.args.here.now.standing.sublinks (means_at (part_of c.args.here.now.catalog.now c.in-Paren.part) (surroundings c.args.here.now)) c.args.wanted e c.args.found.now c.made.new.found) (λ e. Makes c.args.here.now.standing.sublinks (means_at (part_of c.args.here.now.catalog.now c.args.tree.now) (surroundings c.args.here.now)) c.args.wanted e c.args.found.now c.made.new.found) c.made.result
    (λ e makes. paren-form c.args.here.now.catalog.now (surroundings c.args.here.now) c.args.here.now.standing.sublinks c.args.tree.now c.in-Paren.part c.args.wanted e c.args.found.now c.made.new.found c.in-Paren.is makes) (rw c.get.ensures at c.made.ensures)

pub expressions::made-returns-in-Nots : goal.expressions::made-returns-in-Nots
expressions::made-returns-in-Nots t c =
    of-one-is _ (times x.Not c.in-Nots.count) _ c.made-part.result c.repeated.result (rw c.get-in-Nots.ensures at c.made-part.ensures) c.repeated.ensures
    (λ part makes. nots-form c.args.here.now.catalog.now (surroundings c.args.here.now) c.args.here.now.standing.sublinks c.args.tree.now c.in-Nots.part c.in-Nots.count c.args.wanted part c.args.found.now c.made-part.new.found c.in-Nots.is makes)

pub expressions::made-returns-in-Signs : goal.expressions::made-returns-in-Signs
expressions::made-returns-in-Signs t c =
    of-one-is _ (times x.Negate c.in-Signs.count) _ c.made-part-in-Signs.result c.repeated-in-Signs.result (rw c.get-in-Signs.ensures at c.made-part-in-Signs.ensures) c.repeated-in-Signs.ensures
    (λ part makes. signs-form c.args.here.now.catalog.now (surroundings c.args.here.now) c.args.here.now.standing.sublinks c.args.tree.now c.in-Signs.part c.in-Signs.count c.args.wanted part c.args.found.now c.made-part-in-Signs.new.found c.in-Signs.is makes)

pub expressions::made-returns-in-Logic : goal.expressions::made-returns-in-Logic
expressions::made-returns-in-Logic t c =
    where_made (λ e. Makes c.args.here.now.standing.sublinks (node (gives_of c.in-Logic.op false) (Op c.in-Logic.op) (map (operand (surroundings c.args.here.now) (need_of c.in-Logic.op false)) (map (part_of c.args.here.now.catalog.now) c.in-Logic.parts))) c.args.wanted e c.args.found.now c.operator_made.new.found)
    (λ e. Makes c.args.here.now.standing.sublinks (means_at (part_of c.args.here.now.catalog.now c.args.tree.now) (surroundings c.args.here.now)) c.args.wanted e c.args.found.now c.operator_made.new.found) c.operator_made.result
    (λ e makes. logic-form c.args.here.now.catalog.now (surroundings c.args.here.now) c.args.here.now.standing.sublinks c.args.tree.now c.in-Logic.parts c.in-Logic.op c.args.wanted e c.args.found.now c.operator_made.new.found c.in-Logic.is makes)
    (rw (c.need_of-need.ensures, c.gives_of-gives.ensures, c.as_slice.ensures) at c.operator_made.ensures)

pub expressions::made-returns-in-Coalesce : goal.expressions::made-returns-in-Coalesce
expressions::made-returns-in-Coalesce t c =
    where_made (λ e. Makes c.args.here.now.standing.sublinks (node Common (Op x.Coalesce) (map (operand (surroundings c.args.here.now) Alike) (map (part_of c.args.here.now.catalog.now) c.in-Coalesce.list))) c.args.wanted e c.args.found.now c.operator_made-in-Coalesce.new.found)
    (λ e. Makes c.args.here.now.standing.sublinks (means_at (part_of c.args.here.now.catalog.now c.args.tree.now) (surroundings c.args.here.now)) c.args.wanted e c.args.found.now c.operator_made-in-Coalesce.new.found) c.operator_made-in-Coalesce.result
    (λ e makes. coalesce-form c.args.here.now.catalog.now (surroundings c.args.here.now) c.args.here.now.standing.sublinks c.args.tree.now c.in-Coalesce.list c.args.wanted e c.args.found.now c.operator_made-in-Coalesce.new.found c.in-Coalesce.is makes)
    (rw c.as_slice-in-Coalesce.ensures at c.operator_made-in-Coalesce.ensures)

pub expressions::made-returns-in-Chain : goal.expressions::made-returns-in-Chain
expressions::made-returns-in-Chain t c =
    of-both-is _ _ Chain _ c.made-first.result c.steps_made-steps.result c.chained.result (rw c.get-in-Chain.ensures at c.made-first.ensures) (rw c.as_slice-in-Chain-2.ensures at c.steps_made-steps.ensures) c.chained.ensures
    (λ first steps one more. chain-form c.args.here.now.catalog.now (surroundings c.args.here.now) c.args.here.now.standing.sublinks c.args.tree.now c.in-Chain.first c.in-Chain.steps c.args.wanted c.chain_start.result first steps c.args.found.now _ _ c.in-Chain.is
    (rw c.as_slice-in-Chain.ensures at (c.chain_start.ensures c.args.here.now.catalog.now)) one more)

pub expressions::made-returns-in_ok-alike-in-Compared : goal.expressions::made-returns-in_ok-alike-in-Compared
expressions::made-returns-in_ok-alike-in-Compared t c =
    of-both-is _ _ (λ first second. Op (x.Compare c.in-Compared.op) (first ∷ second ∷ [])) _ c.made-first-in-Compared.result c.made-second.result c.on_two.result
    (rw c.get-first.ensures at c.made-first-in-Compared.ensures) (rw c.get-second.ensures at c.made-second.ensures) c.on_two.ensures
    (λ first second one two. compared-form c.args.here.now.catalog.now (surroundings c.args.here.now) c.args.here.now.standing.sublinks c.args.tree.now c.in-Compared.first c.in-Compared.second c.in-Compared.op c.args.wanted c.in_ok-alike-in-Compared.alike (first ∷ []) (first ∷ second ∷ []) c.args.found.now _ _ c.in-Compared.is
    (rw (c.get-first.ensures, c.get-second.ensures) at c.in_ok-alike-in-Compared.ensures)
    (operand-one c.args.here.now.standing.sublinks c.in_ok-alike-in-Compared.alike Alike (part_of c.args.here.now.catalog.now c.in-Compared.first) (surroundings c.args.here.now) [] first _ _ one) (operand-one c.args.here.now.standing.sublinks c.in_ok-alike-in-Compared.alike Alike (part_of c.args.here.now.catalog.now c.in-Compared.second) (surroundings c.args.here.now) (first ∷ []) second _ _ two))

pub expressions::operands_made-loop-tree-preserved : goal.expressions::operands_made-loop-tree-preserved
expressions::operands_made-loop-tree-preserved t c =
    let here = c.args.here.now in
    let alike = c.args.alike in
    let os = map (operand (surroundings here) c.args.need) (map (part_of here.catalog.now) (take c.loop-tree.tree-index c.args.trees.now)) in
    let part = part_of here.catalog.now c.tree-item.result in
    from-one _ _ _ c.made-part.result (rw c.wanted_of.ensures at c.made-part.ensures) c.in_ok-parts.ensures
    (λ e makes is.
    subst (λ (es : List Expr). MakesMore here.standing.sublinks alike (map (operand (surroundings here) c.args.need) (map (part_of here.catalog.now) (take (c.loop-tree.tree-index + 1) c.args.trees.now))) [] es c.args.found.now c.made-part.new.found) (sym is)
    (subst (λ (os : List Operand). MakesMore here.standing.sublinks alike os [] (c.loop-tree.parts ++ e ∷ []) c.args.found.now c.made-part.new.found)
    (sym (ap (map (operand (surroundings here) c.args.need)) (map-taken (part_of here.catalog.now) c.args.trees.now c.loop-tree.tree-index c.tree-item.result c.loop-tree-test.true c.tree-item.is)
    ∙ map-append (operand (surroundings here) c.args.need) (map (part_of here.catalog.now) (take c.loop-tree.tree-index c.args.trees.now)) (part ∷ [])))
    (more-more here.standing.sublinks alike os (operand (surroundings here) c.args.need part ∷ []) [] c.loop-tree.parts (c.loop-tree.parts ++ e ∷ []) c.args.found.now c.loop-tree.found c.made-part.new.found c.loop-tree.invariant
    (operand-one here.standing.sublinks alike c.args.need part (surroundings here) c.loop-tree.parts e c.loop-tree.found c.made-part.new.found makes))))

pub expressions::operator_made-returns : goal.expressions::operator_made-returns
expressions::operator_made-returns t c =
    let here = c.args.here.now in
    of-one-is _ (Op c.args.op) _ c.operands_made-parts.result c.on_parts.result c.operands_made-parts.ensures c.on_parts.ensures.made
    (λ parts makes. node-made here.standing.sublinks c.args.gives (Op c.args.op) (map (operand (surroundings here) c.args.need) (map (part_of here.catalog.now) c.args.trees.now)) c.args.wanted parts c.args.found.now c.operands_made-parts.new.found
    (rw c.in_ok-alike.ensures at makes))

pub expressions::steps_made-loop-step-preserved : goal.expressions::steps_made-loop-step-preserved
expressions::steps_made-loop-step-preserved t c =
    let here = c.args.here.now in
    let steps = map (step_of here.catalog.now) (take c.loop-step.step-index c.args.steps.now) in
    let step : StepPart = record { op = c.step-item.result.op; part = part_of here.catalog.now c.step-item.result.part } in
    λ alike.
    from-one _ _ _ c.step_of.result c.step_of.ensures.made c.in_ok-made_steps.ensures
    (λ item made_of all_is. from-one _ _ _ c.made-part.result c.made-part.ensures made_of
    (λ part makes item_is.
    subst (λ (parts : List StepPart). MakesSteps here.standing.sublinks alike (surroundings here) parts c.in_ok-made_steps.made_steps c.args.found.now c.made-part.new.found)
    (sym (map-taken (step_of here.catalog.now) c.args.steps.now c.loop-step.step-index c.step-item.result c.loop-step-test.true c.step-item.is ∙ ap (λ (s : StepPart). steps ++ s ∷ []) (step-is here.catalog.now c.step-item.result)))
    (subst (λ (made : List ChainStep). MakesSteps here.standing.sublinks alike (surroundings here) (steps ++ step ∷ []) made c.args.found.now c.made-part.new.found)
    (sym (all_is ∙ ap (λ (s : ChainStep). c.loop-step.made_steps ++ s ∷ []) item_is))
    (next-step-made here.standing.sublinks alike (surroundings here) steps step c.loop-step.made_steps part c.args.found.now c.loop-step.found c.made-part.new.found (c.loop-step.invariant alike) makes))))

pub expressions::steps_made-returns : goal.expressions::steps_made-returns
expressions::steps_made-returns t c =
    λ alike. rw (take_all c.loop-step.step-index c.args.steps.now c.loop-step-test.false) at (c.loop-step.invariant alike)

pub expressions::arms_made-loop-arm-preserved : goal.expressions::arms_made-loop-arm-preserved
expressions::arms_made-loop-arm-preserved t c =
    let here = c.args.here.now in
    let alike = c.args.alike in
    let arms = map (arm_of here.catalog.now) (take c.loop-arm.arm-index c.args.arms.now) in
    let arm : ArmPart = record { condition = part_of here.catalog.now c.arm-item.result.condition; value = part_of here.catalog.now c.arm-item.result.value } in
    from-one _ _ _ c.arm_of.result c.arm_of.ensures.made c.in_ok-made_arms.ensures
    (λ item made_of all_is. from-one _ _ _ c.made-condition.result c.made-condition.ensures made_of
    (λ condition tests rest. from-one _ _ _ c.made-value.result c.made-value.ensures rest
    (λ value makes item_is.
    subst (λ (parts : List ArmPart). MakesArms here.standing.sublinks alike (surroundings here) parts c.in_ok-made_arms.made_arms c.args.found.now c.made-value.new.found)
    (sym (map-taken (arm_of here.catalog.now) c.args.arms.now c.loop-arm.arm-index c.arm-item.result c.loop-arm-test.true c.arm-item.is ∙ ap (λ (a : ArmPart). arms ++ a ∷ []) (arm-is here.catalog.now c.arm-item.result)))
    (subst (λ (made : List Arm). MakesArms here.standing.sublinks alike (surroundings here) (arms ++ arm ∷ []) made c.args.found.now c.made-value.new.found)
    (sym (all_is ∙ ap (λ (a : Arm). c.loop-arm.made_arms ++ a ∷ []) item_is))
    (next-arm-made here.standing.sublinks alike (surroundings here) arms arm c.loop-arm.made_arms condition value c.args.found.now c.loop-arm.found c.made-condition.new.found c.made-value.new.found c.loop-arm.invariant tests makes)))))

pub expressions::aggregated-returns : goal.expressions::aggregated-returns
expressions::aggregated-returns t c =
    let here = c.args.here.now in
    let unlinked : c.in_argument.result.sublinks ≡ false = ap (λ (s : Surroundings). s.sublinks) (c.in_argument.ensures (scopes_of here.scopes.now)) in
    let made = rw (c.ungrouped-scopes.ensures, c.in_argument.ensures (scopes_of here.scopes.now), unlinked, c.argument_wanted.ensures, c.nothing-own.ensures) at c.made-part.ensures in
    let kind = rw (c.ungrouped-scopes.ensures, c.in_argument.ensures (scopes_of here.scopes.now)) at c.in_ok-kind.ensures in
    of-one _ _ _ c.made-part.result c.aggregate_of.result made (c.aggregate_of.ensures (surroundings here) (sym c.group_count.ensures.value))
    (λ part e makes built at argument_at wanted. aggregated-made here.standing.sublinks (surroundings here) at argument_at c.args.word (means_at (part_of here.catalog.now c.args.argument.now) (in_argument (surroundings here))) wanted part e _ c.args.found.now c.aggregate_of.new.found makes (rw kind at built))

pub expressions::linked-returns : goal.expressions::linked-returns
expressions::linked-returns t c =
    let here = c.args.here.now in
    of-one _ _ _ c.query_made-query.result c.sublink_of.result c.query_made-query.ensures c.sublink_of.ensures
    (λ query e makes linked. record {
      expr = linked.0;
      found = λ whole. linked.1 ∙ ap (λ (q : Query). with_sub c.args.found.now (record { kind = c.args.kind; tested = c.args.tested; query = q })) (makes.makes whole);
    })

pub expressions::tested_made-returns : goal.expressions::tested_made-returns
expressions::tested_made-returns t c =
    let unlinked : c.in_tested.result.sublinks ≡ false = ap (λ (s : Surroundings). s.sublinks) (c.in_tested.ensures (scopes_of c.args.here.now.scopes.now)) in
    rw (c.in_tested.ensures (scopes_of c.args.here.now.scopes.now), unlinked) at c.made.ensures

pub expressions::made-returns-in-Exists : goal.expressions::made-returns-in-Exists
expressions::made-returns-in-Exists t c =
    where_made (λ e. (at query_at : ℕ) (wanted : Kind) → Makes c.args.here.now.standing.sublinks (if_standing (surroundings c.args.here.now) at (Some kind.Boolean) (exists_meant (surroundings c.args.here.now) query_at (query_means_at (query_of c.args.here.now.catalog.now c.in-Exists.query) (around_of (surroundings c.args.here.now))))) wanted e c.args.found.now c.exists_made.new.found)
    (λ e. Makes c.args.here.now.standing.sublinks (means_at (part_of c.args.here.now.catalog.now c.args.tree.now) (surroundings c.args.here.now)) c.args.wanted e c.args.found.now c.exists_made.new.found) c.exists_made.result
    (λ e makes. exists-form c.args.here.now.catalog.now (surroundings c.args.here.now) c.args.here.now.standing.sublinks c.args.tree.now c.in-Exists.query c.args.wanted e c.args.found.now c.exists_made.new.found c.in-Exists.is (λ at query_at. makes at query_at c.args.wanted))
    (rw c.get-in-Exists.ensures at c.exists_made.ensures)

pub expressions::made-returns-in-Scalar : goal.expressions::made-returns-in-Scalar
expressions::made-returns-in-Scalar t c =
    where_made (λ e. (at query_at : ℕ) → Makes c.args.here.now.standing.sublinks (if_standing (surroundings c.args.here.now) at None (scalar_meant (surroundings c.args.here.now) query_at (query_means_at (query_of c.args.here.now.catalog.now c.in-Scalar.query) (around_of (surroundings c.args.here.now))))) c.args.wanted e c.args.found.now c.scalar_made.new.found)
    (λ e. Makes c.args.here.now.standing.sublinks (means_at (part_of c.args.here.now.catalog.now c.args.tree.now) (surroundings c.args.here.now)) c.args.wanted e c.args.found.now c.scalar_made.new.found) c.scalar_made.result
    (λ e makes. scalar-form c.args.here.now.catalog.now (surroundings c.args.here.now) c.args.here.now.standing.sublinks c.args.tree.now c.in-Scalar.query c.args.wanted e c.args.found.now c.scalar_made.new.found c.in-Scalar.is makes)
    (rw c.get-in-Scalar.ensures at c.scalar_made.ensures)

pub expressions::made-returns-in-Like : goal.expressions::made-returns-in-Like
expressions::made-returns-in-Like t c =
    of-both-is _ _ (λ first second. negated_if c.in-Like.negated (Op x.Like (first ∷ second ∷ []))) _ c.made-text.result c.made-pattern.result c.like.result
    (rw c.get-in-Like.ensures at c.made-text.ensures) (rw c.get-in-Like-2.ensures at c.made-pattern.ensures) c.like.ensures
    (λ first second one two. like-form c.args.here.now.catalog.now (surroundings c.args.here.now) c.args.here.now.standing.sublinks c.args.tree.now c.in-Like.text c.in-Like.pattern c.in-Like.negated c.args.wanted (first ∷ []) (first ∷ second ∷ []) c.args.found.now _ _ c.in-Like.is
    (operand-one c.args.here.now.standing.sublinks kind.Text (OfKind kind.Text) (part_of c.args.here.now.catalog.now c.in-Like.text) (surroundings c.args.here.now) [] first _ _ one) (operand-one c.args.here.now.standing.sublinks kind.Text (OfKind kind.Text) (part_of c.args.here.now.catalog.now c.in-Like.pattern) (surroundings c.args.here.now) (first ∷ []) second _ _ two))

pub expressions::made-returns-in_ok-alike-in-Between : goal.expressions::made-returns-in_ok-alike-in-Between
expressions::made-returns-in_ok-alike-in-Between t c =
    of-three-is _ _ _ (λ part low high. negated_if c.in-Between.negated (Op x.Between (part ∷ low ∷ high ∷ []))) _ c.made-part-in-Between.result c.made-low.result c.made-high.result c.between.result
    (rw c.get-part.ensures at c.made-part-in-Between.ensures) (rw c.get-low.ensures at c.made-low.ensures) (rw c.get-high.ensures at c.made-high.ensures) c.between.ensures
    (λ part low high one two three. between-form c.args.here.now.catalog.now (surroundings c.args.here.now) c.args.here.now.standing.sublinks c.args.tree.now c.in-Between.part c.in-Between.low c.in-Between.high c.in-Between.negated c.args.wanted c.in_ok-alike-in-Between.alike (part ∷ []) (part ∷ low ∷ []) (part ∷ low ∷ high ∷ []) c.args.found.now _ _ _ c.in-Between.is
    (rw (c.get-part.ensures, c.get-low.ensures, c.get-high.ensures) at c.in_ok-alike-in-Between.ensures)
    (operand-one c.args.here.now.standing.sublinks c.in_ok-alike-in-Between.alike Alike (part_of c.args.here.now.catalog.now c.in-Between.part) (surroundings c.args.here.now) [] part _ _ one) (operand-one c.args.here.now.standing.sublinks c.in_ok-alike-in-Between.alike Alike (part_of c.args.here.now.catalog.now c.in-Between.low) (surroundings c.args.here.now) (part ∷ []) low _ _ two)
    (operand-one c.args.here.now.standing.sublinks c.in_ok-alike-in-Between.alike Alike (part_of c.args.here.now.catalog.now c.in-Between.high) (surroundings c.args.here.now) (part ∷ low ∷ []) high _ _ three))

pub expressions::made-returns-in_ok-alike-in-InList : goal.expressions::made-returns-in_ok-alike-in-InList
expressions::made-returns-in_ok-alike-in-InList t c =
    let os = map (operand (surroundings c.args.here.now) Alike) (map (part_of c.args.here.now.catalog.now) c.in-InList.list) in
    of-both-is _ _ (λ part list. negated_if c.in-InList.negated (Op x.InList (part ∷ list))) _ c.made-part-in-InList.result c.operands_made-list.result c.in_list.result
    (rw c.get-part-in-InList.ensures at c.made-part-in-InList.ensures) (rw c.as_slice-list.ensures at c.operands_made-list.ensures) c.in_list.ensures
    (λ part list one more. in-list-form c.args.here.now.catalog.now (surroundings c.args.here.now) c.args.here.now.standing.sublinks c.args.tree.now c.in-InList.part c.in-InList.list c.in-InList.negated c.args.wanted c.in_ok-alike-in-InList.alike (part ∷ []) (part ∷ list) c.args.found.now _ _ c.in-InList.is
    (rw (c.get-part-in-InList.ensures, c.as_slice-list.ensures) at c.in_ok-alike-in-InList.ensures)
    (operand-one c.args.here.now.standing.sublinks c.in_ok-alike-in-InList.alike Alike (part_of c.args.here.now.catalog.now c.in-InList.part) (surroundings c.args.here.now) [] part _ _ one) (behind-others c.args.here.now.standing.sublinks c.in_ok-alike-in-InList.alike os (part ∷ []) list _ _ more))

pub expressions::made-returns-in-IsNull : goal.expressions::made-returns-in-IsNull
expressions::made-returns-in-IsNull t c =
    of-one-is _ (λ part. negated_if c.in-IsNull.negated (IsNull part)) _ c.made-part-in-IsNull.result c.null_tested.result (rw c.get-in-IsNull.ensures at c.made-part-in-IsNull.ensures) c.null_tested.ensures
    (λ part makes. null-test-form c.args.here.now.catalog.now (surroundings c.args.here.now) c.args.here.now.standing.sublinks c.args.tree.now c.in-IsNull.part c.in-IsNull.negated c.args.wanted part c.args.found.now _ c.in-IsNull.is makes)

pub expressions::made-returns-in-IsTruth : goal.expressions::made-returns-in-IsTruth
expressions::made-returns-in-IsTruth t c =
    of-one-is _ (λ part. negated_if c.in-IsTruth.negated (IsTruth c.in-IsTruth.truth part)) _ c.made-part-in-IsTruth.result c.truth_tested.result (rw c.get-in-IsTruth.ensures at c.made-part-in-IsTruth.ensures) c.truth_tested.ensures
    (λ part makes. truth-test-form c.args.here.now.catalog.now (surroundings c.args.here.now) c.args.here.now.standing.sublinks c.args.tree.now c.in-IsTruth.part c.in-IsTruth.negated c.in-IsTruth.truth c.args.wanted part c.args.found.now _ c.in-IsTruth.is makes)

pub expressions::made-returns-in_ok-alike-in-IsDistinct : goal.expressions::made-returns-in_ok-alike-in-IsDistinct
expressions::made-returns-in_ok-alike-in-IsDistinct t c =
    of-both-is _ _ (λ first second. negated_if (not c.in-IsDistinct.negated) (Same first second)) _ c.made-first-in-IsDistinct.result c.made-second-in-IsDistinct.result c.same_tested.result
    (rw c.get-first-in-IsDistinct.ensures at c.made-first-in-IsDistinct.ensures) (rw c.get-second-in-IsDistinct.ensures at c.made-second-in-IsDistinct.ensures) c.same_tested.ensures
    (λ first second one two. distinct-form c.args.here.now.catalog.now (surroundings c.args.here.now) c.args.here.now.standing.sublinks c.args.tree.now c.in-IsDistinct.first c.in-IsDistinct.second c.in-IsDistinct.negated c.args.wanted c.in_ok-alike-in-IsDistinct.alike first second c.args.found.now _ _ c.in-IsDistinct.is
    (rw (c.get-first-in-IsDistinct.ensures, c.get-second-in-IsDistinct.ensures) at c.in_ok-alike-in-IsDistinct.ensures) one two)

pub expressions::made-returns-in_ok-alike-in-NullIf : goal.expressions::made-returns-in_ok-alike-in-NullIf
expressions::made-returns-in_ok-alike-in-NullIf t c =
    of-both-is _ _ (λ first second. Op x.NullIf (first ∷ second ∷ [])) _ c.made-first-in-NullIf.result c.made-second-in-NullIf.result c.on_two-in-NullIf.result
    (rw c.get-first-in-NullIf.ensures at c.made-first-in-NullIf.ensures) (rw c.get-second-in-NullIf.ensures at c.made-second-in-NullIf.ensures) c.on_two-in-NullIf.ensures
    (λ first second one two. nullif-form c.args.here.now.catalog.now (surroundings c.args.here.now) c.args.here.now.standing.sublinks c.args.tree.now c.in-NullIf.first c.in-NullIf.second c.args.wanted c.in_ok-alike-in-NullIf.alike (first ∷ []) (first ∷ second ∷ []) c.args.found.now _ _ c.in-NullIf.is
    (rw (c.get-first-in-NullIf.ensures, c.get-second-in-NullIf.ensures) at c.in_ok-alike-in-NullIf.ensures)
    (operand-one c.args.here.now.standing.sublinks c.in_ok-alike-in-NullIf.alike Alike (part_of c.args.here.now.catalog.now c.in-NullIf.first) (surroundings c.args.here.now) [] first _ _ one) (operand-one c.args.here.now.standing.sublinks c.in_ok-alike-in-NullIf.alike Alike (part_of c.args.here.now.catalog.now c.in-NullIf.second) (surroundings c.args.here.now) (first ∷ []) second _ _ two))

pub expressions::made-returns-in_ok-alike-in-None : goal.expressions::made-returns-in_ok-alike-in-None
expressions::made-returns-in_ok-alike-in-None t c =
    of-one-is _ (λ arms. Case arms c.null_at-in-None.result) _ c.arms_made-arms.result c.case.result (rw c.as_slice-arms.ensures at c.arms_made-arms.ensures) c.case.ensures
    (λ arms makes. rw c.null_at-in-None.ensures
    (case-form c.args.here.now.catalog.now (surroundings c.args.here.now) c.args.here.now.standing.sublinks c.args.tree.now c.in-Case.arms c.args.wanted c.in_ok-alike-in-None.alike arms c.args.found.now _ (rw c.in-None.is at c.in-Case.is)
    (rw c.as_slice-arms.ensures at c.in_ok-alike-in-None.ensures) makes))

pub expressions::made-returns-in_ok-alike-in-Some : goal.expressions::made-returns-in_ok-alike-in-Some
expressions::made-returns-in_ok-alike-in-Some t c =
    of-both-is _ _ Case _ c.arms_made-arms-in-Some.result c.made-otherwise.result c.case-in-Some.result (rw c.as_slice-arms-in-Some.ensures at c.arms_made-arms-in-Some.ensures) (rw c.get-part-in-Some.ensures at c.made-otherwise.ensures) c.case-in-Some.ensures
    (λ arms otherwise makes last. case-else-form c.args.here.now.catalog.now (surroundings c.args.here.now) c.args.here.now.standing.sublinks c.args.tree.now c.in-Some.part c.in-Case.arms c.args.wanted c.in_ok-alike-in-Some.alike arms otherwise c.args.found.now _ _ (rw c.in-Some.is at c.in-Case.is)
    (rw (c.as_slice-arms-in-Some.ensures, c.get-part-in-Some.ensures) at c.in_ok-alike-in-Some.ensures) makes last)

pub expressions::made-returns-in-None-argument : goal.expressions::made-returns-in-None-argument
expressions::made-returns-in-None-argument t c =
    where_made (λ e. (may_link : Bool) (at : ℕ) (wanted : Kind) → Makes may_link (rows_counted (surroundings c.args.here.now) at c.in-Aggregate.function) wanted e c.args.found.now c.count_made.new.found) (λ e. Makes c.args.here.now.standing.sublinks (means_at (part_of c.args.here.now.catalog.now c.args.tree.now) (surroundings c.args.here.now)) c.args.wanted e c.args.found.now c.count_made.new.found) c.count_made.result
    (λ e makes. count-form c.args.here.now.catalog.now (surroundings c.args.here.now) c.args.here.now.standing.sublinks c.args.tree.now c.in-Aggregate.function c.args.wanted e c.args.found.now c.count_made.new.found (rw c.in-None-argument.is at c.in-Aggregate.is) (makes c.args.here.now.standing.sublinks c.args.tree.now.at c.args.wanted))
    (c.count_made.ensures (surroundings c.args.here.now) (sym c.group_count.ensures.value))

pub expressions::made-returns-in-Some-argument : goal.expressions::made-returns-in-Some-argument
expressions::made-returns-in-Some-argument t c =
    where_made (λ e. (at argument_at : ℕ) (wanted : Kind) → Makes c.args.here.now.standing.sublinks (aggregated (surroundings c.args.here.now) at c.in-Aggregate.function argument_at (means_at (part_of c.args.here.now.catalog.now c.in-Some-argument.argument) (in_argument (surroundings c.args.here.now)))) wanted e c.args.found.now c.aggregated.new.found) (λ e. Makes c.args.here.now.standing.sublinks (means_at (part_of c.args.here.now.catalog.now c.args.tree.now) (surroundings c.args.here.now)) c.args.wanted e c.args.found.now c.aggregated.new.found) c.aggregated.result
    (λ e makes. aggregate-form c.args.here.now.catalog.now (surroundings c.args.here.now) c.args.here.now.standing.sublinks c.args.tree.now c.in-Some-argument.argument c.in-Aggregate.function c.args.wanted e c.args.found.now c.aggregated.new.found (rw c.in-Some-argument.is at c.in-Aggregate.is) (λ at argument_at. makes at argument_at c.args.wanted))
    (rw c.get-in-Some-argument.ensures at c.aggregated.ensures)

pub expressions::made-returns-then-not-here : goal.expressions::made-returns-then-not-here
expressions::made-returns-then-not-here t c =
    rw c.null_at-then-not-here.ensures (in-query-form c.args.here.now.catalog.now (surroundings c.args.here.now) c.args.here.now.standing.sublinks c.args.tree.now c.in-InQuery.part c.in-InQuery.query c.in-InQuery.negated c.args.wanted _ c.args.found.now c.args.found.now c.in-InQuery.is
    (untested-made (surroundings c.args.here.now) c.args.tree.now.at (in_kind c.in-InQuery.negated (cond c.in-InQuery.negated NotEqual Equal)) (part_of c.args.here.now.catalog.now c.in-InQuery.part) (query_of c.args.here.now.catalog.now c.in-InQuery.query) c.args.wanted _ c.args.found.now c.if-not-here.true))

pub expressions::made-returns-in_ok-tested-in-InQuery : goal.expressions::made-returns-in_ok-tested-in-InQuery
expressions::made-returns-in_ok-tested-in-InQuery t c =
    where_made (λ e. Links (in_kind c.in-InQuery.negated (cond c.in-InQuery.negated NotEqual Equal)) (Some c.in_ok-tested-in-InQuery.tested) (query_means_at (query_of c.args.here.now.catalog.now c.in-InQuery.query) (around_of (surroundings c.args.here.now))) (c.in_ok-kind-in-InQuery.kind ∷ []) e _ c.linked.new.found) (λ e. Makes c.args.here.now.standing.sublinks (means_at (part_of c.args.here.now.catalog.now c.args.tree.now) (surroundings c.args.here.now)) c.args.wanted e c.args.found.now c.linked.new.found) c.linked.result
    (λ e links. in-query-form c.args.here.now.catalog.now (surroundings c.args.here.now) c.args.here.now.standing.sublinks c.args.tree.now c.in-InQuery.part c.in-InQuery.query c.in-InQuery.negated c.args.wanted e c.args.found.now c.linked.new.found c.in-InQuery.is
    (tested-made (surroundings c.args.here.now) c.args.tree.now.at (in_kind c.in-InQuery.negated (cond c.in-InQuery.negated NotEqual Equal)) (part_of c.args.here.now.catalog.now c.in-InQuery.part) (query_of c.args.here.now.catalog.now c.in-InQuery.query) c.in_ok-kind-in-InQuery.kind c.args.wanted e c.in_ok-tested-in-InQuery.tested c.args.found.now _ c.linked.new.found c.if-not-here.false
    (rw (c.get-part-in-InQuery.ensures, c.get-query.ensures) at c.in_ok-kind-in-InQuery.ensures) (rw c.get-part-in-InQuery.ensures at c.in_ok-tested-in-InQuery.ensures) links))
    (rw (c.in_list_kind-sub.ensures, c.get-query.ensures) at c.linked.ensures)

pub expressions::made-returns-then-not-here-2 : goal.expressions::made-returns-then-not-here-2
expressions::made-returns-then-not-here-2 t c =
    rw c.null_at-then-not-here-2.ensures (quantified-form c.args.here.now.catalog.now (surroundings c.args.here.now) c.args.here.now.standing.sublinks c.args.tree.now c.in-Quantified.part c.in-Quantified.query c.in-Quantified.every c.in-Quantified.op c.args.wanted _ c.args.found.now c.args.found.now c.in-Quantified.is
    (untested-made (surroundings c.args.here.now) c.args.tree.now.at (in_kind c.in-Quantified.every c.in-Quantified.op) (part_of c.args.here.now.catalog.now c.in-Quantified.part) (query_of c.args.here.now.catalog.now c.in-Quantified.query) c.args.wanted _ c.args.found.now c.if-not-here-2.true))

pub expressions::made-returns-in_ok-tested-in-Quantified : goal.expressions::made-returns-in_ok-tested-in-Quantified
expressions::made-returns-in_ok-tested-in-Quantified t c =
    where_made (λ e. Links (in_kind c.in-Quantified.every c.in-Quantified.op) (Some c.in_ok-tested-in-Quantified.tested) (query_means_at (query_of c.args.here.now.catalog.now c.in-Quantified.query) (around_of (surroundings c.args.here.now))) (c.in_ok-kind-in-Quantified.kind ∷ []) e _ c.linked-in-Quantified.new.found) (λ e. Makes c.args.here.now.standing.sublinks (means_at (part_of c.args.here.now.catalog.now c.args.tree.now) (surroundings c.args.here.now)) c.args.wanted e c.args.found.now c.linked-in-Quantified.new.found) c.linked-in-Quantified.result
    (λ e links. quantified-form c.args.here.now.catalog.now (surroundings c.args.here.now) c.args.here.now.standing.sublinks c.args.tree.now c.in-Quantified.part c.in-Quantified.query c.in-Quantified.every c.in-Quantified.op c.args.wanted e c.args.found.now c.linked-in-Quantified.new.found c.in-Quantified.is
    (tested-made (surroundings c.args.here.now) c.args.tree.now.at (in_kind c.in-Quantified.every c.in-Quantified.op) (part_of c.args.here.now.catalog.now c.in-Quantified.part) (query_of c.args.here.now.catalog.now c.in-Quantified.query) c.in_ok-kind-in-Quantified.kind c.args.wanted e c.in_ok-tested-in-Quantified.tested c.args.found.now _ c.linked-in-Quantified.new.found c.if-not-here-2.false
    (rw (c.get-part-in-Quantified.ensures, c.get-query-in-Quantified.ensures) at c.in_ok-kind-in-Quantified.ensures) (rw c.get-part-in-Quantified.ensures at c.in_ok-tested-in-Quantified.ensures) links))
    (rw (c.in_kind-sub.ensures, c.get-query-in-Quantified.ensures) at c.linked-in-Quantified.ensures)

pub queries::query_made-returns : goal.queries::query_made-returns
queries::query_made-returns t c =
    of-one _ _ _ c.set_made-body.result c.finished_of.result c.set_made-body.ensures c.finished_of.ensures
    (λ body q makes is. query-is c.args.around.now.catalog.now (standing_of c.args.around.now) c.args.tree.now c.args.wanted.now c.asks_provenance-with_provenance.result c.in_ok-keys.keys body q (c.asks_provenance-with_provenance.ensures c.args.around.now.catalog.now)
    c.in_ok-keys.ensures makes is)

pub queries::set_made-returns-in-Core : goal.queries::set_made-returns-in-Core
queries::set_made-returns-in-Core t c =
    where_made (MakesQuery ((core_of c.args.around.now.catalog.now c.in-Core.core).means (standing_of c.args.around.now)) c.args.wanted.now) (MakesQuery ((set_of_tree c.args.around.now.catalog.now c.args.tree.now).means (standing_of c.args.around.now)) c.args.wanted.now) c.core_made.result
    (λ q makes. core-is c.args.around.now.catalog.now (standing_of c.args.around.now) c.args.tree.now c.in-Core.core c.args.wanted.now q c.in-Core.is makes) (rw c.get.ensures at c.core_made.ensures)

pub queries::set_made-returns-in-Paren : goal.queries::set_made-returns-in-Paren
queries::set_made-returns-in-Paren t c =
    where_made (MakesQuery (query_means_at (query_of c.args.around.now.catalog.now c.in-Paren.query) (may_not_ask (standing_of c.args.around.now))) c.args.wanted.now) (MakesQuery ((set_of_tree c.args.around.now.catalog.now c.args.tree.now).means (standing_of c.args.around.now)) c.args.wanted.now) c.query_made.result
    (λ q makes. paren-is c.args.around.now.catalog.now (standing_of c.args.around.now) c.args.tree.now c.in-Paren.query c.args.wanted.now q c.in-Paren.is makes) (rw c.get-in-Paren.ensures at c.query_made.ensures)

pub queries::set_made-returns-in-Ok : goal.queries::set_made-returns-in-Ok
queries::set_made-returns-in-Ok t c =
    let held = c.args.around.now.catalog.now in
    let around = standing_of c.args.around.now in
    let first = c.in-Chain.first in
    let steps = c.in-Chain.steps in
    let kinds = c.in_ok-kinds-in-Chain.kinds in
    let whole = c.in-Ok.first in
    let of_first : MakesQuery ((set_of_tree held first).means around) kinds whole =
    subst (λ (ks : List Kind). MakesQuery ((set_of_tree held first).means around) ks whole) c.as_slice.ensures (rw c.get-before.ensures at c.in-Ok.ensures) in
    let of_steps = subst (λ (taken : List SetStep). IfOk c.chained-whole.result (ChainMade held around taken c.as_slice-in-Chain-2.result.now whole)) c.as_slice-in-Chain.ensures c.chained-whole.ensures in
    let of_kinds = subst (λ (ks : List Kind). IfOk c.chained-whole.result (ChainMade held around steps ks whole)) c.as_slice-in-Chain-2.ensures of_steps in
    where_made (ChainMade held around steps kinds whole) (MakesQuery ((set_of_tree held c.args.tree.now).means around) c.args.wanted.now) c.chained-whole.result
    (λ q makes. chain-made held around c.args.tree.now first steps c.args.wanted.now kinds q c.in-Chain.is
    (λ none. let never : false ≡ true = sym c.if-is_empty.false ∙ c.is_empty.ensures.1 none in absurd (cc)) c.in_ok-kinds-in-Chain.ensures
    (makes ((set_of_tree held first).means around) of_first)) of_kinds

pub cores::core_made-returns-in-None : goal.cores::core_made-returns-in-None
cores::core_made-returns-in-None t c =
    core-none c.args.around.now.catalog.now (standing_of c.args.around.now) c.args.core.now c.args.wanted.now _ (rw (c.as_slice.ensures, c.in-None.is) at c.in_ok-scope_or_none.ensures)

pub cores::core_made-returns-in-Some : goal.cores::core_made-returns-in-Some
cores::core_made-returns-in-Some t c =
    where_made _ (MakesQuery ((core_of c.args.around.now.catalog.now c.args.core.now).means (standing_of c.args.around.now)) c.args.wanted.now) c.over_items.result
    (λ q makes. core-some c.args.around.now.catalog.now (standing_of c.args.around.now) c.args.core.now c.in-Some.own c.args.wanted.now q (rw (c.as_slice.ensures, c.in-Some.is) at c.in_ok-scope_or_none.ensures) (makes (rw (c.as_slice.ensures, c.in-Some.is) at c.in_ok-scope_or_none.ensures))) c.over_items.ensures

pub queries::chained-loop-step-preserved : goal.queries::chained-loop-step-preserved
queries::chained-loop-step-preserved t c = λ meant of_first serves.
    from-one _ _ _ c.set_made-operand.result c.set_made-operand.ensures c.in_ok-whole.ensures
    (λ operand makes is. chain-step c.args.around.now.catalog.now (standing_of c.args.around.now) meant c.args.kinds.now c.args.steps.now c.loop-step.step-index c.step-item.result c.loop-step.whole operand c.in_ok-whole.whole
    c.loop-step-test.true c.step-item.is serves (c.loop-step.invariant meant of_first serves) makes is)

pub queries::chained-returns : goal.queries::chained-returns
queries::chained-returns t c = λ meant of_first serves.
    let made = rw (take_all c.loop-step.step-index c.args.steps.now c.loop-step-test.false) at (c.loop-step.invariant meant of_first serves) in
    made.makes serves.whole

pub cores::over_items-sources_made-input-requires : goal.cores::over_items-sources_made-input-requires
cores::over_items-sources_made-input-requires t c = (rw c.as_slice.ensures (search (rules, the_lemmas, c.decreases)), c.requires)

pub cores::over_items-returns : goal.cores::over_items-returns
cores::over_items-returns t c =
    let around = c.args.around.now in
    let held = around.catalog.now in
    let core = c.args.core.now in
    let scope = c.in_ok-scope.scope in
    of-both _ _ _ _ c.sources_made-input.result c.clauses_made-clauses.result c.core_of.result (rw c.as_slice.ensures at c.sources_made-input.ensures) c.clauses_made-clauses.ensures c.core_of.ensures
    (λ input clauses q of_input of_clauses is stands breaks items same.
    let scoped = c.in_ok-scope.ensures held ∙ ap (λ (s : Scope). group_scope s (out-Core core).groups (having_part held core) (select_parts held core)) same in
    clauses-made held (standing_of around) core breaks items scope c.args.wanted.now clauses input q scoped of_clauses
    (of_input stands.whole (own-stands (sources_meant held (standing_of around) core) c.args.own scope _ stands (c.in_ok-scope.ensures held))) is)

pub cores::clauses_made-returns : goal.cores::clauses_made-returns
cores::clauses_made-returns t c =
    let around = c.args.around.now in
    of-three-is _ _ _ (λ groups kept selected. record { condition = kept.condition; groups = groups; having = selected.0; list = selected.1; distinct = (out-Core c.args.core.now).distinct })
    (MakesClauses around.catalog.now (standing_of around) c.args.core.now c.args.scope.now c.args.wanted.now) c.groups_of-groups.result c.condition_made-kept.result c.selected_made-selected.result c.clauses_of.result
    c.groups_of-groups.ensures c.condition_made-kept.ensures c.selected_made-selected.ensures c.clauses_of.ensures.made
    (λ groups kept selected of_groups of_kept of_selected. record {
      kept = λ whole. (of_kept whole).condition;
      groups = of_groups;
      selected = of_selected;
      distinct = refl;
    })

pub cores::selected_made-returns : goal.cores::selected_made-returns
cores::selected_made-returns t c =
    let around = c.args.around.now in
    of-beside (λ made. made.0) (λ made. made.1) _ _ c.in_ok-kept.kept.condition c.list_made-list.result c.beside.result (rw c.as_slice.ensures at c.list_made-list.ensures) c.beside.ensures.first_kept c.beside.ensures.second_was
    (λ made is of_list. record {
      kept = λ whole. is ∙ (c.in_ok-kept.ensures whole).condition;
      listed = λ whole.
          subst (λ (aggregates : List Aggr). MakesList (standing_of around) c.args.scope.now (select_parts around.catalog.now c.args.core.now) c.args.wanted.now aggregates made.1)
          (c.in_ok-kept.ensures whole).aggregates of_list;
    })

pub cores::kept_made-returns : goal.cores::kept_made-returns
cores::kept_made-returns t c =
    let around = c.args.around.now in
    let scope = here_only (not c.args.in_groups) c.args.scope.now in
    let outer = scopes_of around.outer.now in
    let m = means_at (part_of around.catalog.now c.args.tree.now) (in_clause scope outer c.args.in_groups) in
    of-one-is _ (λ e. kept_of e c.made-expr.new.found) _ c.made-expr.result c.kept_of.result (rw (c.in_ok-scopes.ensures, c.in_clause.ensures scope outer, c.nothing-found.ensures) at c.made-expr.ensures) c.kept_of.ensures.made
    (λ e makes. some-kept _ m e c.made-expr.new.found makes)

pub cores::list_made-returns : goal.cores::list_made-returns
cores::list_made-returns t c =
    let around = c.args.around.now in
    let scope = c.args.scope.now in
    let outer = scopes_of around.outer.now in
    let links : c.in_clause.result.sublinks ≡ true = ap (λ (s : Surroundings). s.sublinks) (c.in_clause.ensures scope outer) in
    of-one-is _ (λ items. record { items = items; subs = c.items_made-made_items.new.found.subs; aggregates = c.items_made-made_items.new.found.aggregates }) _ c.items_made-made_items.result c.listed_of.result c.items_made-made_items.ensures c.listed_of.ensures.made
    (λ items makes has_from. rw (c.in-Ok.ensures, c.in_clause.ensures scope outer, links, c.behind_aggregates-found.ensures) at (makes has_from))

pub cores::items_made-loop-item-preserved : goal.cores::items_made-loop-item-preserved
cores::items_made-loop-item-preserved t c = λ has_from.
    let here = c.args.here.now in
    items-more here.catalog.now here.standing.sublinks has_from c.args.scope.now (surroundings here) c.args.items.now c.loop-item.item-index c.item-item.result c.args.wanted.now
    c.loop-item.made_items c.item_listed.new.items c.args.found.now c.loop-item.found c.item_listed.new.found c.loop-item-test.true c.item-item.is (c.loop-item.invariant has_from)
    (c.in-Ok.ensures has_from)

pub cores::items_made-returns : goal.cores::items_made-returns
cores::items_made-returns t c = λ has_from. rw (take_all c.loop-item.item-index c.args.items.now c.loop-item-test.false) at (c.loop-item.invariant has_from)

pub cores::item_listed-returns-in-Star : goal.cores::item_listed-returns-in-Star
cores::item_listed-returns-in-Star t c =
    let here = c.args.here.now in
    of-on _ _ c.add_star.result
    (λ makes has_from. item-so here.catalog.now c.args.item.now here.standing.sublinks has_from c.args.scope.now (surroundings here) _ _ c.args.items.now c.add_star.new.items c.args.found.now c.args.found.now
    (star-is here.catalog.now c.args.item.now c.in-Star.at has_from c.args.scope.now (surroundings here) c.in-Star.is) (makes here.standing.sublinks has_from c.in-Star.at _ c.args.found.now))
    c.add_star.ensures

pub cores::item_listed-returns-in-TableStar : goal.cores::item_listed-returns-in-TableStar
cores::item_listed-returns-in-TableStar t c =
    let here = c.args.here.now in
    of-on _ _ c.add_table_star.result
    (λ makes has_from. item-so here.catalog.now c.args.item.now here.standing.sublinks has_from c.args.scope.now (surroundings here) _ _ c.args.items.now c.add_table_star.new.items c.args.found.now c.args.found.now
    (table-star-is here.catalog.now c.args.item.now c.in-TableStar.table has_from c.args.scope.now (surroundings here) c.in-TableStar.is) (makes here.standing.sublinks _ c.args.found.now))
    c.add_table_star.ensures

pub cores::item_listed-returns-in_ok-kind-in-Value : goal.cores::item_listed-returns-in_ok-kind-in-Value
cores::item_listed-returns-in_ok-kind-in-Value t c =
    let here = c.args.here.now in
    let m = means_at (part_of here.catalog.now c.in-Value.expr) (surroundings here) in
    of-on _ _ c.add_value.result
    (λ added has_from. from-one _ _ _ c.made-expr.result c.made-expr.ensures added
    (λ e makes is. rw is
    (item-so here.catalog.now c.args.item.now here.standing.sublinks has_from c.args.scope.now (surroundings here) _ _ c.args.items.now _ c.args.found.now c.made-expr.new.found
    (value-is here.catalog.now c.args.item.now c.in-Value.expr c.in-Value.name has_from c.args.scope.now (surroundings here) c.in-Value.is)
    (value-listed here.standing.sublinks _ m _ c.in_ok-kind-in-Value.kind e c.args.items.now c.args.found.now c.made-expr.new.found (rw c.len.ensures.value at c.in_ok-kind-in-Value.ensures) makes))))
    c.add_value.ensures

pub sources::sources_made-loop-source-init : goal.sources::sources_made-loop-source-init
sources::sources_made-loop-source-init t c = no-sources (scopes_of c.args.around.now.outer.now) c.args.scope.now

pub sources::sources_made-loop-source-preserved : goal.sources::sources_made-loop-source-preserved
sources::sources_made-loop-source-preserved t c =
    let around = c.args.around.now in
    let outer = scopes_of around.outer.now in
    let part = from_of around.catalog.now in
    let tree = c.source-item.result in
    from-one _ _ _ c.source_made-next.result c.source_made-next.ensures c.in_ok-with_next.ensures
    (λ next makes is. rw c.in-Ok.ensures.next
    (subst (λ (parts : List FromPart). SourcesMade outer parts c.args.scope.now (Some c.in_ok-with_next.field-0) (c.loop-source.first + suc (join_count tree)))
    (sym (map-taken part c.args.sources.now c.loop-source.source-index tree c.loop-source-test.true c.source-item.is))
    (source-more outer (map part (take c.loop-source.source-index c.args.sources.now)) (part tree) c.args.scope.now c.loop-source.whole next c.in_ok-with_next.field-0 c.loop-source.first (join_count tree)
    c.loop-source.invariant makes (from-count around.catalog.now tree outer) is)))

pub sources::sources_made-returns : goal.sources::sources_made-returns
sources::sources_made-returns t c =
    let around = c.args.around.now in
    let parts = map (from_of around.catalog.now) c.args.sources.now in
    sources-made (scopes_of around.outer.now) parts c.args.scope.now c.loop-source.whole c.loop-source.first c.input_or_single.result
    (rw (take_all c.loop-source.source-index c.args.sources.now c.loop-source-test.false) at c.loop-source.invariant) c.input_or_single.ensures

pub sources::source_made-loop-place-init : goal.sources::source_made-loop-place-init
sources::source_made-loop-place-init t c = λ earlier.
    first-made earlier _ c.args.first c.args.scope.now c.in_ok-whole.whole
    ((rw (c.in_from.ensures.place, c.in_from.ensures.catalog) at c.in_ok-whole.ensures) earlier)

pub sources::join_made-returns-then-is_lateral : goal.sources::join_made-returns-then-is_lateral
sources::join_made-returns-then-is_lateral t c =
    let around = c.args.around.now in
    of-one _ _ _ c.beside_made-right.result c.with_lateral.result c.beside_made-right.ensures (rw c.join_kind.ensures at c.with_lateral.ensures)
    (λ right after of_right is. tree-lateral around.catalog.now (scopes_of around.outer.now) c.args.step.now c.args.first c.args.before c.args.scope.now c.args.whole right after
    (sym c.is_lateral.ensures ∙ c.if-is_lateral.true) of_right is)

pub sources::join_made-returns : goal.sources::join_made-returns
sources::join_made-returns t c =
    let around = c.args.around.now in
    of-both _ _ _ _ c.item_made-right.result c.on_made-kept.result c.with_right.result
    (rw (c.in_from.ensures.place, c.in_from.ensures.catalog) at c.item_made-right.ensures) c.on_made-kept.ensures (rw c.join_kind-2.ensures at c.with_right.ensures)
    (λ right kept after of_right of_kept is. tree-join around.catalog.now (scopes_of around.outer.now) c.args.step.now c.args.first c.args.before c.args.scope.now c.args.whole right after kept
    (sym c.is_lateral.ensures ∙ c.if-is_lateral.false) of_kept of_right is)

pub sources::beside_made-returns : goal.sources::beside_made-returns
sources::beside_made-returns t c =
    let around = c.args.around.now in
    let outer = scopes_of around.outer.now in
    where_made _ _ c.seeing_made-made.result
    (λ made makes items stands counted earlier.
    subst (λ (own : Scope). MakesSource ((from_item_of around.catalog.now c.args.item.now).means (around_beside (own ∷ outer)) earlier) made)
    (c.in_ok-own.ensures items stands counted) (makes earlier))
    c.seeing_made-made.ensures

pub sources::seeing_made-returns : goal.sources::seeing_made-returns
sources::seeing_made-returns t c = rw (c.lateral.ensures.place, c.lateral.ensures.catalog, c.in_ok-scopes.ensures) at c.item_made.ensures

pub sources::on_made-returns : goal.sources::on_made-returns
sources::on_made-returns t c =
    let around = c.args.around.now in
    let outer = scopes_of around.outer.now in
    let condition = option_map (part_of around.catalog.now) c.args.condition.now in
    let one = (rw c.in-Some.is at c.checked_add.ensures).1 in
    where_made _ _ c.condition_made-kept.result
    (λ kept keeps items stands counted.
    subst (λ (own : Scope). Keeps (optional_meant (in_clause (here_only true own) outer false) condition) kept)
    (c.in_ok-own.ensures items stands (omega (arith, counted, one))) keeps)
    c.condition_made-kept.ensures

pub sources::item_made-returns-in-Named : goal.sources::item_made-returns-in-Named
sources::item_made-returns-in-Named t c =
    let around = c.args.around.now in
    where_made _ _ c.named_item.result
    (λ made is. item-named around.catalog.now (standing_of around) c.args.item.now c.in-Named.name made c.in-Named.is is) c.named_item.ensures

pub sources::item_made-returns-in_ok-shown-in-Inner : goal.sources::item_made-returns-in_ok-shown-in-Inner
sources::item_made-returns-in_ok-shown-in-Inner t c =
    let around = c.args.around.now in
    let m = query_means_at (query_of around.catalog.now c.in-Inner.query) (standing_of around) in
    let shown = rw c.get-tree.ensures at c.in_ok-shown-in-Inner.ensures in
    of-one _ _ _ c.query_made-query.result c.marked_of.result (rw c.get-tree.ensures at c.query_made-query.ensures) c.marked_of.ensures
    (λ query made of_query is. item-inner around.catalog.now (standing_of around) c.args.item.now c.in-Inner.query made c.in-Inner.is (λ whole. is m whole shown (of_query.makes whole)))

pub sources::source_made-loop-place-preserved : goal.sources::source_made-loop-place-preserved
sources::source_made-loop-place-preserved t c = λ earlier.
    let around = c.args.around.now in
    let outer = scopes_of around.outer.now in
    let tree = c.args.source.now in
    let first = (from_item_of around.catalog.now (out-FromTree tree).first).means (in_from outer) earlier in
    step-more around.catalog.now outer (first_item earlier first) (out-FromTree tree).joins c.loop-place.place c.step-item.result c.args.first c.args.scope.now c.loop-place.whole c.in_ok-whole-2.whole
    (rw c.as_slice-step-items.ensures at c.loop-place-test.true) (rw c.as_slice-step-items.ensures at c.step-item.is) (c.loop-place.invariant earlier) c.in_ok-whole-2.ensures

pub sources::source_made-returns : goal.sources::source_made-returns
sources::source_made-returns t c = λ earlier whole stands.
    let around = c.args.around.now in
    let outer = scopes_of around.outer.now in
    let tree = c.args.source.now in
    let first = (from_item_of around.catalog.now (out-FromTree tree).first).means (in_from outer) earlier in
    let all = rw c.as_slice-step-items.ensures at c.loop-place-test.false in
    let made = subst (λ (m : FromMeant). JoinsMade m c.args.first c.args.scope.now c.loop-place.whole c.loop-place.place)
    (ap (λ (steps : List JoinStep). join_all outer (first_item earlier first) (map (join_of around.catalog.now) steps)) (take_all c.loop-place.place (out-FromTree tree).joins all)
    ∙ sym (from-means around.catalog.now tree outer earlier)) (c.loop-place.invariant earlier) in
    made.makes whole stands

pub cores::condition_made-returns-in-None : goal.cores::condition_made-returns-in-None
cores::condition_made-returns-in-None t c =
    rw (c.in-None.is, c.nothing_kept.ensures) (none-kept (in_clause c.args.scope.now (scopes_of c.args.around.now.outer.now) c.args.in_groups))

pub cores::condition_made-returns-in-Some : goal.cores::condition_made-returns-in-Some
unfolding means_at
cores::condition_made-returns-in-Some t c = rw c.in-Some.is c.kept_made.ensures

pub queries::set_made-returns-then-is_empty : goal.queries::set_made-returns-then-is_empty
queries::set_made-returns-then-is_empty t c =
    let held = c.args.around.now.catalog.now in
    let around = standing_of c.args.around.now in
    where_made (MakesQuery ((set_of_tree held c.in-Chain.first).means around) c.args.wanted.now) (MakesQuery ((set_of_tree held c.args.tree.now).means around) c.args.wanted.now) c.set_made.result
    (λ q makes. chain-of-one held around c.args.tree.now c.in-Chain.first c.in-Chain.steps c.args.wanted.now q c.in-Chain.is (c.is_empty.ensures.0 c.if-is_empty.true) makes) (rw c.get-before.ensures at c.set_made.ensures)
