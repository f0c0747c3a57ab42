-- Every regular tree is made well formed: each of its forms is, where its parts are.
use Rattle.std.specs.Prelude.{◌≡◌, ℕ, suc, false, List, [], ◌∷◌, map, Contains, Option, Some, None}
use Rattle.std.proofs.Common.{refl, sym, subst, arith}
use Rattle.std.specs.List.{AllByRecursion as Every}
use Rattle.perm_catalog.specs.Contents.{Contents}
use Rattle.perm_catalog.specs.Sound.{IsSound}
use Rattle.sql_tree.specs.Regular.{IsSeveral, RegularExpr, RegularBodyLayer, RegularStep, RegularArm, RegularQuery, RegularSetLayer, RegularSetStep, RegularCore, RegularItemLayer, RegularFrom, RegularJoin, RegularFromItem, RegularSourceLayer, BodyLayer, SetLayer, ItemLayer, SourceLayer, regular_expr, regular_null, regular_null_of, regular_integer, regular_text, regular_truth, regular_column, regular_paren, regular_nots, regular_signs, regular_logic, regular_chain, regular_compared, regular_like, regular_between, regular_in_list, regular_in_query, regular_quantified, regular_is_null, regular_is_truth, regular_is_distinct, regular_case, regular_coalesce, regular_null_if, regular_aggregate, regular_exists, regular_scalar, regular_step, regular_arm, regular_query, regular_set_core, regular_set_paren, regular_set_chain, regular_set_step, regular_core, regular_star, regular_table_star, regular_value, regular_from, regular_join_step, regular_from_item, regular_named, regular_inner}
use Rattle.sql_tree.specs.declared.expression.ArmTree.{ArmTree}
use Rattle.sql_tree.specs.declared.expression.ExprBody.{ExprBody, out-ExprBody}
use Rattle.sql_tree.specs.declared.expression.ExprBody.TheOpen.{SelectItem-F}
use Rattle.sql_tree.specs.declared.expression.ExprStep.{ExprStep}
use Rattle.sql_tree.specs.declared.expression.ExprTree.{ExprTree}
use Rattle.sql_tree.specs.declared.name.Name.{Name}
use Rattle.sql_tree.specs.declared.query.Core.{Core, out-Core}
use Rattle.sql_tree.specs.declared.query.QueryTree.{QueryTree}
use Rattle.sql_tree.specs.declared.query.SetStep.{SetStep}
use Rattle.sql_tree.specs.declared.source.FromItem.{FromItem}
use Rattle.sql_tree.specs.declared.source.FromTree.{FromTree, out-FromTree}
use Rattle.sql_tree.specs.declared.source.JoinStep.{JoinStep, out-JoinStep}
use Rattle.name_meaning.proofs.Equations.{SelectItemFrame}
use Rattle.name_meaning.specs.Cores.{BodyPart, has_some}
use Rattle.name_meaning.specs.Expressions.{Body}
use Rattle.name_meaning.specs.Froms.{from_all, first_item, in_from, source_step, scope_name, label_of, read_of}
use Rattle.name_meaning.specs.Items.{item_step, title}
use Rattle.name_meaning.specs.Meanings.{Surroundings, Part, Around, QueryPart, query_means_at}
use Rattle.name_meaning.specs.Queries.{SetStepPart, set_step, may_not_ask}
use Rattle.name_meaning.specs.Trees.{body_of, item_of, set_of_tree, source_of, arm_of, step_of, part_of, core_of, query_of, set_step_of, from_item_of, from_of, join_of}
use Rattle.name_meaning.proofs.Trees.{query-known, core-known}
use Rattle.name_meaning.proofs.Arms.{GoodStep, GoodArm, GoodOptional}
use Rattle.name_meaning.proofs.Bodies.{GoodQueryPart, FormParts, formed-body, plain-body}
use Rattle.name_meaning.proofs.CoreSteps.{FormedQuery, formed-core_seen}
use Rattle.name_meaning.proofs.Filled.{filled-map}
use Rattle.name_meaning.proofs.Froms.{GoodSource, GoodFromItem, GoodFromPart, GoodJoin, good-read_of, good-item_meant, good-first, good-join_all, good-from_all}
use Rattle.name_meaning.proofs.GoodMeant.{GoodMeant, GoodPart, IsPlain}
use Rattle.name_meaning.proofs.Items.{GoodItem, good-star, plain-star, good-table_star, plain-table_star, good-value, plain-value}
use Rattle.name_meaning.proofs.Opened.{CoreLayer, JoinLayer, shown_body, shown_item, shown_set, shown_source, shown_core, shown_join, opened_body, opened_item, opened_set, opened_source, opened_core, opened_from, opened_join, opened_expr, opened_arm, opened_step, opened_query, opened_set_step, opened_from_item}
use Rattle.name_meaning.proofs.Queries.{GoodBody, GoodBodyMeant, GoodQueryMeant, good-chain, good-query_seen}

-- ---- lists

-- what holds of the meaning of each holds of the meanings of all
pub all-meant : {X Y : Type 0} (P : Y → Type 0) (means : X → Y) (xs : List X) → ((x : X) → Contains xs x → P (means x)) → Every P (map means xs)
all-meant P means [] h = tt
all-meant P means (x ∷ xs) h = (
  h x (0, omega arith, refl),
  all-meant P means xs (λ y there. h y (suc there.0, (let l = there.1 in omega (arith, l)), there.2)),
)

several-meant : {X Y : Type 0} (means : X → Y) (xs : List X) → IsSeveral xs → IsSeveral (map means xs)
several-meant means [] h = h
several-meant means (x ∷ xs) h = filled-map means xs h

-- ---- steps that need no recursion

pub record GoodExprBody (body : Body) : Type 0 where
  pub formed : (at : ℕ) (here : Surroundings) → GoodMeant here (body.means at here)
  pub plain : body.aggregating ≡ false → (at : ℕ) (here : Surroundings) → IsPlain (body.means at here)

module _ (c : Contents) (sound : IsSound c) where
  part-of_body : (tree : ExprTree) → GoodExprBody (body_of c tree.body) → GoodPart (part_of c tree)
  part-of_body tree good = subst GoodPart (sym (opened_expr c tree)) (record { formed = good.formed tree.at; plain = λ e here. good.plain e tree.at here })

  body-of_layer : (body : ExprBody) → FormParts (shown_body c (out-ExprBody body)) → GoodExprBody (body_of c body)
  body-of_layer body parts = subst GoodExprBody (sym (opened_body c body)) (record {
    formed = formed-body (shown_body c (out-ExprBody body)) parts;
    plain = plain-body (shown_body c (out-ExprBody body)) parts;
  })

  good-of_query : (tree : QueryTree) → ((around : Around) → GoodQueryMeant around ((query_of c tree).means around)) → GoodQueryPart (query_of c tree)
  unfolding query_means_at
  good-of_query tree good around = record {
    known = query-known c tree around sound;
    formed = (good around).formed;
    places = (good around).places;
  }

  core-condition : (layer : CoreLayer) (o : Option ExprTree) → ((part : ExprTree) → o ≡ Some part → GoodPart (part_of c part))
      → GoodOptional (shown_core c (record layer { condition = o })).condition
  core-condition layer None h = tt
  core-condition layer (Some part) h = h part refl

  core-having : (layer : CoreLayer) (o : Option ExprTree) → ((part : ExprTree) → o ≡ Some part → GoodPart (part_of c part))
      → GoodOptional (shown_core c (record layer { having = o })).having
  core-having layer None h = tt
  core-having layer (Some part) h = h part refl

  join-condition : (layer : JoinLayer) (o : Option ExprTree) → ((part : ExprTree) → o ≡ Some part → GoodPart (part_of c part))
      → GoodOptional (shown_join c (record layer { condition = o })).condition
  join-condition layer None h = tt
  join-condition layer (Some part) h = h part refl

  core-of_parts : (core : Core) → Every GoodItem (shown_core c (out-Core core)).items → Every GoodFromPart (shown_core c (out-Core core)).sources
      → GoodOptional (shown_core c (out-Core core)).condition → GoodOptional (shown_core c (out-Core core)).having → GoodBody (core_of c core)
  core-of_parts core items sources condition having around =
      let frame = shown_core c (out-Core core) in
      record {
        known = core-known c core around sound;
        formed = subst (λ (body : BodyPart). FormedQuery around (body.means around)) (sym (opened_core c core))
            (formed-core_seen around frame.provenance (from_all around.outer frame.sources)
            (has_some frame.sources) frame.distinct frame.items frame.condition frame.groups frame.having
            (good-from_all around.outer frame.sources sources) items condition having);
      }

  paren-body : (query : QueryTree) (around : Around) → GoodQueryMeant (may_not_ask around) ((query_of c query).means (may_not_ask around))
      → GoodBodyMeant around ((query_of c query).means (may_not_ask around))
  unfolding query_means_at
  paren-body query around good = record { known = query-known c query (may_not_ask around) sound; formed = good.formed }

  abbrev value_frame : Option Name → Part → SelectItemFrame
  value_frame name part = SelectItem-F.Value part name

  value-item : (name : Option Name) (part : Part) → GoodPart part → GoodItem (item_step (value_frame name part))
  value-item name part good = record {
    formed = λ has_from scope outer here is. good-value (title name part) here (part.means here) (good.formed here);
    plain = λ e has_from scope here. plain-value (title name part) (part.means here) (good.plain e here);
  }

  item-of_source : (item : FromItem) → GoodSource c sound (source_of c item.source) → GoodFromItem (from_item_of c item)
  item-of_source item good = subst GoodFromItem (sym (opened_from_item c item))
      (λ around earlier. good-item_meant around.outer item.at item.mark earlier (scope_name (source_of c item.source) item.alias)
      (label_of (source_of c item.source) item.alias) (read_of c around (source_of c item.source))
      (good-read_of c sound around (source_of c item.source) good))

  -- ---- the recursion over what makes a tree regular

  mutual
    pub good-expr : {tree : ExprTree} → RegularExpr tree → GoodPart (part_of c tree)
    good-expr (regular_expr {tree = tree} regular) = part-of_body tree (body-of_layer tree.body (good-layer regular))

    good-layer : {layer : BodyLayer} → RegularBodyLayer layer → FormParts (shown_body c layer)
    good-layer regular_null = tt
    good-layer regular_null_of = tt
    good-layer (regular_integer positive) = tt
    good-layer regular_text = tt
    good-layer regular_truth = tt
    good-layer regular_column = tt
    good-layer (regular_paren part) = good-expr part
    good-layer (regular_nots some part) = good-expr part
    good-layer (regular_signs some part) = good-expr part
    good-layer (regular_logic {parts = parts} connective several each) = (
      connective,
      several-meant (part_of c) parts several,
      all-meant GoodPart (part_of c) parts (λ part in_parts. good-expr (each part in_parts)),
    )
    good-layer (regular_chain level {steps = steps} regular filled each) = (
      level,
      good-expr regular,
      filled-map (step_of c) steps filled,
      all-meant (GoodStep level) (step_of c) steps (λ step in_steps. good-step (each step in_steps)),
    )
    good-layer (regular_compared first second) = (good-expr first, good-expr second)
    good-layer (regular_like part pattern) = (good-expr part, good-expr pattern)
    good-layer (regular_between part low high) = (good-expr part, good-expr low, good-expr high)
    good-layer (regular_in_list {list = list} part filled each) = (
      good-expr part,
      filled-map (part_of c) list filled,
      all-meant GoodPart (part_of c) list (λ other in_list. good-expr (each other in_list)),
    )
    good-layer (regular_in_query {query = query} part q) = (good-expr part, good-of_query query (λ around. good-query q around))
    good-layer (regular_quantified {query = query} part q) = (good-expr part, good-of_query query (λ around. good-query q around))
    good-layer (regular_is_null part) = good-expr part
    good-layer (regular_is_truth part) = good-expr part
    good-layer (regular_is_distinct first second) = (good-expr first, good-expr second)
    good-layer (regular_case {arms = arms} {otherwise = None} filled each other) = (
      filled-map (arm_of c) arms filled,
      all-meant GoodArm (arm_of c) arms (λ arm in_arms. good-arm (each arm in_arms)),
      tt,
    )
    good-layer (regular_case {arms = arms} {otherwise = Some part} filled each other) = (
      filled-map (arm_of c) arms filled,
      all-meant GoodArm (arm_of c) arms (λ arm in_arms. good-arm (each arm in_arms)),
      good-expr (other part refl),
    )
    good-layer (regular_coalesce {list = list} filled each) = (
      filled-map (part_of c) list filled,
      all-meant GoodPart (part_of c) list (λ part in_list. good-expr (each part in_list)),
    )
    good-layer (regular_null_if first second) = (good-expr first, good-expr second)
    good-layer (regular_aggregate {argument = None} same each) = (same, tt)
    good-layer (regular_aggregate {argument = Some part} same each) = (same, good-expr (each part refl))
    good-layer (regular_exists {query = query} q) = good-of_query query (λ around. good-query q around)
    good-layer (regular_scalar {query = query} q) = good-of_query query (λ around. good-query q around)

    good-step : {level : ℕ} {step : ExprStep} → RegularStep level step → GoodStep level (step_of c step)
    good-step (regular_step {level = level} {tree = step} of_level part) =
        subst (GoodStep level) (sym (opened_step c step)) (good-expr part, of_level)

    good-arm : {arm : ArmTree} → RegularArm arm → GoodArm (arm_of c arm)
    good-arm (regular_arm {tree = arm} condition value) =
        subst GoodArm (sym (opened_arm c arm)) (good-expr condition, good-expr value)

    pub good-query : {tree : QueryTree} → RegularQuery tree → (around : Around) → GoodQueryMeant around ((query_of c tree).means around)
    good-query (regular_query {tree = tree} body order limit) around =
        subst (λ (query : QueryPart). GoodQueryMeant around (query.means around)) (sym (opened_query c tree))
        (good-query_seen around tree.at (set_of_tree c tree.body) tree.order tree.limit limit
        (subst GoodBody (sym (opened_set c tree.body)) (good-set body)))

    good-set : {layer : SetLayer} → RegularSetLayer layer → GoodBody (set_step (shown_set c layer))
    good-set (regular_set_core core) around = good-core core around
    good-set (regular_set_paren {query = query} q) around = paren-body query around (good-query q (may_not_ask around))
    good-set (regular_set_chain {first = first} {steps = steps} regular filled each) around =
        good-chain around ((set_of_tree c first).means around) (map (set_step_of c) steps)
        (subst GoodBody (sym (opened_set c first)) (good-set regular) around)
        (all-meant (λ (step : SetStepPart). GoodBody step.operand) (set_step_of c) steps (λ step in_steps. good-set_step (each step in_steps)))

    good-set_step : {step : SetStep} → RegularSetStep step → GoodBody (set_step_of c step).operand
    good-set_step (regular_set_step {step = step} regular) =
        subst (λ (part : SetStepPart). GoodBody part.operand) (sym (opened_set_step c step))
        (subst GoodBody (sym (opened_set c step.operand)) (good-set regular))

    good-core : {core : Core} → RegularCore core → GoodBody (core_of c core)
    good-core (regular_core {core = core} filled items sources condition having) =
        let layer = out-Core core in
        core-of_parts core
        (all-meant GoodItem (item_of c) layer.items (λ item in_items. subst GoodItem (sym (opened_item c item)) (good-item (items item in_items))))
        (all-meant GoodFromPart (from_of c) layer.sources (λ tree in_sources. good-from (sources tree in_sources)))
        (core-condition layer layer.condition (λ part is. good-expr (condition part is)))
        (core-having layer layer.having (λ part is. good-expr (having part is)))

    good-item : {layer : ItemLayer} → RegularItemLayer layer → GoodItem (item_step (shown_item c layer))
    good-item (regular_star {at = at}) = record {
      formed = λ has_from scope outer here is. good-star at has_from scope outer here is;
      plain = λ e has_from scope here. plain-star at has_from scope;
    }
    good-item (regular_table_star {table = table}) = record {
      formed = λ has_from scope outer here is. good-table_star table scope outer here is;
      plain = λ e has_from scope here. plain-table_star table scope;
    }
    good-item (regular_value {expr = expr} {name = name} regular) = value-item name (part_of c expr) (good-expr regular)

    pub good-from : {tree : FromTree} → RegularFrom tree → GoodFromPart (from_of c tree)
    good-from (regular_from {tree = tree} first joins) =
        let layer = out-FromTree tree in
        let item : GoodFromItem (from_item_of c layer.first) = good-from_item first in
        let steps : Every GoodJoin (map (join_of c) layer.joins) =
        all-meant GoodJoin (join_of c) layer.joins (λ step in_joins. good-join (joins step in_joins)) in
        subst GoodFromPart (sym (opened_from c tree))
        (λ outer earlier. good-join_all outer (first_item earlier ((from_item_of c layer.first).means (in_from outer) earlier))
        (map (join_of c) layer.joins)
        (good-first outer earlier ((from_item_of c layer.first).means (in_from outer) earlier) (item (in_from outer) earlier)) steps)

    good-join : {step : JoinStep} → RegularJoin step → GoodJoin (join_of c step)
    good-join (regular_join_step {step = step} same lateral item condition) =
        let layer = out-JoinStep step in
        subst GoodJoin (sym (opened_join c step))
        (good-from_item item, join-condition layer layer.condition (λ part is. good-expr (condition part is)))

    good-from_item : {item : FromItem} → RegularFromItem item → GoodFromItem (from_item_of c item)
    good-from_item (regular_from_item {item = item} regular mark) =
        item-of_source item (subst (GoodSource c sound) (sym (opened_source c item.source)) (good-source regular))

    good-source : {layer : SourceLayer} {alias : Option Name} → RegularSourceLayer layer alias → GoodSource c sound (source_step (shown_source c layer))
    good-source regular_named = tt
    good-source (regular_inner {query = query} q) = good-of_query query (λ around. good-query q around)
