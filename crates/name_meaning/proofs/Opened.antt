-- What a tree means, opened by one level.
use Rattle.std.specs.Prelude.{◌≡◌, ℕ, Bool, List, map, Option, Some, None, option_map}
use Rattle.std.proofs.Common.{sym, ap, ◌∙◌}
use Rattle.perm_catalog.specs.Contents.{Contents}
use Rattle.sql_tree.specs.Regular.{BodyLayer, ItemLayer, SetLayer, SourceLayer}
use Rattle.sql_tree.specs.declared.expression.ExprBody.{ExprBody, out-ExprBody}
use Rattle.sql_tree.specs.declared.query.SelectItem.{SelectItem, out-SelectItem}
use Rattle.sql_tree.specs.declared.query.SetTree.{SetTree, out-SetTree}
use Rattle.sql_tree.specs.declared.source.FromSource.{FromSource, out-FromSource}
use Rattle.sql_tree.specs.declared.expression.ArmTree.{ArmTree}
use Rattle.sql_tree.specs.declared.expression.ExprStep.{ExprStep}
use Rattle.sql_tree.specs.declared.expression.ExprTree.{ExprTree}
use Rattle.sql_tree.specs.declared.query.Core.{Core, out-Core, roll-Core}
use Rattle.sql_tree.specs.declared.query.QueryTree.{QueryTree}
use Rattle.sql_tree.specs.declared.query.SetStep.{SetStep}
use Rattle.sql_tree.specs.declared.source.FromItem.{FromItem}
use Rattle.sql_tree.specs.declared.source.FromTree.{FromTree, out-FromTree}
use Rattle.sql_tree.specs.declared.source.JoinStep.{JoinStep, out-JoinStep, roll-JoinStep}
use Rattle.sql_tree.specs.declared.expression.ExprBody.TheFolds.{map-ExprBody, map-SelectItem, map-SetTree, map-FromSource, map-Core, map-FromTree, map-JoinStep, fold-roll-ExprBody, fold-roll-SelectItem, fold-roll-SetTree, fold-roll-FromSource, fold-roll-ArmTree, fold-roll-ExprStep, fold-roll-ExprTree, fold-roll-Core, fold-roll-QueryTree, fold-roll-SetStep, fold-roll-FromItem, fold-roll-FromTree, fold-roll-JoinStep, map-ArmTree, map-ExprStep, map-ExprTree, map-QueryTree, map-SetStep, map-FromItem}
use Rattle.sql_tree.specs.declared.expression.ExprBody.TheOpen.{ArmTree-F, ExprStep-F, ExprTree-F, Core-F, QueryTree-F, SetStep-F, FromItem-F, FromTree-F, JoinStep-F}
use Rattle.sql_tree.specs.declared.expression.ExprBody.TheViews.{roll-out-ExprBody, roll-out-SelectItem, roll-out-SetTree, roll-out-FromSource, roll-out-Core, roll-out-FromTree, roll-out-JoinStep}
use Rattle.name_meaning.proofs.Equations.{ExprBodyFrame, SelectItemFrame, SetTreeFrame, FromSourceFrame, ArmTreeFrame, ExprStepFrame, ExprTreeFrame, CoreFrame, QueryTreeFrame, SetStepFrame, FromItemFrame, FromTreeFrame, JoinStepFrame, token, core-record-none-none, core-record-none-some, core-record-some-none, core-record-some-some, joinstep-record-none, joinstep-record-some}
use Rattle.name_meaning.specs.Cores.{BodyPart, core_step}
use Rattle.name_meaning.specs.Expressions.{Body, StepPart, ArmPart, body_step, arm_step, step_step, expr_step}
use Rattle.name_meaning.specs.Froms.{SourcePart, FromItemPart, FromPart, JoinPart, source_step, from_item_step, from_step, join_step}
use Rattle.name_meaning.specs.Items.{SelectPart, item_step}
use Rattle.name_meaning.specs.Meanings.{Part, QueryPart}
use Rattle.name_meaning.specs.Queries.{SetStepPart, set_step, set_step_step, query_step}
use Rattle.name_meaning.specs.Trees.{body_of, item_of, set_of_tree, source_of, arm_of, step_of, part_of, core_of, query_of, set_step_of, from_item_of, from_of, join_of}
use Rattle.sql_tree.specs.declared.name.ColRef.{ColRef}
use Rattle.sql_tree.specs.declared.source.JoinWord.{JoinWord}

abbrev pub shown_body : Contents → BodyLayer → ExprBodyFrame
shown_body c layer = map-ExprBody ExprBody SelectItem SetTree FromSource ArmTree ExprStep ExprTree Core QueryTree SetStep FromItem FromTree JoinStep
    Body SelectPart BodyPart SourcePart ArmPart StepPart Part BodyPart QueryPart SetStepPart FromItemPart FromPart JoinPart
    (body_of c) (item_of c) (set_of_tree c) (source_of c) (arm_of c) (step_of c) (part_of c) (core_of c) (query_of c) (set_step_of c) (from_item_of c) (from_of c) (join_of c) layer

pub opened_body : (c : Contents) (tree : ExprBody) → body_of c tree ≡ body_step (shown_body c (out-ExprBody tree))
unfolding body_of item_of set_of_tree source_of arm_of step_of part_of core_of query_of set_step_of from_item_of from_of join_of
opened_body c tree = ap (body_of c) (sym (roll-out-ExprBody tree)) ∙ fold-roll-ExprBody Body SelectPart BodyPart SourcePart ArmPart StepPart Part BodyPart QueryPart SetStepPart FromItemPart FromPart JoinPart
    body_step item_step set_step source_step arm_step step_step expr_step core_step query_step set_step_step (from_item_step c) from_step join_step (out-ExprBody tree)

abbrev pub shown_item : Contents → ItemLayer → SelectItemFrame
shown_item c layer = map-SelectItem ExprBody SelectItem SetTree FromSource ArmTree ExprStep ExprTree Core QueryTree SetStep FromItem FromTree JoinStep
    Body SelectPart BodyPart SourcePart ArmPart StepPart Part BodyPart QueryPart SetStepPart FromItemPart FromPart JoinPart
    (body_of c) (item_of c) (set_of_tree c) (source_of c) (arm_of c) (step_of c) (part_of c) (core_of c) (query_of c) (set_step_of c) (from_item_of c) (from_of c) (join_of c) layer

pub opened_item : (c : Contents) (tree : SelectItem) → item_of c tree ≡ item_step (shown_item c (out-SelectItem tree))
unfolding body_of item_of set_of_tree source_of arm_of step_of part_of core_of query_of set_step_of from_item_of from_of join_of
opened_item c tree = ap (item_of c) (sym (roll-out-SelectItem tree)) ∙ fold-roll-SelectItem Body SelectPart BodyPart SourcePart ArmPart StepPart Part BodyPart QueryPart SetStepPart FromItemPart FromPart JoinPart
    body_step item_step set_step source_step arm_step step_step expr_step core_step query_step set_step_step (from_item_step c) from_step join_step (out-SelectItem tree)

abbrev pub shown_set : Contents → SetLayer → SetTreeFrame
shown_set c layer = map-SetTree ExprBody SelectItem SetTree FromSource ArmTree ExprStep ExprTree Core QueryTree SetStep FromItem FromTree JoinStep
    Body SelectPart BodyPart SourcePart ArmPart StepPart Part BodyPart QueryPart SetStepPart FromItemPart FromPart JoinPart
    (body_of c) (item_of c) (set_of_tree c) (source_of c) (arm_of c) (step_of c) (part_of c) (core_of c) (query_of c) (set_step_of c) (from_item_of c) (from_of c) (join_of c) layer

pub opened_set : (c : Contents) (tree : SetTree) → set_of_tree c tree ≡ set_step (shown_set c (out-SetTree tree))
unfolding body_of item_of set_of_tree source_of arm_of step_of part_of core_of query_of set_step_of from_item_of from_of join_of
opened_set c tree = ap (set_of_tree c) (sym (roll-out-SetTree tree)) ∙ fold-roll-SetTree Body SelectPart BodyPart SourcePart ArmPart StepPart Part BodyPart QueryPart SetStepPart FromItemPart FromPart JoinPart
    body_step item_step set_step source_step arm_step step_step expr_step core_step query_step set_step_step (from_item_step c) from_step join_step (out-SetTree tree)

abbrev pub shown_source : Contents → SourceLayer → FromSourceFrame
shown_source c layer = map-FromSource ExprBody SelectItem SetTree FromSource ArmTree ExprStep ExprTree Core QueryTree SetStep FromItem FromTree JoinStep
    Body SelectPart BodyPart SourcePart ArmPart StepPart Part BodyPart QueryPart SetStepPart FromItemPart FromPart JoinPart
    (body_of c) (item_of c) (set_of_tree c) (source_of c) (arm_of c) (step_of c) (part_of c) (core_of c) (query_of c) (set_step_of c) (from_item_of c) (from_of c) (join_of c) layer

pub opened_source : (c : Contents) (tree : FromSource) → source_of c tree ≡ source_step (shown_source c (out-FromSource tree))
unfolding body_of item_of set_of_tree source_of arm_of step_of part_of core_of query_of set_step_of from_item_of from_of join_of
opened_source c tree = ap (source_of c) (sym (roll-out-FromSource tree)) ∙ fold-roll-FromSource Body SelectPart BodyPart SourcePart ArmPart StepPart Part BodyPart QueryPart SetStepPart FromItemPart FromPart JoinPart
    body_step item_step set_step source_step arm_step step_step expr_step core_step query_step set_step_step (from_item_step c) from_step join_step (out-FromSource tree)

abbrev pub CoreLayer : Type 0
CoreLayer = Core-F ExprBody SelectItem SetTree FromSource ArmTree ExprStep ExprTree Core QueryTree SetStep FromItem FromTree JoinStep

abbrev pub shown_core : Contents → CoreLayer → CoreFrame
shown_core c layer = map-Core ExprBody SelectItem SetTree FromSource ArmTree ExprStep ExprTree Core QueryTree SetStep FromItem FromTree JoinStep
    Body SelectPart BodyPart SourcePart ArmPart StepPart Part BodyPart QueryPart SetStepPart FromItemPart FromPart JoinPart
    (body_of c) (item_of c) (set_of_tree c) (source_of c) (arm_of c) (step_of c) (part_of c) (core_of c) (query_of c) (set_step_of c) (from_item_of c) (from_of c) (join_of c) layer

pub opened_core : (c : Contents) (tree : Core) → core_of c tree ≡ core_step (shown_core c (out-Core tree))
unfolding body_of item_of set_of_tree source_of arm_of step_of part_of core_of query_of set_step_of from_item_of from_of join_of
opened_core c tree = ap (core_of c) (sym (roll-out-Core tree)) ∙ fold-roll-Core Body SelectPart BodyPart SourcePart ArmPart StepPart Part BodyPart QueryPart SetStepPart FromItemPart FromPart JoinPart
    body_step item_step set_step source_step arm_step step_step expr_step core_step query_step set_step_step (from_item_step c) from_step join_step (out-Core tree)

abbrev pub FromLayer : Type 0
FromLayer = FromTree-F ExprBody SelectItem SetTree FromSource ArmTree ExprStep ExprTree Core QueryTree SetStep FromItem FromTree JoinStep

abbrev pub shown_from : Contents → FromLayer → FromTreeFrame
shown_from c layer = map-FromTree ExprBody SelectItem SetTree FromSource ArmTree ExprStep ExprTree Core QueryTree SetStep FromItem FromTree JoinStep
    Body SelectPart BodyPart SourcePart ArmPart StepPart Part BodyPart QueryPart SetStepPart FromItemPart FromPart JoinPart
    (body_of c) (item_of c) (set_of_tree c) (source_of c) (arm_of c) (step_of c) (part_of c) (core_of c) (query_of c) (set_step_of c) (from_item_of c) (from_of c) (join_of c) layer

pub opened_from : (c : Contents) (tree : FromTree) → from_of c tree ≡ from_step (shown_from c (out-FromTree tree))
unfolding body_of item_of set_of_tree source_of arm_of step_of part_of core_of query_of set_step_of from_item_of from_of join_of
opened_from c tree = ap (from_of c) (sym (roll-out-FromTree tree)) ∙ fold-roll-FromTree Body SelectPart BodyPart SourcePart ArmPart StepPart Part BodyPart QueryPart SetStepPart FromItemPart FromPart JoinPart
    body_step item_step set_step source_step arm_step step_step expr_step core_step query_step set_step_step (from_item_step c) from_step join_step (out-FromTree tree)

abbrev pub JoinLayer : Type 0
JoinLayer = JoinStep-F ExprBody SelectItem SetTree FromSource ArmTree ExprStep ExprTree Core QueryTree SetStep FromItem FromTree JoinStep

abbrev pub shown_join : Contents → JoinLayer → JoinStepFrame
shown_join c layer = map-JoinStep ExprBody SelectItem SetTree FromSource ArmTree ExprStep ExprTree Core QueryTree SetStep FromItem FromTree JoinStep
    Body SelectPart BodyPart SourcePart ArmPart StepPart Part BodyPart QueryPart SetStepPart FromItemPart FromPart JoinPart
    (body_of c) (item_of c) (set_of_tree c) (source_of c) (arm_of c) (step_of c) (part_of c) (core_of c) (query_of c) (set_step_of c) (from_item_of c) (from_of c) (join_of c) layer

pub opened_join : (c : Contents) (tree : JoinStep) → join_of c tree ≡ join_step (shown_join c (out-JoinStep tree))
unfolding body_of item_of set_of_tree source_of arm_of step_of part_of core_of query_of set_step_of from_item_of from_of join_of
opened_join c tree = ap (join_of c) (sym (roll-out-JoinStep tree)) ∙ fold-roll-JoinStep Body SelectPart BodyPart SourcePart ArmPart StepPart Part BodyPart QueryPart SetStepPart FromItemPart FromPart JoinPart
    body_step item_step set_step source_step arm_step step_step expr_step core_step query_step set_step_step (from_item_step c) from_step join_step (out-JoinStep tree)

abbrev pub ArmLayer : Type 0
ArmLayer = ArmTree-F ExprBody SelectItem SetTree FromSource ArmTree ExprStep ExprTree Core QueryTree SetStep FromItem FromTree JoinStep

abbrev pub shown_arm : Contents → ArmLayer → ArmTreeFrame
shown_arm c layer = map-ArmTree ExprBody SelectItem SetTree FromSource ArmTree ExprStep ExprTree Core QueryTree SetStep FromItem FromTree JoinStep
    Body SelectPart BodyPart SourcePart ArmPart StepPart Part BodyPart QueryPart SetStepPart FromItemPart FromPart JoinPart
    (body_of c) (item_of c) (set_of_tree c) (source_of c) (arm_of c) (step_of c) (part_of c) (core_of c) (query_of c) (set_step_of c) (from_item_of c) (from_of c) (join_of c) layer

abbrev pub StepLayer : Type 0
StepLayer = ExprStep-F ExprBody SelectItem SetTree FromSource ArmTree ExprStep ExprTree Core QueryTree SetStep FromItem FromTree JoinStep

abbrev pub shown_step : Contents → StepLayer → ExprStepFrame
shown_step c layer = map-ExprStep ExprBody SelectItem SetTree FromSource ArmTree ExprStep ExprTree Core QueryTree SetStep FromItem FromTree JoinStep
    Body SelectPart BodyPart SourcePart ArmPart StepPart Part BodyPart QueryPart SetStepPart FromItemPart FromPart JoinPart
    (body_of c) (item_of c) (set_of_tree c) (source_of c) (arm_of c) (step_of c) (part_of c) (core_of c) (query_of c) (set_step_of c) (from_item_of c) (from_of c) (join_of c) layer

abbrev pub PartLayer : Type 0
PartLayer = ExprTree-F ExprBody SelectItem SetTree FromSource ArmTree ExprStep ExprTree Core QueryTree SetStep FromItem FromTree JoinStep

abbrev pub shown_part : Contents → PartLayer → ExprTreeFrame
shown_part c layer = map-ExprTree ExprBody SelectItem SetTree FromSource ArmTree ExprStep ExprTree Core QueryTree SetStep FromItem FromTree JoinStep
    Body SelectPart BodyPart SourcePart ArmPart StepPart Part BodyPart QueryPart SetStepPart FromItemPart FromPart JoinPart
    (body_of c) (item_of c) (set_of_tree c) (source_of c) (arm_of c) (step_of c) (part_of c) (core_of c) (query_of c) (set_step_of c) (from_item_of c) (from_of c) (join_of c) layer

abbrev pub QueryLayer : Type 0
QueryLayer = QueryTree-F ExprBody SelectItem SetTree FromSource ArmTree ExprStep ExprTree Core QueryTree SetStep FromItem FromTree JoinStep

abbrev pub shown_query : Contents → QueryLayer → QueryTreeFrame
shown_query c layer = map-QueryTree ExprBody SelectItem SetTree FromSource ArmTree ExprStep ExprTree Core QueryTree SetStep FromItem FromTree JoinStep
    Body SelectPart BodyPart SourcePart ArmPart StepPart Part BodyPart QueryPart SetStepPart FromItemPart FromPart JoinPart
    (body_of c) (item_of c) (set_of_tree c) (source_of c) (arm_of c) (step_of c) (part_of c) (core_of c) (query_of c) (set_step_of c) (from_item_of c) (from_of c) (join_of c) layer

abbrev pub SetStepLayer : Type 0
SetStepLayer = SetStep-F ExprBody SelectItem SetTree FromSource ArmTree ExprStep ExprTree Core QueryTree SetStep FromItem FromTree JoinStep

abbrev pub shown_set_step : Contents → SetStepLayer → SetStepFrame
shown_set_step c layer = map-SetStep ExprBody SelectItem SetTree FromSource ArmTree ExprStep ExprTree Core QueryTree SetStep FromItem FromTree JoinStep
    Body SelectPart BodyPart SourcePart ArmPart StepPart Part BodyPart QueryPart SetStepPart FromItemPart FromPart JoinPart
    (body_of c) (item_of c) (set_of_tree c) (source_of c) (arm_of c) (step_of c) (part_of c) (core_of c) (query_of c) (set_step_of c) (from_item_of c) (from_of c) (join_of c) layer

abbrev pub FromItemLayer : Type 0
FromItemLayer = FromItem-F ExprBody SelectItem SetTree FromSource ArmTree ExprStep ExprTree Core QueryTree SetStep FromItem FromTree JoinStep

abbrev pub shown_from_item : Contents → FromItemLayer → FromItemFrame
shown_from_item c layer = map-FromItem ExprBody SelectItem SetTree FromSource ArmTree ExprStep ExprTree Core QueryTree SetStep FromItem FromTree JoinStep
    Body SelectPart BodyPart SourcePart ArmPart StepPart Part BodyPart QueryPart SetStepPart FromItemPart FromPart JoinPart
    (body_of c) (item_of c) (set_of_tree c) (source_of c) (arm_of c) (step_of c) (part_of c) (core_of c) (query_of c) (set_step_of c) (from_item_of c) (from_of c) (join_of c) layer

abbrev pub frame_expr : Contents → ExprTree → ExprTreeFrame
frame_expr c tree = record { at = tree.at; body = body_of c tree.body }

pub opened_expr : (c : Contents) (tree : ExprTree) → part_of c tree ≡ expr_step (frame_expr c tree)
unfolding body_of item_of set_of_tree source_of arm_of step_of part_of core_of query_of set_step_of from_item_of from_of join_of
opened_expr c tree = fold-roll-ExprTree Body SelectPart BodyPart SourcePart ArmPart StepPart Part BodyPart QueryPart SetStepPart FromItemPart FromPart JoinPart
    body_step item_step set_step source_step arm_step step_step expr_step core_step query_step set_step_step (from_item_step c) from_step join_step (record { at = tree.at; body = tree.body })

abbrev pub frame_arm : Contents → ArmTree → ArmTreeFrame
frame_arm c tree = record { condition = part_of c tree.condition; value = part_of c tree.value }

pub opened_arm : (c : Contents) (tree : ArmTree) → arm_of c tree ≡ arm_step (frame_arm c tree)
unfolding body_of item_of set_of_tree source_of arm_of step_of part_of core_of query_of set_step_of from_item_of from_of join_of
opened_arm c tree = fold-roll-ArmTree Body SelectPart BodyPart SourcePart ArmPart StepPart Part BodyPart QueryPart SetStepPart FromItemPart FromPart JoinPart
    body_step item_step set_step source_step arm_step step_step expr_step core_step query_step set_step_step (from_item_step c) from_step join_step (record { condition = tree.condition; value = tree.value })

abbrev pub frame_step : Contents → ExprStep → ExprStepFrame
frame_step c tree = record { op = tree.op; part = part_of c tree.part }

pub opened_step : (c : Contents) (tree : ExprStep) → step_of c tree ≡ step_step (frame_step c tree)
unfolding body_of item_of set_of_tree source_of arm_of step_of part_of core_of query_of set_step_of from_item_of from_of join_of
opened_step c tree = fold-roll-ExprStep Body SelectPart BodyPart SourcePart ArmPart StepPart Part BodyPart QueryPart SetStepPart FromItemPart FromPart JoinPart
    body_step item_step set_step source_step arm_step step_step expr_step core_step query_step set_step_step (from_item_step c) from_step join_step (record { op = tree.op; part = tree.part })

abbrev pub frame_query : Contents → QueryTree → QueryTreeFrame
frame_query c tree = record { at = tree.at; body = set_of_tree c tree.body; order = tree.order; limit = tree.limit }

pub opened_query : (c : Contents) (tree : QueryTree) → query_of c tree ≡ query_step (frame_query c tree)
unfolding body_of item_of set_of_tree source_of arm_of step_of part_of core_of query_of set_step_of from_item_of from_of join_of
opened_query c tree = fold-roll-QueryTree Body SelectPart BodyPart SourcePart ArmPart StepPart Part BodyPart QueryPart SetStepPart FromItemPart FromPart JoinPart
    body_step item_step set_step source_step arm_step step_step expr_step core_step query_step set_step_step (from_item_step c) from_step join_step (record { at = tree.at; body = tree.body; order = tree.order; limit = tree.limit })

abbrev pub frame_set_step : Contents → SetStep → SetStepFrame
frame_set_step c tree = record { word = tree.word; all = tree.all; at = tree.at; operand = set_of_tree c tree.operand }

pub opened_set_step : (c : Contents) (tree : SetStep) → set_step_of c tree ≡ set_step_step (frame_set_step c tree)
unfolding body_of item_of set_of_tree source_of arm_of step_of part_of core_of query_of set_step_of from_item_of from_of join_of
opened_set_step c tree = fold-roll-SetStep Body SelectPart BodyPart SourcePart ArmPart StepPart Part BodyPart QueryPart SetStepPart FromItemPart FromPart JoinPart
    body_step item_step set_step source_step arm_step step_step expr_step core_step query_step set_step_step (from_item_step c) from_step join_step (record { word = tree.word; all = tree.all; at = tree.at; operand = tree.operand })

abbrev pub frame_from_item : Contents → FromItem → FromItemFrame
frame_from_item c tree = record { at = tree.at; source = source_of c tree.source; alias = tree.alias; mark = tree.mark }

pub opened_from_item : (c : Contents) (tree : FromItem) → from_item_of c tree ≡ from_item_step c (frame_from_item c tree)
unfolding body_of item_of set_of_tree source_of arm_of step_of part_of core_of query_of set_step_of from_item_of from_of join_of
opened_from_item c tree = fold-roll-FromItem Body SelectPart BodyPart SourcePart ArmPart StepPart Part BodyPart QueryPart SetStepPart FromItemPart FromPart JoinPart
    body_step item_step set_step source_step arm_step step_step expr_step core_step query_step set_step_step (from_item_step c) from_step join_step (record { at = tree.at; source = tree.source; alias = tree.alias; mark = tree.mark })

-- ---- cores and joins, with what their conditions mean

abbrev frame_of_core : Contents → ℕ → Option ℕ → Bool → List SelectItem → List FromTree → Option ExprTree → List ColRef → Option ExprTree → CoreFrame
frame_of_core c at provenance distinct items sources condition groups having = record {
  at = at;
  provenance = provenance;
  distinct = distinct;
  items = map (item_of c) items;
  sources = map (from_of c) sources;
  condition = option_map (part_of c) condition;
  groups = groups;
  having = option_map (part_of c) having;
}

core-record : (c : Contents) (at : ℕ) (provenance : Option ℕ) (distinct : Bool) (items : List SelectItem) (sources : List FromTree) (condition : Option ExprTree)
    (groups : List ColRef) (having : Option ExprTree)
    → core_of c (roll-Core (record { at = at; provenance = provenance; distinct = distinct; items = items; sources = sources; condition = condition; groups = groups; having = having }))
    ≡ core_step (frame_of_core c at provenance distinct items sources condition groups having)
unfolding token
core-record c at provenance distinct items sources None groups None = core-record-none-none c at provenance distinct items sources groups
core-record c at provenance distinct items sources None groups (Some having) = core-record-none-some c at provenance distinct items sources groups having
core-record c at provenance distinct items sources (Some condition) groups None = core-record-some-none c at provenance distinct items sources condition groups
core-record c at provenance distinct items sources (Some condition) groups (Some having) =
    core-record-some-some c at provenance distinct items sources condition groups having

abbrev pub frame_core : Contents → Core → CoreFrame
frame_core c tree = frame_of_core c (out-Core tree).at (out-Core tree).provenance (out-Core tree).distinct (out-Core tree).items (out-Core tree).sources (out-Core tree).condition
    (out-Core tree).groups (out-Core tree).having

pub core-is : (c : Contents) (tree : Core) → core_of c tree ≡ core_step (frame_core c tree)
core-is c tree =
    ap (core_of c) (sym (roll-out-Core tree))
    ∙ core-record c (out-Core tree).at (out-Core tree).provenance (out-Core tree).distinct (out-Core tree).items (out-Core tree).sources (out-Core tree).condition
    (out-Core tree).groups (out-Core tree).having

abbrev pub frame_join : Contents → JoinWord → FromItem → Option ExprTree → JoinStepFrame
frame_join c word item condition = record { word = word; item = from_item_of c item; condition = option_map (part_of c) condition }

pub join-record : (c : Contents) (word : JoinWord) (item : FromItem) (condition : Option ExprTree)
    → join_of c (roll-JoinStep (record { word = word; item = item; condition = condition })) ≡ join_step (frame_join c word item condition)
unfolding token
join-record c word item None = joinstep-record-none c word item
join-record c word item (Some condition) = joinstep-record-some c word item condition

pub join-is : (c : Contents) (step : JoinStep) → join_of c step ≡ join_step (frame_join c (out-JoinStep step).word (out-JoinStep step).item (out-JoinStep step).condition)
join-is c step = ap (join_of c) (sym (roll-out-JoinStep step)) ∙ join-record c (out-JoinStep step).word (out-JoinStep step).item (out-JoinStep step).condition
