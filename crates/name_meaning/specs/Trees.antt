-- The meaning of a tree: one step for each of its types, and the parts already seen as what they mean.
use Rattle.sql_tree.specs.declared.expression.ExprBody.TheFolds.{fold-ExprTree, fold-QueryTree, fold-ExprBody, fold-SelectItem, fold-SetTree, fold-FromSource, fold-ArmTree, fold-ExprStep, fold-Core, fold-SetStep, fold-FromItem, fold-FromTree, fold-JoinStep}
use Rattle.sql_tree.specs.declared.expression.ExprTree.{ExprTree}
use Rattle.sql_tree.specs.declared.query.QueryTree.{QueryTree}
use Rattle.sql_tree.specs.declared.expression.ExprBody.{ExprBody}
use Rattle.sql_tree.specs.declared.query.SelectItem.{SelectItem}
use Rattle.sql_tree.specs.declared.query.SetTree.{SetTree}
use Rattle.sql_tree.specs.declared.source.FromSource.{FromSource}
use Rattle.sql_tree.specs.declared.expression.ArmTree.{ArmTree}
use Rattle.sql_tree.specs.declared.expression.ExprStep.{ExprStep}
use Rattle.sql_tree.specs.declared.query.Core.{Core}
use Rattle.sql_tree.specs.declared.query.SetStep.{SetStep}
use Rattle.sql_tree.specs.declared.source.FromItem.{FromItem}
use Rattle.sql_tree.specs.declared.source.FromTree.{FromTree}
use Rattle.sql_tree.specs.declared.source.JoinStep.{JoinStep}
use Rattle.perm_catalog.specs.Contents.{Contents}
use Rattle.name_meaning.specs.Cores.{BodyPart, core_step}
use Rattle.name_meaning.specs.Expressions.{Body, StepPart, ArmPart, body_step, arm_step, step_step, expr_step}
use Rattle.name_meaning.specs.Froms.{SourcePart, FromItemPart, FromPart, JoinPart, source_step, from_item_step, from_step, join_step}
use Rattle.name_meaning.specs.Items.{SelectPart, item_step}
use Rattle.name_meaning.specs.Meanings.{Part, QueryPart}
use Rattle.name_meaning.specs.Queries.{SetStepPart, set_step, set_step_step, query_step}

unfoldable pub part_of : Contents → ExprTree → Part
part_of c = fold-ExprTree Body SelectPart BodyPart SourcePart ArmPart StepPart Part BodyPart QueryPart SetStepPart FromItemPart FromPart JoinPart
    body_step item_step set_step source_step arm_step step_step expr_step core_step query_step set_step_step (from_item_step c) from_step join_step

unfoldable pub query_of : Contents → QueryTree → QueryPart
query_of c = fold-QueryTree Body SelectPart BodyPart SourcePart ArmPart StepPart Part BodyPart QueryPart SetStepPart FromItemPart FromPart JoinPart
    body_step item_step set_step source_step arm_step step_step expr_step core_step query_step set_step_step (from_item_step c) from_step join_step

unfoldable pub body_of : Contents → ExprBody → Body
body_of c = fold-ExprBody Body SelectPart BodyPart SourcePart ArmPart StepPart Part BodyPart QueryPart SetStepPart FromItemPart FromPart JoinPart
    body_step item_step set_step source_step arm_step step_step expr_step core_step query_step set_step_step (from_item_step c) from_step join_step

unfoldable pub item_of : Contents → SelectItem → SelectPart
item_of c = fold-SelectItem Body SelectPart BodyPart SourcePart ArmPart StepPart Part BodyPart QueryPart SetStepPart FromItemPart FromPart JoinPart
    body_step item_step set_step source_step arm_step step_step expr_step core_step query_step set_step_step (from_item_step c) from_step join_step

unfoldable pub set_of_tree : Contents → SetTree → BodyPart
set_of_tree c = fold-SetTree Body SelectPart BodyPart SourcePart ArmPart StepPart Part BodyPart QueryPart SetStepPart FromItemPart FromPart JoinPart
    body_step item_step set_step source_step arm_step step_step expr_step core_step query_step set_step_step (from_item_step c) from_step join_step

unfoldable pub source_of : Contents → FromSource → SourcePart
source_of c = fold-FromSource Body SelectPart BodyPart SourcePart ArmPart StepPart Part BodyPart QueryPart SetStepPart FromItemPart FromPart JoinPart
    body_step item_step set_step source_step arm_step step_step expr_step core_step query_step set_step_step (from_item_step c) from_step join_step

unfoldable pub arm_of : Contents → ArmTree → ArmPart
arm_of c = fold-ArmTree Body SelectPart BodyPart SourcePart ArmPart StepPart Part BodyPart QueryPart SetStepPart FromItemPart FromPart JoinPart
    body_step item_step set_step source_step arm_step step_step expr_step core_step query_step set_step_step (from_item_step c) from_step join_step

unfoldable pub step_of : Contents → ExprStep → StepPart
step_of c = fold-ExprStep Body SelectPart BodyPart SourcePart ArmPart StepPart Part BodyPart QueryPart SetStepPart FromItemPart FromPart JoinPart
    body_step item_step set_step source_step arm_step step_step expr_step core_step query_step set_step_step (from_item_step c) from_step join_step

unfoldable pub core_of : Contents → Core → BodyPart
core_of c = fold-Core Body SelectPart BodyPart SourcePart ArmPart StepPart Part BodyPart QueryPart SetStepPart FromItemPart FromPart JoinPart
    body_step item_step set_step source_step arm_step step_step expr_step core_step query_step set_step_step (from_item_step c) from_step join_step

unfoldable pub set_step_of : Contents → SetStep → SetStepPart
set_step_of c = fold-SetStep Body SelectPart BodyPart SourcePart ArmPart StepPart Part BodyPart QueryPart SetStepPart FromItemPart FromPart JoinPart
    body_step item_step set_step source_step arm_step step_step expr_step core_step query_step set_step_step (from_item_step c) from_step join_step

unfoldable pub from_item_of : Contents → FromItem → FromItemPart
from_item_of c = fold-FromItem Body SelectPart BodyPart SourcePart ArmPart StepPart Part BodyPart QueryPart SetStepPart FromItemPart FromPart JoinPart
    body_step item_step set_step source_step arm_step step_step expr_step core_step query_step set_step_step (from_item_step c) from_step join_step

unfoldable pub from_of : Contents → FromTree → FromPart
from_of c = fold-FromTree Body SelectPart BodyPart SourcePart ArmPart StepPart Part BodyPart QueryPart SetStepPart FromItemPart FromPart JoinPart
    body_step item_step set_step source_step arm_step step_step expr_step core_step query_step set_step_step (from_item_step c) from_step join_step

unfoldable pub join_of : Contents → JoinStep → JoinPart
join_of c = fold-JoinStep Body SelectPart BodyPart SourcePart ArmPart StepPart Part BodyPart QueryPart SetStepPart FromItemPart FromPart JoinPart
    body_step item_step set_step source_step arm_step step_step expr_step core_step query_step set_step_step (from_item_step c) from_step join_step
