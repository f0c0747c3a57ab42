-- How high at least what a query is made to is, read off its tree: one for each step of a chain and one for each core, over the highest of
-- the parts. What stands in the tables and views that are read isn't looked at, and of a core's nodes only one is counted.
use Rattle.std.specs.Prelude.{ℕ, suc, max, cond, nat_lt, List, [], ◌∷◌, fold, Option, unwrap_or}
use Rattle.sql_tree.specs.Regular.{is_lateral}
use Rattle.sql_tree.specs.declared.expression.ExprBody.TheFolds.{fold-ExprBody, fold-SelectItem, fold-SetTree, fold-FromSource, fold-ArmTree, fold-ExprStep, fold-ExprTree, fold-Core, fold-QueryTree, fold-SetStep, fold-FromItem, fold-FromTree, fold-JoinStep}
use Rattle.sql_tree.specs.declared.expression.ExprBody.TheOpen.{ExprBody-F, SelectItem-F, SetTree-F, FromSource-F, ArmTree-F, ExprStep-F, ExprTree-F, Core-F, QueryTree-F, SetStep-F, FromItem-F, FromTree-F, JoinStep-F}
use Rattle.sql_tree.specs.declared.expression.ExprBody.{ExprBody}
use Rattle.sql_tree.specs.declared.query.SelectItem.{SelectItem}
use Rattle.sql_tree.specs.declared.query.SetTree.{SetTree}
use Rattle.sql_tree.specs.declared.source.FromSource.{FromSource}
use Rattle.sql_tree.specs.declared.expression.ArmTree.{ArmTree}
use Rattle.sql_tree.specs.declared.expression.ExprStep.{ExprStep}
use Rattle.sql_tree.specs.declared.expression.ExprTree.{ExprTree}
use Rattle.sql_tree.specs.declared.query.Core.{Core}
use Rattle.sql_tree.specs.declared.query.QueryTree.{QueryTree}
use Rattle.sql_tree.specs.declared.query.SetStep.{SetStep}
use Rattle.sql_tree.specs.declared.source.FromItem.{FromItem}
use Rattle.sql_tree.specs.declared.source.FromTree.{FromTree}
use Rattle.sql_tree.specs.declared.source.JoinStep.{JoinStep}

-- ---- chains

-- more than any limit: nothing is counted behind it
abbrev pub enough : ℕ
enough = 1024

-- over what is so high
abbrev pub above : ℕ → ℕ
above height = cond (nat_lt height enough) (suc height) height

abbrev pub above_both : ℕ → ℕ → ℕ
above_both left right = above (max left right)

abbrev pub chain_least : ℕ → List ℕ → ℕ
chain_least first more = fold above_both first more

-- items with commas between them
abbrev pub sources_least : List ℕ → ℕ
sources_least [] = 0
sources_least (first ∷ more) = chain_least first more

abbrev pub highest : List ℕ → ℕ
highest heights = fold max 0 heights

abbrev pub if_there : Option ℕ → ℕ
if_there height = unwrap_or height 0

-- ---- each type of tree, its parts seen as how high they are

-- the highest query of the sublinks
abbrev pub body_step : ExprBody-F ℕ ℕ ℕ ℕ ℕ ℕ ℕ ℕ ℕ ℕ ℕ ℕ ℕ → ℕ
body_step ExprBody-F.Null = 0
body_step (ExprBody-F.NullOf kind) = 0
body_step (ExprBody-F.Integer number) = 0
body_step (ExprBody-F.Text text) = 0
body_step (ExprBody-F.Truth truth) = 0
body_step (ExprBody-F.Column reference) = 0
body_step (ExprBody-F.«ExprBody::Paren» part) = part
body_step (ExprBody-F.Nots count part) = part
body_step (ExprBody-F.Signs count part) = part
body_step (ExprBody-F.Logic op parts) = highest parts
body_step (ExprBody-F.«ExprBody::Chain» first steps) = max first (highest steps)
body_step (ExprBody-F.Compared op first second) = max first second
body_step (ExprBody-F.Like negated text pattern) = max text pattern
body_step (ExprBody-F.Between negated part low high) = max part (max low high)
body_step (ExprBody-F.InList negated part list) = max part (highest list)
body_step (ExprBody-F.InQuery negated part query) = query
body_step (ExprBody-F.Quantified every op part query) = query
body_step (ExprBody-F.IsNull negated part) = part
body_step (ExprBody-F.IsTruth negated truth part) = part
body_step (ExprBody-F.IsDistinct negated first second) = max first second
body_step (ExprBody-F.Case arms otherwise) = max (highest arms) (if_there otherwise)
body_step (ExprBody-F.Coalesce list) = highest list
body_step (ExprBody-F.NullIf first second) = max first second
body_step (ExprBody-F.Aggregate function argument) = 0
body_step (ExprBody-F.Exists query) = query
body_step (ExprBody-F.Scalar query) = query

abbrev pub listed_step : SelectItem-F ℕ ℕ ℕ ℕ ℕ ℕ ℕ ℕ ℕ ℕ ℕ ℕ ℕ → ℕ
listed_step (SelectItem-F.Star at) = 0
listed_step (SelectItem-F.TableStar table) = 0
listed_step (SelectItem-F.Value expr name) = expr

abbrev pub set_step : SetTree-F ℕ ℕ ℕ ℕ ℕ ℕ ℕ ℕ ℕ ℕ ℕ ℕ ℕ → ℕ
set_step (SetTree-F.Core core) = core
set_step (SetTree-F.«SetTree::Paren» query) = query
set_step (SetTree-F.«SetTree::Chain» first steps) = chain_least first steps

abbrev pub read_step : FromSource-F ℕ ℕ ℕ ℕ ℕ ℕ ℕ ℕ ℕ ℕ ℕ ℕ ℕ → ℕ
read_step (FromSource-F.Named name) = 0
read_step (FromSource-F.Inner query) = query

abbrev pub arm_step : ArmTree-F ℕ ℕ ℕ ℕ ℕ ℕ ℕ ℕ ℕ ℕ ℕ ℕ ℕ → ℕ
arm_step arm = max arm.condition arm.value

abbrev pub step_step : ExprStep-F ℕ ℕ ℕ ℕ ℕ ℕ ℕ ℕ ℕ ℕ ℕ ℕ ℕ → ℕ
step_step step = step.part

abbrev pub expr_step : ExprTree-F ℕ ℕ ℕ ℕ ℕ ℕ ℕ ℕ ℕ ℕ ℕ ℕ ℕ → ℕ
expr_step tree = tree.body

abbrev pub core_step : Core-F ℕ ℕ ℕ ℕ ℕ ℕ ℕ ℕ ℕ ℕ ℕ ℕ ℕ → ℕ
core_step core = above (max (max (max (sources_least core.sources) (if_there core.condition)) (if_there core.having)) (highest core.items))

abbrev pub query_step : QueryTree-F ℕ ℕ ℕ ℕ ℕ ℕ ℕ ℕ ℕ ℕ ℕ ℕ ℕ → ℕ
query_step query = query.body

abbrev pub operand_step : SetStep-F ℕ ℕ ℕ ℕ ℕ ℕ ℕ ℕ ℕ ℕ ℕ ℕ ℕ → ℕ
operand_step step = step.operand

abbrev pub item_step : FromItem-F ℕ ℕ ℕ ℕ ℕ ℕ ℕ ℕ ℕ ℕ ℕ ℕ ℕ → ℕ
item_step item = item.source

abbrev pub from_step : FromTree-F ℕ ℕ ℕ ℕ ℕ ℕ ℕ ℕ ℕ ℕ ℕ ℕ ℕ → ℕ
from_step tree = chain_least tree.first tree.joins

-- the condition of a lateral join isn't looked at: it is TRUE
abbrev pub join_step : JoinStep-F ℕ ℕ ℕ ℕ ℕ ℕ ℕ ℕ ℕ ℕ ℕ ℕ ℕ → ℕ
join_step step = cond (is_lateral step.word) step.item (max step.item (if_there step.condition))

-- ---- the trees

unfoldable pub body_least : ExprBody → ℕ
body_least = fold-ExprBody ℕ ℕ ℕ ℕ ℕ ℕ ℕ ℕ ℕ ℕ ℕ ℕ ℕ
    body_step listed_step set_step read_step arm_step step_step expr_step core_step query_step operand_step item_step from_step join_step

unfoldable pub listed_least : SelectItem → ℕ
listed_least = fold-SelectItem ℕ ℕ ℕ ℕ ℕ ℕ ℕ ℕ ℕ ℕ ℕ ℕ ℕ
    body_step listed_step set_step read_step arm_step step_step expr_step core_step query_step operand_step item_step from_step join_step

unfoldable pub set_least : SetTree → ℕ
set_least = fold-SetTree ℕ ℕ ℕ ℕ ℕ ℕ ℕ ℕ ℕ ℕ ℕ ℕ ℕ
    body_step listed_step set_step read_step arm_step step_step expr_step core_step query_step operand_step item_step from_step join_step

unfoldable pub read_least : FromSource → ℕ
read_least = fold-FromSource ℕ ℕ ℕ ℕ ℕ ℕ ℕ ℕ ℕ ℕ ℕ ℕ ℕ
    body_step listed_step set_step read_step arm_step step_step expr_step core_step query_step operand_step item_step from_step join_step

unfoldable pub arm_least : ArmTree → ℕ
arm_least = fold-ArmTree ℕ ℕ ℕ ℕ ℕ ℕ ℕ ℕ ℕ ℕ ℕ ℕ ℕ
    body_step listed_step set_step read_step arm_step step_step expr_step core_step query_step operand_step item_step from_step join_step

unfoldable pub step_least : ExprStep → ℕ
step_least = fold-ExprStep ℕ ℕ ℕ ℕ ℕ ℕ ℕ ℕ ℕ ℕ ℕ ℕ ℕ
    body_step listed_step set_step read_step arm_step step_step expr_step core_step query_step operand_step item_step from_step join_step

unfoldable pub expr_least : ExprTree → ℕ
expr_least = fold-ExprTree ℕ ℕ ℕ ℕ ℕ ℕ ℕ ℕ ℕ ℕ ℕ ℕ ℕ
    body_step listed_step set_step read_step arm_step step_step expr_step core_step query_step operand_step item_step from_step join_step

unfoldable pub core_least : Core → ℕ
core_least = fold-Core ℕ ℕ ℕ ℕ ℕ ℕ ℕ ℕ ℕ ℕ ℕ ℕ ℕ
    body_step listed_step set_step read_step arm_step step_step expr_step core_step query_step operand_step item_step from_step join_step

unfoldable pub least_height : QueryTree → ℕ
least_height = fold-QueryTree ℕ ℕ ℕ ℕ ℕ ℕ ℕ ℕ ℕ ℕ ℕ ℕ ℕ
    body_step listed_step set_step read_step arm_step step_step expr_step core_step query_step operand_step item_step from_step join_step

unfoldable pub operand_least : SetStep → ℕ
operand_least = fold-SetStep ℕ ℕ ℕ ℕ ℕ ℕ ℕ ℕ ℕ ℕ ℕ ℕ ℕ
    body_step listed_step set_step read_step arm_step step_step expr_step core_step query_step operand_step item_step from_step join_step

unfoldable pub item_least : FromItem → ℕ
item_least = fold-FromItem ℕ ℕ ℕ ℕ ℕ ℕ ℕ ℕ ℕ ℕ ℕ ℕ ℕ
    body_step listed_step set_step read_step arm_step step_step expr_step core_step query_step operand_step item_step from_step join_step

unfoldable pub from_least : FromTree → ℕ
from_least = fold-FromTree ℕ ℕ ℕ ℕ ℕ ℕ ℕ ℕ ℕ ℕ ℕ ℕ ℕ
    body_step listed_step set_step read_step arm_step step_step expr_step core_step query_step operand_step item_step from_step join_step

unfoldable pub join_least : JoinStep → ℕ
join_least = fold-JoinStep ℕ ℕ ℕ ℕ ℕ ℕ ℕ ℕ ℕ ℕ ℕ ℕ ℕ
    body_step listed_step set_step read_step arm_step step_step expr_step core_step query_step operand_step item_step from_step join_step
