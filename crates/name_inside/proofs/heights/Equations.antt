-- How high at least each form of a tree is: its step, on how high its parts are.
use Rattle.std.specs.Prelude.{◌≡◌, ℕ, ℤ, max, cond, true, false, Bool, List, map, Option, Some, None, option_map}
use Rattle.std.proofs.Common.{sym, ap, ◌∙◌}
use Rattle.null_logic.specs.declared.compare.Compare.{Compare}
use Rattle.null_logic.specs.declared.operator.Operator.{Operator}
use Rattle.null_logic.specs.declared.truth.Truth.{Truth}
use Rattle.perm_values.specs.declared.kind.Kind.{Kind}
use Rattle.sql_tree.specs.Regular.{is_lateral}
use Rattle.sql_tree.specs.declared.expression.AggWord.{AggWord}
use Rattle.sql_tree.specs.declared.name.ColRef.{ColRef}
use Rattle.sql_tree.specs.declared.name.Name.{Name}
use Rattle.sql_tree.specs.declared.source.JoinWord.{JoinWord}
use Rattle.sql_tree.specs.declared.expression.ExprBody.TheVariants as e
use Rattle.sql_tree.specs.declared.query.SelectItem.TheVariants as i
use Rattle.sql_tree.specs.declared.query.SetTree.TheVariants as set
use Rattle.sql_tree.specs.declared.source.FromSource.TheVariants as source
use Rattle.sql_tree.specs.declared.expression.ExprBody.TheFolds.{fold-roll-ExprBody, fold-roll-SelectItem, fold-roll-SetTree, fold-roll-FromSource, fold-roll-ArmTree, fold-roll-ExprStep, fold-roll-ExprTree, fold-roll-Core, fold-roll-QueryTree, fold-roll-SetStep, fold-roll-FromItem, fold-roll-FromTree, fold-roll-JoinStep}
use Rattle.sql_tree.specs.declared.expression.ExprBody.TheOpen.{ExprBody-F, SelectItem-F, SetTree-F, FromSource-F}
use Rattle.sql_tree.specs.declared.expression.ExprBody.TheViews.{roll-out-Core, roll-out-FromTree, roll-out-JoinStep}
use Rattle.sql_tree.specs.declared.query.Core.{out-Core, roll-Core}
use Rattle.sql_tree.specs.declared.source.FromTree.{out-FromTree}
use Rattle.sql_tree.specs.declared.source.JoinStep.{out-JoinStep, roll-JoinStep}
use Rattle.sql_tree.specs.declared.query.SelectItem.{SelectItem}
use Rattle.sql_tree.specs.declared.query.SetTree.{SetTree}
use Rattle.sql_tree.specs.declared.expression.ArmTree.{ArmTree}
use Rattle.sql_tree.specs.declared.expression.ExprStep.{ExprStep}
use Rattle.sql_tree.specs.declared.expression.ExprTree.{ExprTree}
use Rattle.sql_tree.specs.declared.query.Core.{Core}
use Rattle.sql_tree.specs.declared.query.QueryTree.{QueryTree}
use Rattle.sql_tree.specs.declared.query.SetStep.{SetStep}
use Rattle.sql_tree.specs.declared.source.FromItem.{FromItem}
use Rattle.sql_tree.specs.declared.source.FromTree.{FromTree}
use Rattle.sql_tree.specs.declared.source.JoinStep.{JoinStep}
use Rattle.name_inside.specs.heights.Least.{above, chain_least, highest, if_there, sources_least, body_step, listed_step, set_step, read_step, arm_step, step_step, expr_step, core_step, query_step, operand_step, item_step, from_step, join_step, body_least, listed_least, set_least, read_least, arm_least, step_least, expr_least, core_least, least_height, operand_least, item_least, from_least, join_least}

pub both : {A B C : Type 0} (f : A → B → C) {a b : A} {c d : B} → a ≡ b → c ≡ d → f a c ≡ f b d
both f e g = λ i. f (e i) (g i)

-- ---- expressions

expr-is : (tree : ExprTree) → expr_least tree ≡ body_least tree.body
unfolding body_least listed_least set_least read_least arm_least step_least expr_least core_least least_height operand_least item_least from_least join_least
expr-is tree = fold-roll-ExprTree ℕ ℕ ℕ ℕ ℕ ℕ ℕ ℕ ℕ ℕ ℕ ℕ ℕ
    body_step listed_step set_step read_step arm_step step_step expr_step core_step query_step operand_step item_step from_step join_step (record { at = tree.at; body = tree.body })

pub paren-least : (tree : ExprTree) (p : ExprTree) → tree.body ≡ e.Paren p → expr_least tree ≡ expr_least p
unfolding body_least listed_least set_least read_least arm_least step_least expr_least core_least least_height operand_least item_least from_least join_least
paren-least tree p is = expr-is tree ∙ ap body_least (is ∙ sym (e.rolls-Paren p)) ∙ fold-roll-ExprBody ℕ ℕ ℕ ℕ ℕ ℕ ℕ ℕ ℕ ℕ ℕ ℕ ℕ
    body_step listed_step set_step read_step arm_step step_step expr_step core_step query_step operand_step item_step from_step join_step (ExprBody-F.«ExprBody::Paren» p)

pub nots-least : (tree : ExprTree) (n : ℕ) (p : ExprTree) → tree.body ≡ e.Nots n p → expr_least tree ≡ expr_least p
unfolding body_least listed_least set_least read_least arm_least step_least expr_least core_least least_height operand_least item_least from_least join_least
nots-least tree n p is = expr-is tree ∙ ap body_least (is ∙ sym (e.rolls-Nots n p)) ∙ fold-roll-ExprBody ℕ ℕ ℕ ℕ ℕ ℕ ℕ ℕ ℕ ℕ ℕ ℕ ℕ
    body_step listed_step set_step read_step arm_step step_step expr_step core_step query_step operand_step item_step from_step join_step (ExprBody-F.Nots n p)

pub signs-least : (tree : ExprTree) (n : ℕ) (p : ExprTree) → tree.body ≡ e.Signs n p → expr_least tree ≡ expr_least p
unfolding body_least listed_least set_least read_least arm_least step_least expr_least core_least least_height operand_least item_least from_least join_least
signs-least tree n p is = expr-is tree ∙ ap body_least (is ∙ sym (e.rolls-Signs n p)) ∙ fold-roll-ExprBody ℕ ℕ ℕ ℕ ℕ ℕ ℕ ℕ ℕ ℕ ℕ ℕ ℕ
    body_step listed_step set_step read_step arm_step step_step expr_step core_step query_step operand_step item_step from_step join_step (ExprBody-F.Signs n p)

pub logic-least : (tree : ExprTree) (op : Operator) (ps : List ExprTree) → tree.body ≡ e.Logic op ps → expr_least tree ≡ highest (map expr_least ps)
unfolding body_least listed_least set_least read_least arm_least step_least expr_least core_least least_height operand_least item_least from_least join_least
logic-least tree op ps is = expr-is tree ∙ ap body_least (is ∙ sym (e.rolls-Logic op ps)) ∙ fold-roll-ExprBody ℕ ℕ ℕ ℕ ℕ ℕ ℕ ℕ ℕ ℕ ℕ ℕ ℕ
    body_step listed_step set_step read_step arm_step step_step expr_step core_step query_step operand_step item_step from_step join_step (ExprBody-F.Logic op ps)

pub chain-least : (tree : ExprTree) (p : ExprTree) (ss : List ExprStep) → tree.body ≡ e.Chain p ss → expr_least tree ≡ max (expr_least p) (highest (map step_least ss))
unfolding body_least listed_least set_least read_least arm_least step_least expr_least core_least least_height operand_least item_least from_least join_least
chain-least tree p ss is = expr-is tree ∙ ap body_least (is ∙ sym (e.rolls-Chain p ss)) ∙ fold-roll-ExprBody ℕ ℕ ℕ ℕ ℕ ℕ ℕ ℕ ℕ ℕ ℕ ℕ ℕ
    body_step listed_step set_step read_step arm_step step_step expr_step core_step query_step operand_step item_step from_step join_step (ExprBody-F.«ExprBody::Chain» p ss)

pub compared-least : (tree : ExprTree) (op : Compare) (p q : ExprTree) → tree.body ≡ e.Compared op p q → expr_least tree ≡ max (expr_least p) (expr_least q)
unfolding body_least listed_least set_least read_least arm_least step_least expr_least core_least least_height operand_least item_least from_least join_least
compared-least tree op p q is = expr-is tree ∙ ap body_least (is ∙ sym (e.rolls-Compared op p q)) ∙ fold-roll-ExprBody ℕ ℕ ℕ ℕ ℕ ℕ ℕ ℕ ℕ ℕ ℕ ℕ ℕ
    body_step listed_step set_step read_step arm_step step_step expr_step core_step query_step operand_step item_step from_step join_step (ExprBody-F.Compared op p q)

pub like-least : (tree : ExprTree) (b : Bool) (p q : ExprTree) → tree.body ≡ e.Like b p q → expr_least tree ≡ max (expr_least p) (expr_least q)
unfolding body_least listed_least set_least read_least arm_least step_least expr_least core_least least_height operand_least item_least from_least join_least
like-least tree b p q is = expr-is tree ∙ ap body_least (is ∙ sym (e.rolls-Like b p q)) ∙ fold-roll-ExprBody ℕ ℕ ℕ ℕ ℕ ℕ ℕ ℕ ℕ ℕ ℕ ℕ ℕ
    body_step listed_step set_step read_step arm_step step_step expr_step core_step query_step operand_step item_step from_step join_step (ExprBody-F.Like b p q)

pub between-least : (tree : ExprTree) (b : Bool) (p q r : ExprTree) → tree.body ≡ e.Between b p q r → expr_least tree ≡ max (expr_least p) (max (expr_least q) (expr_least r))
unfolding body_least listed_least set_least read_least arm_least step_least expr_least core_least least_height operand_least item_least from_least join_least
between-least tree b p q r is = expr-is tree ∙ ap body_least (is ∙ sym (e.rolls-Between b p q r)) ∙ fold-roll-ExprBody ℕ ℕ ℕ ℕ ℕ ℕ ℕ ℕ ℕ ℕ ℕ ℕ ℕ
    body_step listed_step set_step read_step arm_step step_step expr_step core_step query_step operand_step item_step from_step join_step (ExprBody-F.Between b p q r)

pub inlist-least : (tree : ExprTree) (b : Bool) (p : ExprTree) (ps : List ExprTree) → tree.body ≡ e.InList b p ps → expr_least tree ≡ max (expr_least p) (highest (map expr_least ps))
unfolding body_least listed_least set_least read_least arm_least step_least expr_least core_least least_height operand_least item_least from_least join_least
inlist-least tree b p ps is = expr-is tree ∙ ap body_least (is ∙ sym (e.rolls-InList b p ps)) ∙ fold-roll-ExprBody ℕ ℕ ℕ ℕ ℕ ℕ ℕ ℕ ℕ ℕ ℕ ℕ ℕ
    body_step listed_step set_step read_step arm_step step_step expr_step core_step query_step operand_step item_step from_step join_step (ExprBody-F.InList b p ps)

pub inquery-least : (tree : ExprTree) (b : Bool) (p : ExprTree) (q : QueryTree) → tree.body ≡ e.InQuery b p q → expr_least tree ≡ least_height q
unfolding body_least listed_least set_least read_least arm_least step_least expr_least core_least least_height operand_least item_least from_least join_least
inquery-least tree b p q is = expr-is tree ∙ ap body_least (is ∙ sym (e.rolls-InQuery b p q)) ∙ fold-roll-ExprBody ℕ ℕ ℕ ℕ ℕ ℕ ℕ ℕ ℕ ℕ ℕ ℕ ℕ
    body_step listed_step set_step read_step arm_step step_step expr_step core_step query_step operand_step item_step from_step join_step (ExprBody-F.InQuery b p q)

pub quantified-least : (tree : ExprTree) (b : Bool) (op : Compare) (p : ExprTree) (q : QueryTree) → tree.body ≡ e.Quantified b op p q → expr_least tree ≡ least_height q
unfolding body_least listed_least set_least read_least arm_least step_least expr_least core_least least_height operand_least item_least from_least join_least
quantified-least tree b op p q is = expr-is tree ∙ ap body_least (is ∙ sym (e.rolls-Quantified b op p q)) ∙ fold-roll-ExprBody ℕ ℕ ℕ ℕ ℕ ℕ ℕ ℕ ℕ ℕ ℕ ℕ ℕ
    body_step listed_step set_step read_step arm_step step_step expr_step core_step query_step operand_step item_step from_step join_step (ExprBody-F.Quantified b op p q)

pub isnull-least : (tree : ExprTree) (b : Bool) (p : ExprTree) → tree.body ≡ e.IsNull b p → expr_least tree ≡ expr_least p
unfolding body_least listed_least set_least read_least arm_least step_least expr_least core_least least_height operand_least item_least from_least join_least
isnull-least tree b p is = expr-is tree ∙ ap body_least (is ∙ sym (e.rolls-IsNull b p)) ∙ fold-roll-ExprBody ℕ ℕ ℕ ℕ ℕ ℕ ℕ ℕ ℕ ℕ ℕ ℕ ℕ
    body_step listed_step set_step read_step arm_step step_step expr_step core_step query_step operand_step item_step from_step join_step (ExprBody-F.IsNull b p)

pub istruth-least : (tree : ExprTree) (b : Bool) (t : Truth) (p : ExprTree) → tree.body ≡ e.IsTruth b t p → expr_least tree ≡ expr_least p
unfolding body_least listed_least set_least read_least arm_least step_least expr_least core_least least_height operand_least item_least from_least join_least
istruth-least tree b t p is = expr-is tree ∙ ap body_least (is ∙ sym (e.rolls-IsTruth b t p)) ∙ fold-roll-ExprBody ℕ ℕ ℕ ℕ ℕ ℕ ℕ ℕ ℕ ℕ ℕ ℕ ℕ
    body_step listed_step set_step read_step arm_step step_step expr_step core_step query_step operand_step item_step from_step join_step (ExprBody-F.IsTruth b t p)

pub isdistinct-least : (tree : ExprTree) (b : Bool) (p q : ExprTree) → tree.body ≡ e.IsDistinct b p q → expr_least tree ≡ max (expr_least p) (expr_least q)
unfolding body_least listed_least set_least read_least arm_least step_least expr_least core_least least_height operand_least item_least from_least join_least
isdistinct-least tree b p q is = expr-is tree ∙ ap body_least (is ∙ sym (e.rolls-IsDistinct b p q)) ∙ fold-roll-ExprBody ℕ ℕ ℕ ℕ ℕ ℕ ℕ ℕ ℕ ℕ ℕ ℕ ℕ
    body_step listed_step set_step read_step arm_step step_step expr_step core_step query_step operand_step item_step from_step join_step (ExprBody-F.IsDistinct b p q)

pub coalesce-least : (tree : ExprTree) (ps : List ExprTree) → tree.body ≡ e.Coalesce ps → expr_least tree ≡ highest (map expr_least ps)
unfolding body_least listed_least set_least read_least arm_least step_least expr_least core_least least_height operand_least item_least from_least join_least
coalesce-least tree ps is = expr-is tree ∙ ap body_least (is ∙ sym (e.rolls-Coalesce ps)) ∙ fold-roll-ExprBody ℕ ℕ ℕ ℕ ℕ ℕ ℕ ℕ ℕ ℕ ℕ ℕ ℕ
    body_step listed_step set_step read_step arm_step step_step expr_step core_step query_step operand_step item_step from_step join_step (ExprBody-F.Coalesce ps)

pub nullif-least : (tree : ExprTree) (p q : ExprTree) → tree.body ≡ e.NullIf p q → expr_least tree ≡ max (expr_least p) (expr_least q)
unfolding body_least listed_least set_least read_least arm_least step_least expr_least core_least least_height operand_least item_least from_least join_least
nullif-least tree p q is = expr-is tree ∙ ap body_least (is ∙ sym (e.rolls-NullIf p q)) ∙ fold-roll-ExprBody ℕ ℕ ℕ ℕ ℕ ℕ ℕ ℕ ℕ ℕ ℕ ℕ ℕ
    body_step listed_step set_step read_step arm_step step_step expr_step core_step query_step operand_step item_step from_step join_step (ExprBody-F.NullIf p q)

pub exists-least : (tree : ExprTree) (q : QueryTree) → tree.body ≡ e.Exists q → expr_least tree ≡ least_height q
unfolding body_least listed_least set_least read_least arm_least step_least expr_least core_least least_height operand_least item_least from_least join_least
exists-least tree q is = expr-is tree ∙ ap body_least (is ∙ sym (e.rolls-Exists q)) ∙ fold-roll-ExprBody ℕ ℕ ℕ ℕ ℕ ℕ ℕ ℕ ℕ ℕ ℕ ℕ ℕ
    body_step listed_step set_step read_step arm_step step_step expr_step core_step query_step operand_step item_step from_step join_step (ExprBody-F.Exists q)

pub scalar-least : (tree : ExprTree) (q : QueryTree) → tree.body ≡ e.Scalar q → expr_least tree ≡ least_height q
unfolding body_least listed_least set_least read_least arm_least step_least expr_least core_least least_height operand_least item_least from_least join_least
scalar-least tree q is = expr-is tree ∙ ap body_least (is ∙ sym (e.rolls-Scalar q)) ∙ fold-roll-ExprBody ℕ ℕ ℕ ℕ ℕ ℕ ℕ ℕ ℕ ℕ ℕ ℕ ℕ
    body_step listed_step set_step read_step arm_step step_step expr_step core_step query_step operand_step item_step from_step join_step (ExprBody-F.Scalar q)

pub null-least : (tree : ExprTree) → tree.body ≡ e.Null → expr_least tree ≡ 0
unfolding body_least listed_least set_least read_least arm_least step_least expr_least core_least least_height operand_least item_least from_least join_least
null-least tree is = expr-is tree ∙ ap body_least (is ∙ sym e.rolls-Null) ∙ fold-roll-ExprBody ℕ ℕ ℕ ℕ ℕ ℕ ℕ ℕ ℕ ℕ ℕ ℕ ℕ
    body_step listed_step set_step read_step arm_step step_step expr_step core_step query_step operand_step item_step from_step join_step ExprBody-F.Null

pub nullof-least : (tree : ExprTree) (k : Kind) → tree.body ≡ e.NullOf k → expr_least tree ≡ 0
unfolding body_least listed_least set_least read_least arm_least step_least expr_least core_least least_height operand_least item_least from_least join_least
nullof-least tree k is = expr-is tree ∙ ap body_least (is ∙ sym (e.rolls-NullOf k)) ∙ fold-roll-ExprBody ℕ ℕ ℕ ℕ ℕ ℕ ℕ ℕ ℕ ℕ ℕ ℕ ℕ
    body_step listed_step set_step read_step arm_step step_step expr_step core_step query_step operand_step item_step from_step join_step (ExprBody-F.NullOf k)

pub integer-least : (tree : ExprTree) (n : ℤ) → tree.body ≡ e.Integer n → expr_least tree ≡ 0
unfolding body_least listed_least set_least read_least arm_least step_least expr_least core_least least_height operand_least item_least from_least join_least
integer-least tree n is = expr-is tree ∙ ap body_least (is ∙ sym (e.rolls-Integer n)) ∙ fold-roll-ExprBody ℕ ℕ ℕ ℕ ℕ ℕ ℕ ℕ ℕ ℕ ℕ ℕ ℕ
    body_step listed_step set_step read_step arm_step step_step expr_step core_step query_step operand_step item_step from_step join_step (ExprBody-F.Integer n)

pub text-least : (tree : ExprTree) (t : List ℕ) → tree.body ≡ e.Text t → expr_least tree ≡ 0
unfolding body_least listed_least set_least read_least arm_least step_least expr_least core_least least_height operand_least item_least from_least join_least
text-least tree t is = expr-is tree ∙ ap body_least (is ∙ sym (e.rolls-Text t)) ∙ fold-roll-ExprBody ℕ ℕ ℕ ℕ ℕ ℕ ℕ ℕ ℕ ℕ ℕ ℕ ℕ
    body_step listed_step set_step read_step arm_step step_step expr_step core_step query_step operand_step item_step from_step join_step (ExprBody-F.Text t)

pub truth-least : (tree : ExprTree) (b : Bool) → tree.body ≡ e.Truth b → expr_least tree ≡ 0
unfolding body_least listed_least set_least read_least arm_least step_least expr_least core_least least_height operand_least item_least from_least join_least
truth-least tree b is = expr-is tree ∙ ap body_least (is ∙ sym (e.rolls-Truth b)) ∙ fold-roll-ExprBody ℕ ℕ ℕ ℕ ℕ ℕ ℕ ℕ ℕ ℕ ℕ ℕ ℕ
    body_step listed_step set_step read_step arm_step step_step expr_step core_step query_step operand_step item_step from_step join_step (ExprBody-F.Truth b)

pub column-least : (tree : ExprTree) (r : ColRef) → tree.body ≡ e.Column r → expr_least tree ≡ 0
unfolding body_least listed_least set_least read_least arm_least step_least expr_least core_least least_height operand_least item_least from_least join_least
column-least tree r is = expr-is tree ∙ ap body_least (is ∙ sym (e.rolls-Column r)) ∙ fold-roll-ExprBody ℕ ℕ ℕ ℕ ℕ ℕ ℕ ℕ ℕ ℕ ℕ ℕ ℕ
    body_step listed_step set_step read_step arm_step step_step expr_step core_step query_step operand_step item_step from_step join_step (ExprBody-F.Column r)

case-made : (arms : List ArmTree) (otherwise : Option ExprTree) → body_least (e.Case arms otherwise) ≡ max (highest (map arm_least arms)) (if_there (option_map expr_least otherwise))
unfolding body_least listed_least set_least read_least arm_least step_least expr_least core_least least_height operand_least item_least from_least join_least
case-made arms None = ap body_least (sym (e.rolls-Case arms None)) ∙ fold-roll-ExprBody ℕ ℕ ℕ ℕ ℕ ℕ ℕ ℕ ℕ ℕ ℕ ℕ ℕ
    body_step listed_step set_step read_step arm_step step_step expr_step core_step query_step operand_step item_step from_step join_step (ExprBody-F.Case arms None)
case-made arms (Some p) = ap body_least (sym (e.rolls-Case arms (Some p))) ∙ fold-roll-ExprBody ℕ ℕ ℕ ℕ ℕ ℕ ℕ ℕ ℕ ℕ ℕ ℕ ℕ
    body_step listed_step set_step read_step arm_step step_step expr_step core_step query_step operand_step item_step from_step join_step (ExprBody-F.Case arms (Some p))

pub case-least : (tree : ExprTree) (arms : List ArmTree) (otherwise : Option ExprTree) → tree.body ≡ e.Case arms otherwise
    → expr_least tree ≡ max (highest (map arm_least arms)) (if_there (option_map expr_least otherwise))
case-least tree arms otherwise is = expr-is tree ∙ ap body_least is ∙ case-made arms otherwise

aggregate-made : (w : AggWord) (argument : Option ExprTree) → body_least (e.Aggregate w argument) ≡ 0
unfolding body_least listed_least set_least read_least arm_least step_least expr_least core_least least_height operand_least item_least from_least join_least
aggregate-made w None = ap body_least (sym (e.rolls-Aggregate w None)) ∙ fold-roll-ExprBody ℕ ℕ ℕ ℕ ℕ ℕ ℕ ℕ ℕ ℕ ℕ ℕ ℕ
    body_step listed_step set_step read_step arm_step step_step expr_step core_step query_step operand_step item_step from_step join_step (ExprBody-F.Aggregate w None)
aggregate-made w (Some p) = ap body_least (sym (e.rolls-Aggregate w (Some p))) ∙ fold-roll-ExprBody ℕ ℕ ℕ ℕ ℕ ℕ ℕ ℕ ℕ ℕ ℕ ℕ ℕ
    body_step listed_step set_step read_step arm_step step_step expr_step core_step query_step operand_step item_step from_step join_step (ExprBody-F.Aggregate w (Some p))

pub aggregate-least : (tree : ExprTree) (w : AggWord) (argument : Option ExprTree) → tree.body ≡ e.Aggregate w argument → expr_least tree ≡ 0
aggregate-least tree w argument is = expr-is tree ∙ ap body_least is ∙ aggregate-made w argument

pub arm-least : (tree : ArmTree) → arm_least tree ≡ max (expr_least tree.condition) (expr_least tree.value)
unfolding body_least listed_least set_least read_least arm_least step_least expr_least core_least least_height operand_least item_least from_least join_least
arm-least tree = fold-roll-ArmTree ℕ ℕ ℕ ℕ ℕ ℕ ℕ ℕ ℕ ℕ ℕ ℕ ℕ
    body_step listed_step set_step read_step arm_step step_step expr_step core_step query_step operand_step item_step from_step join_step (record { condition = tree.condition; value = tree.value })

pub step-least : (tree : ExprStep) → step_least tree ≡ expr_least tree.part
unfolding body_least listed_least set_least read_least arm_least step_least expr_least core_least least_height operand_least item_least from_least join_least
step-least tree = fold-roll-ExprStep ℕ ℕ ℕ ℕ ℕ ℕ ℕ ℕ ℕ ℕ ℕ ℕ ℕ
    body_step listed_step set_step read_step arm_step step_step expr_step core_step query_step operand_step item_step from_step join_step (record { op = tree.op; part = tree.part })

-- ---- queries

pub query-least : (tree : QueryTree) → least_height tree ≡ set_least tree.body
unfolding body_least listed_least set_least read_least arm_least step_least expr_least core_least least_height operand_least item_least from_least join_least
query-least tree = fold-roll-QueryTree ℕ ℕ ℕ ℕ ℕ ℕ ℕ ℕ ℕ ℕ ℕ ℕ ℕ
    body_step listed_step set_step read_step arm_step step_step expr_step core_step query_step operand_step item_step from_step join_step (record { at = tree.at; body = tree.body; order = tree.order; limit = tree.limit })

pub operand-least : (tree : SetStep) → operand_least tree ≡ set_least tree.operand
unfolding body_least listed_least set_least read_least arm_least step_least expr_least core_least least_height operand_least item_least from_least join_least
operand-least tree = fold-roll-SetStep ℕ ℕ ℕ ℕ ℕ ℕ ℕ ℕ ℕ ℕ ℕ ℕ ℕ
    body_step listed_step set_step read_step arm_step step_step expr_step core_step query_step operand_step item_step from_step join_step (record { word = tree.word; all = tree.all; at = tree.at; operand = tree.operand })

pub core-set-least : (tree : SetTree) (k : Core) → tree ≡ set.Core k → set_least tree ≡ core_least k
unfolding body_least listed_least set_least read_least arm_least step_least expr_least core_least least_height operand_least item_least from_least join_least
core-set-least tree k is = ap set_least (is ∙ sym (set.rolls-Core k)) ∙ fold-roll-SetTree ℕ ℕ ℕ ℕ ℕ ℕ ℕ ℕ ℕ ℕ ℕ ℕ ℕ
    body_step listed_step set_step read_step arm_step step_step expr_step core_step query_step operand_step item_step from_step join_step (SetTree-F.Core k)

pub paren-set-least : (tree : SetTree) (q : QueryTree) → tree ≡ set.Paren q → set_least tree ≡ least_height q
unfolding body_least listed_least set_least read_least arm_least step_least expr_least core_least least_height operand_least item_least from_least join_least
paren-set-least tree q is = ap set_least (is ∙ sym (set.rolls-Paren q)) ∙ fold-roll-SetTree ℕ ℕ ℕ ℕ ℕ ℕ ℕ ℕ ℕ ℕ ℕ ℕ ℕ
    body_step listed_step set_step read_step arm_step step_step expr_step core_step query_step operand_step item_step from_step join_step (SetTree-F.«SetTree::Paren» q)

pub chain-set-least : (tree : SetTree) (f : SetTree) (ss : List SetStep) → tree ≡ set.Chain f ss → set_least tree ≡ chain_least (set_least f) (map operand_least ss)
unfolding body_least listed_least set_least read_least arm_least step_least expr_least core_least least_height operand_least item_least from_least join_least
chain-set-least tree f ss is = ap set_least (is ∙ sym (set.rolls-Chain f ss)) ∙ fold-roll-SetTree ℕ ℕ ℕ ℕ ℕ ℕ ℕ ℕ ℕ ℕ ℕ ℕ ℕ
    body_step listed_step set_step read_step arm_step step_step expr_step core_step query_step operand_step item_step from_step join_step (SetTree-F.«SetTree::Chain» f ss)

pub star-least : (item : SelectItem) (at : ℕ) → item ≡ i.Star at → listed_least item ≡ 0
unfolding body_least listed_least set_least read_least arm_least step_least expr_least core_least least_height operand_least item_least from_least join_least
star-least item at is = ap listed_least (is ∙ sym (i.rolls-Star at)) ∙ fold-roll-SelectItem ℕ ℕ ℕ ℕ ℕ ℕ ℕ ℕ ℕ ℕ ℕ ℕ ℕ
    body_step listed_step set_step read_step arm_step step_step expr_step core_step query_step operand_step item_step from_step join_step (SelectItem-F.Star at)

pub table-star-least : (item : SelectItem) (n : Name) → item ≡ i.TableStar n → listed_least item ≡ 0
unfolding body_least listed_least set_least read_least arm_least step_least expr_least core_least least_height operand_least item_least from_least join_least
table-star-least item n is = ap listed_least (is ∙ sym (i.rolls-TableStar n)) ∙ fold-roll-SelectItem ℕ ℕ ℕ ℕ ℕ ℕ ℕ ℕ ℕ ℕ ℕ ℕ ℕ
    body_step listed_step set_step read_step arm_step step_step expr_step core_step query_step operand_step item_step from_step join_step (SelectItem-F.TableStar n)

pub value-least : (item : SelectItem) (p : ExprTree) (o : Option Name) → item ≡ i.Value p o → listed_least item ≡ expr_least p
unfolding body_least listed_least set_least read_least arm_least step_least expr_least core_least least_height operand_least item_least from_least join_least
value-least item p o is = ap listed_least (is ∙ sym (i.rolls-Value p o)) ∙ fold-roll-SelectItem ℕ ℕ ℕ ℕ ℕ ℕ ℕ ℕ ℕ ℕ ℕ ℕ ℕ
    body_step listed_step set_step read_step arm_step step_step expr_step core_step query_step operand_step item_step from_step join_step (SelectItem-F.Value p o)

abbrev core-of : List SelectItem → List FromTree → Option ExprTree → Option ExprTree → ℕ
core-of items sources condition having = above (max (max (max (sources_least (map from_least sources)) (if_there (option_map expr_least condition)))
    (if_there (option_map expr_least having))) (highest (map listed_least items)))

core-record : (at : ℕ) (provenance : Option ℕ) (distinct : Bool) (items : List SelectItem) (sources : List FromTree) (condition : Option ExprTree)
    (groups : List ColRef) (having : Option ExprTree)
    → core_least (roll-Core (record { at = at; provenance = provenance; distinct = distinct; items = items; sources = sources; condition = condition; groups = groups; having = having })) ≡ core-of items sources condition having
unfolding body_least listed_least set_least read_least arm_least step_least expr_least core_least least_height operand_least item_least from_least join_least
core-record at provenance distinct items sources None groups None = fold-roll-Core ℕ ℕ ℕ ℕ ℕ ℕ ℕ ℕ ℕ ℕ ℕ ℕ ℕ
    body_step listed_step set_step read_step arm_step step_step expr_step core_step query_step operand_step item_step from_step join_step (record { at = at; provenance = provenance; distinct = distinct; items = items; sources = sources; condition = None; groups = groups; having = None })
core-record at provenance distinct items sources None groups (Some h) = fold-roll-Core ℕ ℕ ℕ ℕ ℕ ℕ ℕ ℕ ℕ ℕ ℕ ℕ ℕ
    body_step listed_step set_step read_step arm_step step_step expr_step core_step query_step operand_step item_step from_step join_step (record { at = at; provenance = provenance; distinct = distinct; items = items; sources = sources; condition = None; groups = groups; having = (Some h) })
core-record at provenance distinct items sources (Some c) groups None = fold-roll-Core ℕ ℕ ℕ ℕ ℕ ℕ ℕ ℕ ℕ ℕ ℕ ℕ ℕ
    body_step listed_step set_step read_step arm_step step_step expr_step core_step query_step operand_step item_step from_step join_step (record { at = at; provenance = provenance; distinct = distinct; items = items; sources = sources; condition = (Some c); groups = groups; having = None })
core-record at provenance distinct items sources (Some c) groups (Some h) = fold-roll-Core ℕ ℕ ℕ ℕ ℕ ℕ ℕ ℕ ℕ ℕ ℕ ℕ ℕ
    body_step listed_step set_step read_step arm_step step_step expr_step core_step query_step operand_step item_step from_step join_step (record { at = at; provenance = provenance; distinct = distinct; items = items; sources = sources; condition = (Some c); groups = groups; having = (Some h) })

pub core-least : (tree : Core) → core_least tree ≡ above (max (max (max (sources_least (map from_least (out-Core tree).sources)) (if_there (option_map expr_least (out-Core tree).condition)))
    (if_there (option_map expr_least (out-Core tree).having))) (highest (map listed_least (out-Core tree).items)))
core-least tree = ap core_least (sym (roll-out-Core tree)) ∙ core-record (out-Core tree).at (out-Core tree).provenance (out-Core tree).distinct (out-Core tree).items
    (out-Core tree).sources (out-Core tree).condition (out-Core tree).groups (out-Core tree).having

-- ---- FROM

read-named : (name : Name) → read_least (source.Named name) ≡ 0
unfolding body_least listed_least set_least read_least arm_least step_least expr_least core_least least_height operand_least item_least from_least join_least
read-named name = ap read_least (sym (source.rolls-Named name)) ∙ fold-roll-FromSource ℕ ℕ ℕ ℕ ℕ ℕ ℕ ℕ ℕ ℕ ℕ ℕ ℕ
    body_step listed_step set_step read_step arm_step step_step expr_step core_step query_step operand_step item_step from_step join_step (FromSource-F.Named name)

read-inner : (q : QueryTree) → read_least (source.Inner q) ≡ least_height q
unfolding body_least listed_least set_least read_least arm_least step_least expr_least core_least least_height operand_least item_least from_least join_least
read-inner q = ap read_least (sym (source.rolls-Inner q)) ∙ fold-roll-FromSource ℕ ℕ ℕ ℕ ℕ ℕ ℕ ℕ ℕ ℕ ℕ ℕ ℕ
    body_step listed_step set_step read_step arm_step step_step expr_step core_step query_step operand_step item_step from_step join_step (FromSource-F.Inner q)

item-is : (item : FromItem) → item_least item ≡ read_least item.source
unfolding body_least listed_least set_least read_least arm_least step_least expr_least core_least least_height operand_least item_least from_least join_least
item-is item = fold-roll-FromItem ℕ ℕ ℕ ℕ ℕ ℕ ℕ ℕ ℕ ℕ ℕ ℕ ℕ
    body_step listed_step set_step read_step arm_step step_step expr_step core_step query_step operand_step item_step from_step join_step (record { at = item.at; source = item.source; alias = item.alias; mark = item.mark })

pub named-least : (item : FromItem) (name : Name) → item.source ≡ source.Named name → item_least item ≡ 0
named-least item name is = item-is item ∙ ap read_least is ∙ read-named name

pub inner-least : (item : FromItem) (q : QueryTree) → item.source ≡ source.Inner q → item_least item ≡ least_height q
inner-least item q is = item-is item ∙ ap read_least is ∙ read-inner q

pub from-least : (tree : FromTree) → from_least tree ≡ chain_least (item_least (out-FromTree tree).first) (map join_least (out-FromTree tree).joins)
unfolding body_least listed_least set_least read_least arm_least step_least expr_least core_least least_height operand_least item_least from_least join_least
from-least tree = ap from_least (sym (roll-out-FromTree tree)) ∙ fold-roll-FromTree ℕ ℕ ℕ ℕ ℕ ℕ ℕ ℕ ℕ ℕ ℕ ℕ ℕ
    body_step listed_step set_step read_step arm_step step_step expr_step core_step query_step operand_step item_step from_step join_step (out-FromTree tree)

join-record : (word : JoinWord) (item : FromItem) (condition : Option ExprTree) → join_least (roll-JoinStep (record { word = word; item = item; condition = condition }))
    ≡ cond (is_lateral word) (item_least item) (max (item_least item) (if_there (option_map expr_least condition)))
unfolding body_least listed_least set_least read_least arm_least step_least expr_least core_least least_height operand_least item_least from_least join_least
join-record word item None = fold-roll-JoinStep ℕ ℕ ℕ ℕ ℕ ℕ ℕ ℕ ℕ ℕ ℕ ℕ ℕ
    body_step listed_step set_step read_step arm_step step_step expr_step core_step query_step operand_step item_step from_step join_step (record { word = word; item = item; condition = None })
join-record word item (Some c) = fold-roll-JoinStep ℕ ℕ ℕ ℕ ℕ ℕ ℕ ℕ ℕ ℕ ℕ ℕ ℕ
    body_step listed_step set_step read_step arm_step step_step expr_step core_step query_step operand_step item_step from_step join_step (record { word = word; item = item; condition = (Some c) })

join-is : (step : JoinStep) → join_least step ≡ cond (is_lateral (out-JoinStep step).word) (item_least (out-JoinStep step).item)
    (max (item_least (out-JoinStep step).item) (if_there (option_map expr_least (out-JoinStep step).condition)))
join-is step = ap join_least (sym (roll-out-JoinStep step)) ∙ join-record (out-JoinStep step).word (out-JoinStep step).item (out-JoinStep step).condition

pub lateral-least : (step : JoinStep) → is_lateral (out-JoinStep step).word ≡ true → join_least step ≡ item_least (out-JoinStep step).item
lateral-least step lateral = join-is step
    ∙ ap (λ b. cond b (item_least (out-JoinStep step).item) (max (item_least (out-JoinStep step).item) (if_there (option_map expr_least (out-JoinStep step).condition)))) lateral

pub plain-least : (step : JoinStep) → is_lateral (out-JoinStep step).word ≡ false
    → join_least step ≡ max (item_least (out-JoinStep step).item) (if_there (option_map expr_least (out-JoinStep step).condition))
plain-least step plain = join-is step
    ∙ ap (λ b. cond b (item_least (out-JoinStep step).item) (max (item_least (out-JoinStep step).item) (if_there (option_map expr_least (out-JoinStep step).condition)))) plain
