-- What each form of a tree means: its step, on what its parts mean.
use Rattle.std.specs.Prelude.{◌≡◌, ℕ, ℤ, Bool, List, map, Option, Some, None}
use Rattle.std.proofs.Common.{refl, sym, ap, ◌∙◌}
use Rattle.null_logic.specs.declared.arith.Arith.{Arith}
use Rattle.null_logic.specs.declared.compare.Compare.{Compare}
use Rattle.null_logic.specs.declared.operator.Operator.{Operator}
use Rattle.null_logic.specs.declared.truth.Truth.{Truth}
use Rattle.perm_catalog.specs.Contents.{Contents}
use Rattle.perm_values.specs.declared.kind.Kind.{Kind}
use Rattle.sql_tree.specs.declared.expression.AggWord.{AggWord}
use Rattle.sql_tree.specs.declared.name.ColRef.{ColRef}
use Rattle.sql_tree.specs.declared.name.Name.{Name}
use Rattle.sql_tree.specs.declared.query.OrderTree.{OrderTree}
use Rattle.sql_tree.specs.declared.query.SetWord.{SetWord}
use Rattle.sql_tree.specs.declared.source.JoinWord.{JoinWord}
use Rattle.sql_tree.specs.declared.source.ScopeMark.{ScopeMark}
use Rattle.sql_tree.specs.declared.expression.ExprBody.TheVariants as e
use Rattle.sql_tree.specs.declared.query.SelectItem.TheVariants as i
use Rattle.sql_tree.specs.declared.query.SetTree.TheVariants as set
use Rattle.sql_tree.specs.declared.source.FromSource.TheVariants as source
use Rattle.sql_tree.specs.declared.expression.ExprBody.TheOpen.{ExprBody-F, SelectItem-F, SetTree-F, FromSource-F, ArmTree-F, ExprStep-F, ExprTree-F, Core-F, QueryTree-F, SetStep-F, FromItem-F, FromTree-F, JoinStep-F}
use Rattle.sql_tree.specs.declared.expression.ExprBody.TheFolds.{fold-roll-ExprBody, fold-roll-SelectItem, fold-roll-SetTree, fold-roll-FromSource, fold-roll-ArmTree, fold-roll-ExprStep, fold-roll-ExprTree, fold-roll-Core, fold-roll-QueryTree, fold-roll-SetStep, fold-roll-FromItem, fold-roll-FromTree, fold-roll-JoinStep}
use Rattle.name_meaning.specs.Cores.{BodyPart, core_step}
use Rattle.name_meaning.specs.Expressions.{Body, StepPart, ArmPart, body_step, arm_step, step_step, expr_step}
use Rattle.name_meaning.specs.Froms.{SourcePart, FromItemPart, FromPart, JoinPart, source_step, from_item_step, from_step, join_step}
use Rattle.name_meaning.specs.Items.{SelectPart, item_step}
use Rattle.name_meaning.specs.Meanings.{Surroundings, Meant, Part, means_at, Around, QueryMeant, QueryPart, query_means_at}
use Rattle.name_meaning.specs.Queries.{SetStepPart, set_step, set_step_step, query_step}
use Rattle.name_meaning.specs.Trees.{body_of, item_of, set_of_tree, source_of, arm_of, step_of, part_of, core_of, query_of, set_step_of, from_item_of, from_of, join_of}
use Rattle.sql_tree.specs.declared.expression.ExprBody.{ExprBody}
use Rattle.sql_tree.specs.declared.query.SelectItem.{SelectItem}
use Rattle.sql_tree.specs.declared.query.SetTree.{SetTree}
use Rattle.sql_tree.specs.declared.source.FromSource.{FromSource}
use Rattle.sql_tree.specs.declared.expression.ArmTree.{ArmTree}
use Rattle.sql_tree.specs.declared.expression.ExprStep.{ExprStep}
use Rattle.sql_tree.specs.declared.expression.ExprTree.{ExprTree}
use Rattle.sql_tree.specs.declared.query.Core.{Core, roll-Core}
use Rattle.sql_tree.specs.declared.query.QueryTree.{QueryTree}
use Rattle.sql_tree.specs.declared.query.SetStep.{SetStep}
use Rattle.sql_tree.specs.declared.source.FromItem.{FromItem}
use Rattle.sql_tree.specs.declared.source.FromTree.{FromTree, roll-FromTree}
use Rattle.sql_tree.specs.declared.source.JoinStep.{JoinStep, roll-JoinStep}

-- ---- one level of each type, its parts seen

abbrev pub ExprBodyFrame : Type 0
ExprBodyFrame = ExprBody-F Body SelectPart BodyPart SourcePart ArmPart StepPart Part BodyPart QueryPart SetStepPart FromItemPart FromPart JoinPart

abbrev pub SelectItemFrame : Type 0
SelectItemFrame = SelectItem-F Body SelectPart BodyPart SourcePart ArmPart StepPart Part BodyPart QueryPart SetStepPart FromItemPart FromPart JoinPart

abbrev pub SetTreeFrame : Type 0
SetTreeFrame = SetTree-F Body SelectPart BodyPart SourcePart ArmPart StepPart Part BodyPart QueryPart SetStepPart FromItemPart FromPart JoinPart

abbrev pub FromSourceFrame : Type 0
FromSourceFrame = FromSource-F Body SelectPart BodyPart SourcePart ArmPart StepPart Part BodyPart QueryPart SetStepPart FromItemPart FromPart JoinPart

abbrev pub ArmTreeFrame : Type 0
ArmTreeFrame = ArmTree-F Body SelectPart BodyPart SourcePart ArmPart StepPart Part BodyPart QueryPart SetStepPart FromItemPart FromPart JoinPart

abbrev pub ExprStepFrame : Type 0
ExprStepFrame = ExprStep-F Body SelectPart BodyPart SourcePart ArmPart StepPart Part BodyPart QueryPart SetStepPart FromItemPart FromPart JoinPart

abbrev pub ExprTreeFrame : Type 0
ExprTreeFrame = ExprTree-F Body SelectPart BodyPart SourcePart ArmPart StepPart Part BodyPart QueryPart SetStepPart FromItemPart FromPart JoinPart

abbrev pub CoreFrame : Type 0
CoreFrame = Core-F Body SelectPart BodyPart SourcePart ArmPart StepPart Part BodyPart QueryPart SetStepPart FromItemPart FromPart JoinPart

abbrev pub QueryTreeFrame : Type 0
QueryTreeFrame = QueryTree-F Body SelectPart BodyPart SourcePart ArmPart StepPart Part BodyPart QueryPart SetStepPart FromItemPart FromPart JoinPart

abbrev pub SetStepFrame : Type 0
SetStepFrame = SetStep-F Body SelectPart BodyPart SourcePart ArmPart StepPart Part BodyPart QueryPart SetStepPart FromItemPart FromPart JoinPart

abbrev pub FromItemFrame : Type 0
FromItemFrame = FromItem-F Body SelectPart BodyPart SourcePart ArmPart StepPart Part BodyPart QueryPart SetStepPart FromItemPart FromPart JoinPart

abbrev pub FromTreeFrame : Type 0
FromTreeFrame = FromTree-F Body SelectPart BodyPart SourcePart ArmPart StepPart Part BodyPart QueryPart SetStepPart FromItemPart FromPart JoinPart

abbrev pub JoinStepFrame : Type 0
JoinStepFrame = JoinStep-F Body SelectPart BodyPart SourcePart ArmPart StepPart Part BodyPart QueryPart SetStepPart FromItemPart FromPart JoinPart

-- ---- the steps, which wait for a token: a tree is rewritten by its equations first, and then all of it is computed at once

pub data Token : Type 0 where
  given : Token

unfoldable pub token : Token
token = given

-- `rw token-given` lets all steps compute
pub token-given : token ≡ given
unfolding token
token-given = refl

abbrev pub means_when : Token → Part → Surroundings → Meant
means_when given part here = part.means here

pub means-waiting : (part : Part) (here : Surroundings) → means_at part here ≡ means_when token part here
unfolding means_at token
means-waiting part here = refl

abbrev pub query_means_when : Token → QueryPart → Around → QueryMeant
query_means_when given query around = query.means around

pub query_means-waiting : (query : QueryPart) (around : Around) → query_means_at query around ≡ query_means_when token query around
unfolding query_means_at token
query_means-waiting query around = refl

abbrev pub ExprBody_when : Token → ExprBodyFrame → Body
ExprBody_when given frame = body_step frame

abbrev pub ExprBody_made : ExprBodyFrame → Body
ExprBody_made frame = ExprBody_when token frame

abbrev pub SelectItem_when : Token → SelectItemFrame → SelectPart
SelectItem_when given frame = item_step frame

abbrev pub SelectItem_made : SelectItemFrame → SelectPart
SelectItem_made frame = SelectItem_when token frame

abbrev pub SetTree_when : Token → SetTreeFrame → BodyPart
SetTree_when given frame = set_step frame

abbrev pub SetTree_made : SetTreeFrame → BodyPart
SetTree_made frame = SetTree_when token frame

abbrev pub FromSource_when : Token → FromSourceFrame → SourcePart
FromSource_when given frame = source_step frame

abbrev pub FromSource_made : FromSourceFrame → SourcePart
FromSource_made frame = FromSource_when token frame

abbrev pub ArmTree_when : Token → ArmTreeFrame → ArmPart
ArmTree_when given frame = arm_step frame

abbrev pub ArmTree_made : ArmTreeFrame → ArmPart
ArmTree_made frame = ArmTree_when token frame

abbrev pub ExprStep_when : Token → ExprStepFrame → StepPart
ExprStep_when given frame = step_step frame

abbrev pub ExprStep_made : ExprStepFrame → StepPart
ExprStep_made frame = ExprStep_when token frame

abbrev pub ExprTree_when : Token → ExprTreeFrame → Part
ExprTree_when given frame = expr_step frame

abbrev pub ExprTree_made : ExprTreeFrame → Part
ExprTree_made frame = ExprTree_when token frame

abbrev pub Core_when : Token → CoreFrame → BodyPart
Core_when given frame = core_step frame

abbrev pub Core_made : CoreFrame → BodyPart
Core_made frame = Core_when token frame

abbrev pub QueryTree_when : Token → QueryTreeFrame → QueryPart
QueryTree_when given frame = query_step frame

abbrev pub QueryTree_made : QueryTreeFrame → QueryPart
QueryTree_made frame = QueryTree_when token frame

abbrev pub SetStep_when : Token → SetStepFrame → SetStepPart
SetStep_when given frame = set_step_step frame

abbrev pub SetStep_made : SetStepFrame → SetStepPart
SetStep_made frame = SetStep_when token frame

abbrev pub FromItem_when : Token → Contents → FromItemFrame → FromItemPart
FromItem_when given c frame = from_item_step c frame

abbrev pub FromItem_made : Contents → FromItemFrame → FromItemPart
FromItem_made c frame = FromItem_when token c frame

abbrev pub FromTree_when : Token → FromTreeFrame → FromPart
FromTree_when given frame = from_step frame

abbrev pub FromTree_made : FromTreeFrame → FromPart
FromTree_made frame = FromTree_when token frame

abbrev pub JoinStep_when : Token → JoinStepFrame → JoinPart
JoinStep_when given frame = join_step frame

abbrev pub JoinStep_made : JoinStepFrame → JoinPart
JoinStep_made frame = JoinStep_when token frame

-- ---- the equations

pub exprbody-null : (c : Contents) → body_of c (e.Null) ≡ ExprBody_made (ExprBody-F.Null)
unfolding body_of item_of set_of_tree source_of arm_of step_of part_of core_of query_of set_step_of from_item_of from_of join_of token
exprbody-null c = ap (body_of c) (sym (e.rolls-Null)) ∙ fold-roll-ExprBody Body SelectPart BodyPart SourcePart ArmPart StepPart Part BodyPart QueryPart SetStepPart FromItemPart FromPart JoinPart
    body_step item_step set_step source_step arm_step step_step expr_step core_step query_step set_step_step (from_item_step c) from_step join_step (ExprBody-F.Null)

pub exprbody-nullof : (c : Contents) (k : Kind) → body_of c (e.NullOf k) ≡ ExprBody_made (ExprBody-F.NullOf k)
unfolding body_of item_of set_of_tree source_of arm_of step_of part_of core_of query_of set_step_of from_item_of from_of join_of token
exprbody-nullof c k = ap (body_of c) (sym (e.rolls-NullOf k)) ∙ fold-roll-ExprBody Body SelectPart BodyPart SourcePart ArmPart StepPart Part BodyPart QueryPart SetStepPart FromItemPart FromPart JoinPart
    body_step item_step set_step source_step arm_step step_step expr_step core_step query_step set_step_step (from_item_step c) from_step join_step (ExprBody-F.NullOf k)

pub exprbody-integer : (c : Contents) (n : ℤ) → body_of c (e.Integer n) ≡ ExprBody_made (ExprBody-F.Integer n)
unfolding body_of item_of set_of_tree source_of arm_of step_of part_of core_of query_of set_step_of from_item_of from_of join_of token
exprbody-integer c n = ap (body_of c) (sym (e.rolls-Integer n)) ∙ fold-roll-ExprBody Body SelectPart BodyPart SourcePart ArmPart StepPart Part BodyPart QueryPart SetStepPart FromItemPart FromPart JoinPart
    body_step item_step set_step source_step arm_step step_step expr_step core_step query_step set_step_step (from_item_step c) from_step join_step (ExprBody-F.Integer n)

pub exprbody-text : (c : Contents) (t : List ℕ) → body_of c (e.Text t) ≡ ExprBody_made (ExprBody-F.Text t)
unfolding body_of item_of set_of_tree source_of arm_of step_of part_of core_of query_of set_step_of from_item_of from_of join_of token
exprbody-text c t = ap (body_of c) (sym (e.rolls-Text t)) ∙ fold-roll-ExprBody Body SelectPart BodyPart SourcePart ArmPart StepPart Part BodyPart QueryPart SetStepPart FromItemPart FromPart JoinPart
    body_step item_step set_step source_step arm_step step_step expr_step core_step query_step set_step_step (from_item_step c) from_step join_step (ExprBody-F.Text t)

pub exprbody-truth : (c : Contents) (b : Bool) → body_of c (e.Truth b) ≡ ExprBody_made (ExprBody-F.Truth b)
unfolding body_of item_of set_of_tree source_of arm_of step_of part_of core_of query_of set_step_of from_item_of from_of join_of token
exprbody-truth c b = ap (body_of c) (sym (e.rolls-Truth b)) ∙ fold-roll-ExprBody Body SelectPart BodyPart SourcePart ArmPart StepPart Part BodyPart QueryPart SetStepPart FromItemPart FromPart JoinPart
    body_step item_step set_step source_step arm_step step_step expr_step core_step query_step set_step_step (from_item_step c) from_step join_step (ExprBody-F.Truth b)

pub exprbody-column : (c : Contents) (r : ColRef) → body_of c (e.Column r) ≡ ExprBody_made (ExprBody-F.Column r)
unfolding body_of item_of set_of_tree source_of arm_of step_of part_of core_of query_of set_step_of from_item_of from_of join_of token
exprbody-column c r = ap (body_of c) (sym (e.rolls-Column r)) ∙ fold-roll-ExprBody Body SelectPart BodyPart SourcePart ArmPart StepPart Part BodyPart QueryPart SetStepPart FromItemPart FromPart JoinPart
    body_step item_step set_step source_step arm_step step_step expr_step core_step query_step set_step_step (from_item_step c) from_step join_step (ExprBody-F.Column r)

pub exprbody-paren : (c : Contents) (p : ExprTree) → body_of c (e.Paren p) ≡ ExprBody_made (ExprBody-F.«ExprBody::Paren» (part_of c p))
unfolding body_of item_of set_of_tree source_of arm_of step_of part_of core_of query_of set_step_of from_item_of from_of join_of token
exprbody-paren c p = ap (body_of c) (sym (e.rolls-Paren p)) ∙ fold-roll-ExprBody Body SelectPart BodyPart SourcePart ArmPart StepPart Part BodyPart QueryPart SetStepPart FromItemPart FromPart JoinPart
    body_step item_step set_step source_step arm_step step_step expr_step core_step query_step set_step_step (from_item_step c) from_step join_step (ExprBody-F.«ExprBody::Paren» p)

pub exprbody-nots : (c : Contents) (n : ℕ) (p : ExprTree) → body_of c (e.Nots n p) ≡ ExprBody_made (ExprBody-F.Nots n (part_of c p))
unfolding body_of item_of set_of_tree source_of arm_of step_of part_of core_of query_of set_step_of from_item_of from_of join_of token
exprbody-nots c n p = ap (body_of c) (sym (e.rolls-Nots n p)) ∙ fold-roll-ExprBody Body SelectPart BodyPart SourcePart ArmPart StepPart Part BodyPart QueryPart SetStepPart FromItemPart FromPart JoinPart
    body_step item_step set_step source_step arm_step step_step expr_step core_step query_step set_step_step (from_item_step c) from_step join_step (ExprBody-F.Nots n p)

pub exprbody-signs : (c : Contents) (n : ℕ) (p : ExprTree) → body_of c (e.Signs n p) ≡ ExprBody_made (ExprBody-F.Signs n (part_of c p))
unfolding body_of item_of set_of_tree source_of arm_of step_of part_of core_of query_of set_step_of from_item_of from_of join_of token
exprbody-signs c n p = ap (body_of c) (sym (e.rolls-Signs n p)) ∙ fold-roll-ExprBody Body SelectPart BodyPart SourcePart ArmPart StepPart Part BodyPart QueryPart SetStepPart FromItemPart FromPart JoinPart
    body_step item_step set_step source_step arm_step step_step expr_step core_step query_step set_step_step (from_item_step c) from_step join_step (ExprBody-F.Signs n p)

pub exprbody-logic : (c : Contents) (op : Operator) (ps : List ExprTree) → body_of c (e.Logic op ps) ≡ ExprBody_made (ExprBody-F.Logic op (map (part_of c) ps))
unfolding body_of item_of set_of_tree source_of arm_of step_of part_of core_of query_of set_step_of from_item_of from_of join_of token
exprbody-logic c op ps = ap (body_of c) (sym (e.rolls-Logic op ps)) ∙ fold-roll-ExprBody Body SelectPart BodyPart SourcePart ArmPart StepPart Part BodyPart QueryPart SetStepPart FromItemPart FromPart JoinPart
    body_step item_step set_step source_step arm_step step_step expr_step core_step query_step set_step_step (from_item_step c) from_step join_step (ExprBody-F.Logic op ps)

pub exprbody-chain : (c : Contents) (p : ExprTree) (ss : List ExprStep) → body_of c (e.Chain p ss) ≡ ExprBody_made (ExprBody-F.«ExprBody::Chain» (part_of c p) (map (step_of c) ss))
unfolding body_of item_of set_of_tree source_of arm_of step_of part_of core_of query_of set_step_of from_item_of from_of join_of token
exprbody-chain c p ss = ap (body_of c) (sym (e.rolls-Chain p ss)) ∙ fold-roll-ExprBody Body SelectPart BodyPart SourcePart ArmPart StepPart Part BodyPart QueryPart SetStepPart FromItemPart FromPart JoinPart
    body_step item_step set_step source_step arm_step step_step expr_step core_step query_step set_step_step (from_item_step c) from_step join_step (ExprBody-F.«ExprBody::Chain» p ss)

pub exprbody-compared : (c : Contents) (op : Compare) (p : ExprTree) (q : ExprTree) → body_of c (e.Compared op p q) ≡ ExprBody_made (ExprBody-F.Compared op (part_of c p) (part_of c q))
unfolding body_of item_of set_of_tree source_of arm_of step_of part_of core_of query_of set_step_of from_item_of from_of join_of token
exprbody-compared c op p q = ap (body_of c) (sym (e.rolls-Compared op p q)) ∙ fold-roll-ExprBody Body SelectPart BodyPart SourcePart ArmPart StepPart Part BodyPart QueryPart SetStepPart FromItemPart FromPart JoinPart
    body_step item_step set_step source_step arm_step step_step expr_step core_step query_step set_step_step (from_item_step c) from_step join_step (ExprBody-F.Compared op p q)

pub exprbody-like : (c : Contents) (b : Bool) (p : ExprTree) (q : ExprTree) → body_of c (e.Like b p q) ≡ ExprBody_made (ExprBody-F.Like b (part_of c p) (part_of c q))
unfolding body_of item_of set_of_tree source_of arm_of step_of part_of core_of query_of set_step_of from_item_of from_of join_of token
exprbody-like c b p q = ap (body_of c) (sym (e.rolls-Like b p q)) ∙ fold-roll-ExprBody Body SelectPart BodyPart SourcePart ArmPart StepPart Part BodyPart QueryPart SetStepPart FromItemPart FromPart JoinPart
    body_step item_step set_step source_step arm_step step_step expr_step core_step query_step set_step_step (from_item_step c) from_step join_step (ExprBody-F.Like b p q)

pub exprbody-between : (c : Contents) (b : Bool) (p : ExprTree) (q : ExprTree) (s : ExprTree) → body_of c (e.Between b p q s) ≡ ExprBody_made (ExprBody-F.Between b (part_of c p) (part_of c q) (part_of c s))
unfolding body_of item_of set_of_tree source_of arm_of step_of part_of core_of query_of set_step_of from_item_of from_of join_of token
exprbody-between c b p q s = ap (body_of c) (sym (e.rolls-Between b p q s)) ∙ fold-roll-ExprBody Body SelectPart BodyPart SourcePart ArmPart StepPart Part BodyPart QueryPart SetStepPart FromItemPart FromPart JoinPart
    body_step item_step set_step source_step arm_step step_step expr_step core_step query_step set_step_step (from_item_step c) from_step join_step (ExprBody-F.Between b p q s)

pub exprbody-inlist : (c : Contents) (b : Bool) (p : ExprTree) (ps : List ExprTree) → body_of c (e.InList b p ps) ≡ ExprBody_made (ExprBody-F.InList b (part_of c p) (map (part_of c) ps))
unfolding body_of item_of set_of_tree source_of arm_of step_of part_of core_of query_of set_step_of from_item_of from_of join_of token
exprbody-inlist c b p ps = ap (body_of c) (sym (e.rolls-InList b p ps)) ∙ fold-roll-ExprBody Body SelectPart BodyPart SourcePart ArmPart StepPart Part BodyPart QueryPart SetStepPart FromItemPart FromPart JoinPart
    body_step item_step set_step source_step arm_step step_step expr_step core_step query_step set_step_step (from_item_step c) from_step join_step (ExprBody-F.InList b p ps)

pub exprbody-inquery : (c : Contents) (b : Bool) (p : ExprTree) (q : QueryTree) → body_of c (e.InQuery b p q) ≡ ExprBody_made (ExprBody-F.InQuery b (part_of c p) (query_of c q))
unfolding body_of item_of set_of_tree source_of arm_of step_of part_of core_of query_of set_step_of from_item_of from_of join_of token
exprbody-inquery c b p q = ap (body_of c) (sym (e.rolls-InQuery b p q)) ∙ fold-roll-ExprBody Body SelectPart BodyPart SourcePart ArmPart StepPart Part BodyPart QueryPart SetStepPart FromItemPart FromPart JoinPart
    body_step item_step set_step source_step arm_step step_step expr_step core_step query_step set_step_step (from_item_step c) from_step join_step (ExprBody-F.InQuery b p q)

pub exprbody-quantified : (c : Contents) (b : Bool) (op : Compare) (p : ExprTree) (q : QueryTree) → body_of c (e.Quantified b op p q) ≡ ExprBody_made (ExprBody-F.Quantified b op (part_of c p) (query_of c q))
unfolding body_of item_of set_of_tree source_of arm_of step_of part_of core_of query_of set_step_of from_item_of from_of join_of token
exprbody-quantified c b op p q = ap (body_of c) (sym (e.rolls-Quantified b op p q)) ∙ fold-roll-ExprBody Body SelectPart BodyPart SourcePart ArmPart StepPart Part BodyPart QueryPart SetStepPart FromItemPart FromPart JoinPart
    body_step item_step set_step source_step arm_step step_step expr_step core_step query_step set_step_step (from_item_step c) from_step join_step (ExprBody-F.Quantified b op p q)

pub exprbody-isnull : (c : Contents) (b : Bool) (p : ExprTree) → body_of c (e.IsNull b p) ≡ ExprBody_made (ExprBody-F.IsNull b (part_of c p))
unfolding body_of item_of set_of_tree source_of arm_of step_of part_of core_of query_of set_step_of from_item_of from_of join_of token
exprbody-isnull c b p = ap (body_of c) (sym (e.rolls-IsNull b p)) ∙ fold-roll-ExprBody Body SelectPart BodyPart SourcePart ArmPart StepPart Part BodyPart QueryPart SetStepPart FromItemPart FromPart JoinPart
    body_step item_step set_step source_step arm_step step_step expr_step core_step query_step set_step_step (from_item_step c) from_step join_step (ExprBody-F.IsNull b p)

pub exprbody-istruth : (c : Contents) (b : Bool) (t : Truth) (p : ExprTree) → body_of c (e.IsTruth b t p) ≡ ExprBody_made (ExprBody-F.IsTruth b t (part_of c p))
unfolding body_of item_of set_of_tree source_of arm_of step_of part_of core_of query_of set_step_of from_item_of from_of join_of token
exprbody-istruth c b t p = ap (body_of c) (sym (e.rolls-IsTruth b t p)) ∙ fold-roll-ExprBody Body SelectPart BodyPart SourcePart ArmPart StepPart Part BodyPart QueryPart SetStepPart FromItemPart FromPart JoinPart
    body_step item_step set_step source_step arm_step step_step expr_step core_step query_step set_step_step (from_item_step c) from_step join_step (ExprBody-F.IsTruth b t p)

pub exprbody-isdistinct : (c : Contents) (b : Bool) (p : ExprTree) (q : ExprTree) → body_of c (e.IsDistinct b p q) ≡ ExprBody_made (ExprBody-F.IsDistinct b (part_of c p) (part_of c q))
unfolding body_of item_of set_of_tree source_of arm_of step_of part_of core_of query_of set_step_of from_item_of from_of join_of token
exprbody-isdistinct c b p q = ap (body_of c) (sym (e.rolls-IsDistinct b p q)) ∙ fold-roll-ExprBody Body SelectPart BodyPart SourcePart ArmPart StepPart Part BodyPart QueryPart SetStepPart FromItemPart FromPart JoinPart
    body_step item_step set_step source_step arm_step step_step expr_step core_step query_step set_step_step (from_item_step c) from_step join_step (ExprBody-F.IsDistinct b p q)

pub exprbody-case-none : (c : Contents) (arms : List ArmTree) → body_of c (e.Case arms None) ≡ ExprBody_made (ExprBody-F.Case (map (arm_of c) arms) None)
unfolding body_of item_of set_of_tree source_of arm_of step_of part_of core_of query_of set_step_of from_item_of from_of join_of token
exprbody-case-none c arms = ap (body_of c) (sym (e.rolls-Case arms None)) ∙ fold-roll-ExprBody Body SelectPart BodyPart SourcePart ArmPart StepPart Part BodyPart QueryPart SetStepPart FromItemPart FromPart JoinPart
    body_step item_step set_step source_step arm_step step_step expr_step core_step query_step set_step_step (from_item_step c) from_step join_step (ExprBody-F.Case arms None)

pub exprbody-case-some : (c : Contents) (arms : List ArmTree) (o : ExprTree) → body_of c (e.Case arms (Some o)) ≡ ExprBody_made (ExprBody-F.Case (map (arm_of c) arms) (Some (part_of c o)))
unfolding body_of item_of set_of_tree source_of arm_of step_of part_of core_of query_of set_step_of from_item_of from_of join_of token
exprbody-case-some c arms o = ap (body_of c) (sym (e.rolls-Case arms (Some o))) ∙ fold-roll-ExprBody Body SelectPart BodyPart SourcePart ArmPart StepPart Part BodyPart QueryPart SetStepPart FromItemPart FromPart JoinPart
    body_step item_step set_step source_step arm_step step_step expr_step core_step query_step set_step_step (from_item_step c) from_step join_step (ExprBody-F.Case arms (Some o))

pub exprbody-coalesce : (c : Contents) (ps : List ExprTree) → body_of c (e.Coalesce ps) ≡ ExprBody_made (ExprBody-F.Coalesce (map (part_of c) ps))
unfolding body_of item_of set_of_tree source_of arm_of step_of part_of core_of query_of set_step_of from_item_of from_of join_of token
exprbody-coalesce c ps = ap (body_of c) (sym (e.rolls-Coalesce ps)) ∙ fold-roll-ExprBody Body SelectPart BodyPart SourcePart ArmPart StepPart Part BodyPart QueryPart SetStepPart FromItemPart FromPart JoinPart
    body_step item_step set_step source_step arm_step step_step expr_step core_step query_step set_step_step (from_item_step c) from_step join_step (ExprBody-F.Coalesce ps)

pub exprbody-nullif : (c : Contents) (p : ExprTree) (q : ExprTree) → body_of c (e.NullIf p q) ≡ ExprBody_made (ExprBody-F.NullIf (part_of c p) (part_of c q))
unfolding body_of item_of set_of_tree source_of arm_of step_of part_of core_of query_of set_step_of from_item_of from_of join_of token
exprbody-nullif c p q = ap (body_of c) (sym (e.rolls-NullIf p q)) ∙ fold-roll-ExprBody Body SelectPart BodyPart SourcePart ArmPart StepPart Part BodyPart QueryPart SetStepPart FromItemPart FromPart JoinPart
    body_step item_step set_step source_step arm_step step_step expr_step core_step query_step set_step_step (from_item_step c) from_step join_step (ExprBody-F.NullIf p q)

pub exprbody-aggregate-none : (c : Contents) (w : AggWord) → body_of c (e.Aggregate w None) ≡ ExprBody_made (ExprBody-F.Aggregate w None)
unfolding body_of item_of set_of_tree source_of arm_of step_of part_of core_of query_of set_step_of from_item_of from_of join_of token
exprbody-aggregate-none c w = ap (body_of c) (sym (e.rolls-Aggregate w None)) ∙ fold-roll-ExprBody Body SelectPart BodyPart SourcePart ArmPart StepPart Part BodyPart QueryPart SetStepPart FromItemPart FromPart JoinPart
    body_step item_step set_step source_step arm_step step_step expr_step core_step query_step set_step_step (from_item_step c) from_step join_step (ExprBody-F.Aggregate w None)

pub exprbody-aggregate-some : (c : Contents) (w : AggWord) (o : ExprTree) → body_of c (e.Aggregate w (Some o)) ≡ ExprBody_made (ExprBody-F.Aggregate w (Some (part_of c o)))
unfolding body_of item_of set_of_tree source_of arm_of step_of part_of core_of query_of set_step_of from_item_of from_of join_of token
exprbody-aggregate-some c w o = ap (body_of c) (sym (e.rolls-Aggregate w (Some o))) ∙ fold-roll-ExprBody Body SelectPart BodyPart SourcePart ArmPart StepPart Part BodyPart QueryPart SetStepPart FromItemPart FromPart JoinPart
    body_step item_step set_step source_step arm_step step_step expr_step core_step query_step set_step_step (from_item_step c) from_step join_step (ExprBody-F.Aggregate w (Some o))

pub exprbody-exists : (c : Contents) (q : QueryTree) → body_of c (e.Exists q) ≡ ExprBody_made (ExprBody-F.Exists (query_of c q))
unfolding body_of item_of set_of_tree source_of arm_of step_of part_of core_of query_of set_step_of from_item_of from_of join_of token
exprbody-exists c q = ap (body_of c) (sym (e.rolls-Exists q)) ∙ fold-roll-ExprBody Body SelectPart BodyPart SourcePart ArmPart StepPart Part BodyPart QueryPart SetStepPart FromItemPart FromPart JoinPart
    body_step item_step set_step source_step arm_step step_step expr_step core_step query_step set_step_step (from_item_step c) from_step join_step (ExprBody-F.Exists q)

pub exprbody-scalar : (c : Contents) (q : QueryTree) → body_of c (e.Scalar q) ≡ ExprBody_made (ExprBody-F.Scalar (query_of c q))
unfolding body_of item_of set_of_tree source_of arm_of step_of part_of core_of query_of set_step_of from_item_of from_of join_of token
exprbody-scalar c q = ap (body_of c) (sym (e.rolls-Scalar q)) ∙ fold-roll-ExprBody Body SelectPart BodyPart SourcePart ArmPart StepPart Part BodyPart QueryPart SetStepPart FromItemPart FromPart JoinPart
    body_step item_step set_step source_step arm_step step_step expr_step core_step query_step set_step_step (from_item_step c) from_step join_step (ExprBody-F.Scalar q)

pub selectitem-star : (c : Contents) (at : ℕ) → item_of c (i.Star at) ≡ SelectItem_made (SelectItem-F.Star at)
unfolding body_of item_of set_of_tree source_of arm_of step_of part_of core_of query_of set_step_of from_item_of from_of join_of token
selectitem-star c at = ap (item_of c) (sym (i.rolls-Star at)) ∙ fold-roll-SelectItem Body SelectPart BodyPart SourcePart ArmPart StepPart Part BodyPart QueryPart SetStepPart FromItemPart FromPart JoinPart
    body_step item_step set_step source_step arm_step step_step expr_step core_step query_step set_step_step (from_item_step c) from_step join_step (SelectItem-F.Star at)

pub selectitem-tablestar : (c : Contents) (n : Name) → item_of c (i.TableStar n) ≡ SelectItem_made (SelectItem-F.TableStar n)
unfolding body_of item_of set_of_tree source_of arm_of step_of part_of core_of query_of set_step_of from_item_of from_of join_of token
selectitem-tablestar c n = ap (item_of c) (sym (i.rolls-TableStar n)) ∙ fold-roll-SelectItem Body SelectPart BodyPart SourcePart ArmPart StepPart Part BodyPart QueryPart SetStepPart FromItemPart FromPart JoinPart
    body_step item_step set_step source_step arm_step step_step expr_step core_step query_step set_step_step (from_item_step c) from_step join_step (SelectItem-F.TableStar n)

pub selectitem-value : (c : Contents) (p : ExprTree) (o : Option Name) → item_of c (i.Value p o) ≡ SelectItem_made (SelectItem-F.Value (part_of c p) o)
unfolding body_of item_of set_of_tree source_of arm_of step_of part_of core_of query_of set_step_of from_item_of from_of join_of token
selectitem-value c p o = ap (item_of c) (sym (i.rolls-Value p o)) ∙ fold-roll-SelectItem Body SelectPart BodyPart SourcePart ArmPart StepPart Part BodyPart QueryPart SetStepPart FromItemPart FromPart JoinPart
    body_step item_step set_step source_step arm_step step_step expr_step core_step query_step set_step_step (from_item_step c) from_step join_step (SelectItem-F.Value p o)

pub settree-core : (c : Contents) (k : Core) → set_of_tree c (set.Core k) ≡ SetTree_made (SetTree-F.Core (core_of c k))
unfolding body_of item_of set_of_tree source_of arm_of step_of part_of core_of query_of set_step_of from_item_of from_of join_of token
settree-core c k = ap (set_of_tree c) (sym (set.rolls-Core k)) ∙ fold-roll-SetTree Body SelectPart BodyPart SourcePart ArmPart StepPart Part BodyPart QueryPart SetStepPart FromItemPart FromPart JoinPart
    body_step item_step set_step source_step arm_step step_step expr_step core_step query_step set_step_step (from_item_step c) from_step join_step (SetTree-F.Core k)

pub settree-paren : (c : Contents) (q : QueryTree) → set_of_tree c (set.Paren q) ≡ SetTree_made (SetTree-F.«SetTree::Paren» (query_of c q))
unfolding body_of item_of set_of_tree source_of arm_of step_of part_of core_of query_of set_step_of from_item_of from_of join_of token
settree-paren c q = ap (set_of_tree c) (sym (set.rolls-Paren q)) ∙ fold-roll-SetTree Body SelectPart BodyPart SourcePart ArmPart StepPart Part BodyPart QueryPart SetStepPart FromItemPart FromPart JoinPart
    body_step item_step set_step source_step arm_step step_step expr_step core_step query_step set_step_step (from_item_step c) from_step join_step (SetTree-F.«SetTree::Paren» q)

pub settree-chain : (c : Contents) (f : SetTree) (ss : List SetStep) → set_of_tree c (set.Chain f ss) ≡ SetTree_made (SetTree-F.«SetTree::Chain» (set_of_tree c f) (map (set_step_of c) ss))
unfolding body_of item_of set_of_tree source_of arm_of step_of part_of core_of query_of set_step_of from_item_of from_of join_of token
settree-chain c f ss = ap (set_of_tree c) (sym (set.rolls-Chain f ss)) ∙ fold-roll-SetTree Body SelectPart BodyPart SourcePart ArmPart StepPart Part BodyPart QueryPart SetStepPart FromItemPart FromPart JoinPart
    body_step item_step set_step source_step arm_step step_step expr_step core_step query_step set_step_step (from_item_step c) from_step join_step (SetTree-F.«SetTree::Chain» f ss)

pub fromsource-named : (c : Contents) (n : Name) → source_of c (source.Named n) ≡ FromSource_made (FromSource-F.Named n)
unfolding body_of item_of set_of_tree source_of arm_of step_of part_of core_of query_of set_step_of from_item_of from_of join_of token
fromsource-named c n = ap (source_of c) (sym (source.rolls-Named n)) ∙ fold-roll-FromSource Body SelectPart BodyPart SourcePart ArmPart StepPart Part BodyPart QueryPart SetStepPart FromItemPart FromPart JoinPart
    body_step item_step set_step source_step arm_step step_step expr_step core_step query_step set_step_step (from_item_step c) from_step join_step (FromSource-F.Named n)

pub fromsource-inner : (c : Contents) (q : QueryTree) → source_of c (source.Inner q) ≡ FromSource_made (FromSource-F.Inner (query_of c q))
unfolding body_of item_of set_of_tree source_of arm_of step_of part_of core_of query_of set_step_of from_item_of from_of join_of token
fromsource-inner c q = ap (source_of c) (sym (source.rolls-Inner q)) ∙ fold-roll-FromSource Body SelectPart BodyPart SourcePart ArmPart StepPart Part BodyPart QueryPart SetStepPart FromItemPart FromPart JoinPart
    body_step item_step set_step source_step arm_step step_step expr_step core_step query_step set_step_step (from_item_step c) from_step join_step (FromSource-F.Inner q)

pub exprtree-record : (c : Contents) (at : ℕ) (body : ExprBody) → part_of c (record { at = at; body = body }) ≡ ExprTree_made (record { at = at; body = (body_of c body) })
unfolding body_of item_of set_of_tree source_of arm_of step_of part_of core_of query_of set_step_of from_item_of from_of join_of token
exprtree-record c at body = fold-roll-ExprTree Body SelectPart BodyPart SourcePart ArmPart StepPart Part BodyPart QueryPart SetStepPart FromItemPart FromPart JoinPart
    body_step item_step set_step source_step arm_step step_step expr_step core_step query_step set_step_step (from_item_step c) from_step join_step (record { at = at; body = body })

pub armtree-record : (c : Contents) (condition : ExprTree) (value : ExprTree) → arm_of c (record { condition = condition; value = value }) ≡ ArmTree_made (record { condition = (part_of c condition); value = (part_of c value) })
unfolding body_of item_of set_of_tree source_of arm_of step_of part_of core_of query_of set_step_of from_item_of from_of join_of token
armtree-record c condition value = fold-roll-ArmTree Body SelectPart BodyPart SourcePart ArmPart StepPart Part BodyPart QueryPart SetStepPart FromItemPart FromPart JoinPart
    body_step item_step set_step source_step arm_step step_step expr_step core_step query_step set_step_step (from_item_step c) from_step join_step (record { condition = condition; value = value })

pub exprstep-record : (c : Contents) (op : Arith) (part : ExprTree) → step_of c (record { op = op; part = part }) ≡ ExprStep_made (record { op = op; part = (part_of c part) })
unfolding body_of item_of set_of_tree source_of arm_of step_of part_of core_of query_of set_step_of from_item_of from_of join_of token
exprstep-record c op part = fold-roll-ExprStep Body SelectPart BodyPart SourcePart ArmPart StepPart Part BodyPart QueryPart SetStepPart FromItemPart FromPart JoinPart
    body_step item_step set_step source_step arm_step step_step expr_step core_step query_step set_step_step (from_item_step c) from_step join_step (record { op = op; part = part })

pub querytree-record : (c : Contents) (at : ℕ) (body : SetTree) (order : List OrderTree) (limit : Option ℤ) → query_of c (record { at = at; body = body; order = order; limit = limit }) ≡ QueryTree_made (record { at = at; body = (set_of_tree c body); order = order; limit = limit })
unfolding body_of item_of set_of_tree source_of arm_of step_of part_of core_of query_of set_step_of from_item_of from_of join_of token
querytree-record c at body order limit = fold-roll-QueryTree Body SelectPart BodyPart SourcePart ArmPart StepPart Part BodyPart QueryPart SetStepPart FromItemPart FromPart JoinPart
    body_step item_step set_step source_step arm_step step_step expr_step core_step query_step set_step_step (from_item_step c) from_step join_step (record { at = at; body = body; order = order; limit = limit })

pub setstep-record : (c : Contents) (word : SetWord) (all : Bool) (at : ℕ) (operand : SetTree) → set_step_of c (record { word = word; all = all; at = at; operand = operand }) ≡ SetStep_made (record { word = word; all = all; at = at; operand = (set_of_tree c operand) })
unfolding body_of item_of set_of_tree source_of arm_of step_of part_of core_of query_of set_step_of from_item_of from_of join_of token
setstep-record c word all at operand = fold-roll-SetStep Body SelectPart BodyPart SourcePart ArmPart StepPart Part BodyPart QueryPart SetStepPart FromItemPart FromPart JoinPart
    body_step item_step set_step source_step arm_step step_step expr_step core_step query_step set_step_step (from_item_step c) from_step join_step (record { word = word; all = all; at = at; operand = operand })

pub fromitem-record : (c : Contents) (at : ℕ) (source : FromSource) (alias : Option Name) (mark : ScopeMark) → from_item_of c (record { at = at; source = source; alias = alias; mark = mark }) ≡ FromItem_made c (record { at = at; source = (source_of c source); alias = alias; mark = mark })
unfolding body_of item_of set_of_tree source_of arm_of step_of part_of core_of query_of set_step_of from_item_of from_of join_of token
fromitem-record c at source alias mark = fold-roll-FromItem Body SelectPart BodyPart SourcePart ArmPart StepPart Part BodyPart QueryPart SetStepPart FromItemPart FromPart JoinPart
    body_step item_step set_step source_step arm_step step_step expr_step core_step query_step set_step_step (from_item_step c) from_step join_step (record { at = at; source = source; alias = alias; mark = mark })

pub fromtree-record : (c : Contents) (first : FromItem) (joins : List JoinStep) → from_of c (roll-FromTree (record { first = first; joins = joins })) ≡ FromTree_made (record { first = (from_item_of c first); joins = (map (join_of c) joins) })
unfolding body_of item_of set_of_tree source_of arm_of step_of part_of core_of query_of set_step_of from_item_of from_of join_of token
fromtree-record c first joins = fold-roll-FromTree Body SelectPart BodyPart SourcePart ArmPart StepPart Part BodyPart QueryPart SetStepPart FromItemPart FromPart JoinPart
    body_step item_step set_step source_step arm_step step_step expr_step core_step query_step set_step_step (from_item_step c) from_step join_step (record { first = first; joins = joins })

pub joinstep-record-none : (c : Contents) (word : JoinWord) (item : FromItem) → join_of c (roll-JoinStep (record { word = word; item = item; condition = None })) ≡ JoinStep_made (record { word = word; item = (from_item_of c item); condition = None })
unfolding body_of item_of set_of_tree source_of arm_of step_of part_of core_of query_of set_step_of from_item_of from_of join_of token
joinstep-record-none c word item = fold-roll-JoinStep Body SelectPart BodyPart SourcePart ArmPart StepPart Part BodyPart QueryPart SetStepPart FromItemPart FromPart JoinPart
    body_step item_step set_step source_step arm_step step_step expr_step core_step query_step set_step_step (from_item_step c) from_step join_step (record { word = word; item = item; condition = None })

pub joinstep-record-some : (c : Contents) (word : JoinWord) (item : FromItem) (condition : ExprTree) → join_of c (roll-JoinStep (record { word = word; item = item; condition = (Some condition) })) ≡ JoinStep_made (record { word = word; item = (from_item_of c item); condition = (Some (part_of c condition)) })
unfolding body_of item_of set_of_tree source_of arm_of step_of part_of core_of query_of set_step_of from_item_of from_of join_of token
joinstep-record-some c word item condition = fold-roll-JoinStep Body SelectPart BodyPart SourcePart ArmPart StepPart Part BodyPart QueryPart SetStepPart FromItemPart FromPart JoinPart
    body_step item_step set_step source_step arm_step step_step expr_step core_step query_step set_step_step (from_item_step c) from_step join_step (record { word = word; item = item; condition = (Some condition) })

pub core-record-none-none : (c : Contents) (at : ℕ) (provenance : Option ℕ) (distinct : Bool) (items : List SelectItem) (sources : List FromTree) (groups : List ColRef) → core_of c (roll-Core (record { at = at; provenance = provenance; distinct = distinct; items = items; sources = sources; condition = None; groups = groups; having = None })) ≡ Core_made (record { at = at; provenance = provenance; distinct = distinct; items = (map (item_of c) items); sources = (map (from_of c) sources); condition = None; groups = groups; having = None })
unfolding body_of item_of set_of_tree source_of arm_of step_of part_of core_of query_of set_step_of from_item_of from_of join_of token
core-record-none-none c at provenance distinct items sources groups = fold-roll-Core Body SelectPart BodyPart SourcePart ArmPart StepPart Part BodyPart QueryPart SetStepPart FromItemPart FromPart JoinPart
    body_step item_step set_step source_step arm_step step_step expr_step core_step query_step set_step_step (from_item_step c) from_step join_step (record { at = at; provenance = provenance; distinct = distinct; items = items; sources = sources; condition = None; groups = groups; having = None })

pub core-record-none-some : (c : Contents) (at : ℕ) (provenance : Option ℕ) (distinct : Bool) (items : List SelectItem) (sources : List FromTree) (groups : List ColRef) (having : ExprTree) → core_of c (roll-Core (record { at = at; provenance = provenance; distinct = distinct; items = items; sources = sources; condition = None; groups = groups; having = (Some having) })) ≡ Core_made (record { at = at; provenance = provenance; distinct = distinct; items = (map (item_of c) items); sources = (map (from_of c) sources); condition = None; groups = groups; having = (Some (part_of c having)) })
unfolding body_of item_of set_of_tree source_of arm_of step_of part_of core_of query_of set_step_of from_item_of from_of join_of token
core-record-none-some c at provenance distinct items sources groups having = fold-roll-Core Body SelectPart BodyPart SourcePart ArmPart StepPart Part BodyPart QueryPart SetStepPart FromItemPart FromPart JoinPart
    body_step item_step set_step source_step arm_step step_step expr_step core_step query_step set_step_step (from_item_step c) from_step join_step (record { at = at; provenance = provenance; distinct = distinct; items = items; sources = sources; condition = None; groups = groups; having = (Some having) })

pub core-record-some-none : (c : Contents) (at : ℕ) (provenance : Option ℕ) (distinct : Bool) (items : List SelectItem) (sources : List FromTree) (condition : ExprTree) (groups : List ColRef) → core_of c (roll-Core (record { at = at; provenance = provenance; distinct = distinct; items = items; sources = sources; condition = (Some condition); groups = groups; having = None })) ≡ Core_made (record { at = at; provenance = provenance; distinct = distinct; items = (map (item_of c) items); sources = (map (from_of c) sources); condition = (Some (part_of c condition)); groups = groups; having = None })
unfolding body_of item_of set_of_tree source_of arm_of step_of part_of core_of query_of set_step_of from_item_of from_of join_of token
core-record-some-none c at provenance distinct items sources condition groups = fold-roll-Core Body SelectPart BodyPart SourcePart ArmPart StepPart Part BodyPart QueryPart SetStepPart FromItemPart FromPart JoinPart
    body_step item_step set_step source_step arm_step step_step expr_step core_step query_step set_step_step (from_item_step c) from_step join_step (record { at = at; provenance = provenance; distinct = distinct; items = items; sources = sources; condition = (Some condition); groups = groups; having = None })

pub core-record-some-some : (c : Contents) (at : ℕ) (provenance : Option ℕ) (distinct : Bool) (items : List SelectItem) (sources : List FromTree) (condition : ExprTree) (groups : List ColRef) (having : ExprTree) → core_of c (roll-Core (record { at = at; provenance = provenance; distinct = distinct; items = items; sources = sources; condition = (Some condition); groups = groups; having = (Some having) })) ≡ Core_made (record { at = at; provenance = provenance; distinct = distinct; items = (map (item_of c) items); sources = (map (from_of c) sources); condition = (Some (part_of c condition)); groups = groups; having = (Some (part_of c having)) })
unfolding body_of item_of set_of_tree source_of arm_of step_of part_of core_of query_of set_step_of from_item_of from_of join_of token
core-record-some-some c at provenance distinct items sources condition groups having = fold-roll-Core Body SelectPart BodyPart SourcePart ArmPart StepPart Part BodyPart QueryPart SetStepPart FromItemPart FromPart JoinPart
    body_step item_step set_step source_step arm_step step_step expr_step core_step query_step set_step_step (from_item_step c) from_step join_step (record { at = at; provenance = provenance; distinct = distinct; items = items; sources = sources; condition = (Some condition); groups = groups; having = (Some having) })

pub ruleset tree_equations = (means-waiting, query_means-waiting, exprbody-null, exprbody-nullof, exprbody-integer, exprbody-text, exprbody-truth, exprbody-column, exprbody-paren, exprbody-nots, exprbody-signs, exprbody-logic, exprbody-chain, exprbody-compared, exprbody-like, exprbody-between, exprbody-inlist, exprbody-inquery, exprbody-quantified, exprbody-isnull, exprbody-istruth, exprbody-isdistinct, exprbody-case-none, exprbody-case-some, exprbody-coalesce, exprbody-nullif, exprbody-aggregate-none, exprbody-aggregate-some, exprbody-exists, exprbody-scalar, selectitem-star, selectitem-tablestar, selectitem-value, settree-core, settree-paren, settree-chain, fromsource-named, fromsource-inner, exprtree-record, armtree-record, exprstep-record, querytree-record, setstep-record, fromitem-record, fromtree-record, joinstep-record-none, joinstep-record-some, core-record-none-none, core-record-none-some, core-record-some-none, core-record-some-some)
