-- What an expression means: one step for each of its forms, its parts already seen as what they mean.
use Rattle.std.specs.Prelude.{ℕ, zero, suc, Bool, true, false, cond, not, List, [], ◌∷◌, ◌++◌, map, flat_map, Option, Some, None}
use Rattle.std.specs.List.{list_any}
use Rattle.null_logic.specs.declared.arith.Arith.{Arith}
use Rattle.null_logic.specs.declared.compare.Compare.{Compare}
use Rattle.null_logic.specs.declared.compare.Compare.TheVariants.{Equal, NotEqual}
use Rattle.null_logic.specs.declared.operator.Operator.{Operator}
use Rattle.null_logic.specs.declared.operator.Operator.TheVariants as x
use Rattle.perm_values.specs.declared.kind.Kind.{Kind}
use Rattle.perm_values.specs.declared.kind.Kind.TheVariants as kind
use Rattle.perm_values.specs.declared.value.Value.TheVariants as v
use Rattle.bag_algebra.specs.declared.expr.Arm.{Arm}
use Rattle.bag_algebra.specs.declared.expr.ChainStep.{ChainStep}
use Rattle.bag_algebra.specs.declared.expr.Expr.{Expr}
use Rattle.bag_algebra.specs.declared.expr.Expr.TheVariants.{Lit, Op, Chain, Case, IsNull, IsTruth, Same}
use Rattle.bag_algebra.specs.declared.query.SubKind.{SubKind}
use Rattle.bag_algebra.specs.declared.query.SubKind.TheVariants.{Any, All}
use Rattle.sql_tree.specs.declared.expression.ExprBody.TheOpen.{ExprBody-F, ExprTree-F, ArmTree-F, ExprStep-F}
use Rattle.name_meaning.specs.Meanings.{Surroundings, Meant, Part, QueryPart}
use Rattle.name_meaning.specs.Meanings.{nothing_inside}
use Rattle.name_meaning.specs.Operands.{Operand, operand, node, need_of, gives_of, operated}
use Rattle.name_meaning.specs.Scopes.{look_up}
use Rattle.name_meaning.specs.declared.need.Gives.{Gives}
use Rattle.name_meaning.specs.declared.need.Gives.TheVariants.{Always as always, Common as common}
use Rattle.name_meaning.specs.declared.need.Need.{Need}
use Rattle.name_meaning.specs.declared.need.Need.TheVariants.{OfKind as of_kind, Alike as alike, Free as free}
use Rattle.name_meaning.specs.Sublinks.{built_alone, null_at, column_meant, aggregate_meant, aggregate_name, around_of, exists_meant, scalar_meant, tested_meant, if_standing}

-- what an expression is made of, with the offset still to come
pub record Body : Type 0 where
  pub aggregating : Bool
  pub called : Option (List ℕ)
  pub means : ℕ → Surroundings → Meant

pub record StepPart : Type 0 where
  pub op : Arith
  pub part : Part

pub record ArmPart : Type 0 where
  pub condition : Part
  pub value : Part

-- ---- what is made of the parts

abbrev pub first_of : List Expr → Expr
first_of [] = null_at kind.Text
first_of (e ∷ es) = e

abbrev pub second_of : List Expr → Expr
second_of [] = null_at kind.Text
second_of (e ∷ es) = first_of es

abbrev pub negated_if : Bool → Expr → Expr
negated_if negated e = cond negated (Op x.Not (e ∷ [])) e

-- one where the count is odd, and two where it is even
abbrev pub times : Operator → ℕ → Expr → Expr
times op zero e = e
times op (suc zero) e = Op op (e ∷ [])
times op (suc (suc zero)) e = Op op (Op op (e ∷ []) ∷ [])
times op (suc (suc (suc n))) e = times op (suc n) e

abbrev pub steps_made : List StepPart → List Expr → List ChainStep
steps_made [] es = []
steps_made (s ∷ ss) [] = []
steps_made (s ∷ ss) (e ∷ es) = record { op = s.op; part = e } ∷ steps_made ss es

abbrev pub chain_made : List StepPart → List Expr → Expr
chain_made steps [] = null_at kind.Integer
chain_made steps (e ∷ es) = Chain e (steps_made steps es)

-- conditions and values in turn
abbrev pub arms_made : List ArmPart → List Expr → List Arm
arms_made [] es = []
arms_made (a ∷ more) [] = []
arms_made (a ∷ more) (c ∷ []) = []
arms_made (a ∷ more) (c ∷ e ∷ es) = record { condition = c; value = e } ∷ arms_made more es

-- what is behind the arms
abbrev pub rest_made : List ArmPart → List Expr → List Expr
rest_made [] es = es
rest_made (a ∷ more) [] = []
rest_made (a ∷ more) (c ∷ []) = []
rest_made (a ∷ more) (c ∷ e ∷ es) = rest_made more es

-- ---- forms

abbrev pub known : Kind → Expr → Meant
known kind e = record { breaks = []; kind = Some kind; inside = nothing_inside; make = λ wanted before. built_alone e }

abbrev pub null_meant : Meant
null_meant = record { breaks = []; kind = None; inside = nothing_inside; make = λ wanted before. built_alone (null_at wanted) }

abbrev pub step_operand : Surroundings → StepPart → Operand
step_operand here step = operand here (need_of (x.Arith step.op) false) step.part

-- the first operand of a chain is one of its first step
abbrev pub first_need : List StepPart → Need
first_need [] = free
first_need (step ∷ steps) = need_of (x.Arith step.op) false

abbrev pub chain_gives : List StepPart → Gives
chain_gives [] = common
chain_gives (step ∷ steps) = gives_of (x.Arith step.op) false

abbrev pub arm_operands : Surroundings → ArmPart → List Operand
arm_operands here arm = operand here (of_kind kind.Boolean) arm.condition ∷ operand here alike arm.value ∷ []

-- CASE without ELSE has NULL there
abbrev pub else_operand : Surroundings → Option Part → Operand
else_operand here None = record { at = 0; need = alike; meant = null_meant }
else_operand here (Some part) = operand here alike part

abbrev pub case_made : List ArmPart → List Expr → Expr
case_made arms es = Case (arms_made arms es) (first_of (rest_made arms es))

abbrev pub case_meant : Surroundings → List ArmPart → Option Part → Meant
case_meant here arms otherwise = node common (case_made arms) (flat_map (arm_operands here) arms ++ else_operand here otherwise ∷ [])

abbrev pub in_kind : Bool → Compare → SubKind
in_kind true op = All op
in_kind false op = Any op

-- ---- the steps

-- parts alone, with no name of their own
abbrev pub over : List Part → (ℕ → Surroundings → Meant) → Body
over parts means = record { aggregating = list_any (λ (part : Part). part.aggregating) parts; called = None; means = means }

abbrev pub arm_parts : ArmPart → List Part
arm_parts arm = arm.condition ∷ arm.value ∷ []

abbrev pub optional_part : Option Part → List Part
optional_part None = []
optional_part (Some part) = part ∷ []

abbrev pub body_step : {I S F C U G J K : Type 0} → ExprBody-F Body I S F ArmPart StepPart Part C QueryPart U G J K → Body
body_step ExprBody-F.Null = over [] (λ at here. null_meant)
body_step (ExprBody-F.NullOf kind) = over [] (λ at here. known kind (null_at kind))
body_step (ExprBody-F.Integer number) = over [] (λ at here. known kind.Integer (Lit (v.Integer number) kind.Integer))
body_step (ExprBody-F.Text text) = over [] (λ at here. known kind.Text (Lit (v.Text text) kind.Text))
body_step (ExprBody-F.Truth truth) = over [] (λ at here. known kind.Boolean (Lit (v.Boolean truth) kind.Boolean))
body_step (ExprBody-F.Column reference) = record {
  aggregating = false;
  called = Some reference.name.text;
  means = λ at here. column_meant here reference.at (look_up 0 here.scopes reference);
}
body_step (ExprBody-F.«ExprBody::Paren» part) = record {
  aggregating = part.aggregating;
  called = part.called;
  means = λ at here. part.means here;
}
body_step (ExprBody-F.Nots count part) =
    over (part ∷ []) (λ at here. operated x.Not true (λ es. times x.Not count (first_of es)) here (part ∷ []))
body_step (ExprBody-F.Signs count part) =
    over (part ∷ []) (λ at here. operated x.Negate true (λ es. times x.Negate count (first_of es)) here (part ∷ []))
body_step (ExprBody-F.Logic op parts) = over parts (λ at here. operated op false (Op op) here parts)
body_step (ExprBody-F.«ExprBody::Chain» first steps) =
    over (first ∷ map (λ (step : StepPart). step.part) steps) (λ at here. node (chain_gives steps) (chain_made steps)
    (operand here (first_need steps) first ∷ map (step_operand here) steps))
body_step (ExprBody-F.Compared op first second) = over (first ∷ second ∷ [])
    (λ at here. operated (x.Compare op) false (Op (x.Compare op)) here (first ∷ second ∷ []))
body_step (ExprBody-F.Like negated text pattern) = over (text ∷ pattern ∷ [])
    (λ at here. operated x.Like false (λ es. negated_if negated (Op x.Like es)) here (text ∷ pattern ∷ []))
body_step (ExprBody-F.Between negated part low high) = over (part ∷ low ∷ high ∷ [])
    (λ at here. operated x.Between false (λ es. negated_if negated (Op x.Between es)) here (part ∷ low ∷ high ∷ []))
body_step (ExprBody-F.InList negated part list) = over (part ∷ list)
    (λ at here. operated x.InList false (λ es. negated_if negated (Op x.InList es)) here (part ∷ list))
body_step (ExprBody-F.InQuery negated part query) = over (part ∷ [])
    (λ at here. tested_meant here at (in_kind negated (cond negated NotEqual Equal)) part query)
body_step (ExprBody-F.Quantified every op part query) = over (part ∷ [])
    (λ at here. tested_meant here at (in_kind every op) part query)
body_step (ExprBody-F.IsNull negated part) = over (part ∷ [])
    (λ at here. node (always kind.Boolean) (λ es. negated_if negated (IsNull (first_of es))) (operand here free part ∷ []))
body_step (ExprBody-F.IsTruth negated truth part) = over (part ∷ [])
    (λ at here. node (always kind.Boolean) (λ es. negated_if negated (IsTruth truth (first_of es)))
    (operand here (of_kind kind.Boolean) part ∷ []))
body_step (ExprBody-F.IsDistinct negated first second) = over (first ∷ second ∷ [])
    (λ at here. node (always kind.Boolean) (λ es. negated_if (not negated) (Same (first_of es) (second_of es)))
    (operand here alike first ∷ operand here alike second ∷ []))
body_step (ExprBody-F.Case arms otherwise) =
    over (flat_map arm_parts arms ++ optional_part otherwise) (λ at here. case_meant here arms otherwise)
body_step (ExprBody-F.Coalesce list) = over list (λ at here. node common (Op x.Coalesce) (map (operand here alike) list))
body_step (ExprBody-F.NullIf first second) = over (first ∷ second ∷ [])
    (λ at here. node common (Op x.NullIf) (operand here alike first ∷ operand here alike second ∷ []))
body_step (ExprBody-F.Aggregate function argument) = record {
  aggregating = true;
  called = Some (aggregate_name function);
  means = λ at here. aggregate_meant here at function argument;
}
body_step (ExprBody-F.Exists query) =
    over [] (λ at here. if_standing here at (Some kind.Boolean) (exists_meant here query.at (query.means (around_of here))))
body_step (ExprBody-F.Scalar query) =
    over [] (λ at here. if_standing here at None (scalar_meant here query.at (query.means (around_of here))))

abbrev pub arm_step : {B I S F A U C Q W G J K : Type 0} → ArmTree-F B I S F A U Part C Q W G J K → ArmPart
arm_step arm = record { condition = arm.condition; value = arm.value }

abbrev pub step_step : {B I S F A U C Q W G J K : Type 0} → ExprStep-F B I S F A U Part C Q W G J K → StepPart
step_step step = record { op = step.op; part = step.part }

abbrev pub expr_step : {I S F A U P C Q W G J K : Type 0} → ExprTree-F Body I S F A U P C Q W G J K → Part
expr_step tree = record {
  at = tree.at;
  aggregating = tree.body.aggregating;
  called = tree.body.called;
  means = tree.body.means tree.at;
}
