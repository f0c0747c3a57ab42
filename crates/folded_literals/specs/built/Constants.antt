-- Expressions over literals, as the constructors of code make them, in words on plain lists of children.
use Rattle.std.specs.Prelude.{◌≡◌, Bool, cond, ◌&&◌, List, [], ◌∷◌, Some, None}
use Rattle.std.specs.List.{list_all}
use Rattle.std.proofs.Common.{refl, ap, ◌∙◌}
use Rattle.null_logic.specs.declared.operator.Operator.{Operator}
use Rattle.null_logic.specs.declared.truth.Truth.{Truth}
use Rattle.perm_values.specs.declared.kind.Kind.{Kind}
use Rattle.perm_values.specs.declared.kind.Kind.TheVariants.{Integer, Boolean}
use Rattle.bag_algebra.specs.built.Openings.{row_of_parts, row_of_steps, row_of_arms, Chain-is, Case-is, IsNull-is, IsTruth-is, Same-is}
use Rattle.bag_algebra.specs.declared.expr.Arm.{Arm}
use Rattle.bag_algebra.specs.declared.expr.ChainStep.{ChainStep}
use Rattle.bag_algebra.specs.declared.expr.Expr.{Expr}
use Rattle.bag_algebra.specs.declared.expr.Expr.TheBlock.{shape-the_row-Expr-0, hidden-the_row-Expr-0, shape-the_row-ChainStep-2, hidden-the_row-ChainStep-2, shape-the_row-Arm-3, hidden-the_row-Arm-3}
use Rattle.bag_algebra.specs.declared.expr.Expr.TheVariants.{Op, Chain, Case, IsNull, IsTruth, Same}
use Rattle.folded_literals.specs.Constants.{is_literal, literal_kind, kind_given, parts_literal, steps_literal, arms_literal, kind_of_first, constant_kind}

abbrev pub all_literal : List Expr → Bool
all_literal parts = list_all is_literal parts

abbrev pub all_steps_literal : List ChainStep → Bool
all_steps_literal steps = list_all (λ (step : ChainStep). is_literal step.part) steps

abbrev pub all_arms_literal : List Arm → Bool
all_arms_literal arms = list_all (λ (arm : Arm). is_literal arm.condition && is_literal arm.value) arms

abbrev pub first_kind : List Expr → Kind
first_kind [] = Boolean
first_kind (part ∷ parts) = literal_kind part

pub parts_literal-row_of_parts : (parts : List Expr) → parts_literal (row_of_parts parts) ≡ all_literal parts
unfolding shape-the_row-Expr-0 hidden-the_row-Expr-0 package.denote.Hole.Carrier.hidden
parts_literal-row_of_parts [] = refl
parts_literal-row_of_parts (part ∷ parts) = ap (λ b. is_literal part && b) (parts_literal-row_of_parts parts)

pub kind_of_first-row_of_parts : (parts : List Expr) → kind_of_first (row_of_parts parts) ≡ first_kind parts
unfolding shape-the_row-Expr-0 hidden-the_row-Expr-0 package.denote.Hole.Carrier.hidden
kind_of_first-row_of_parts [] = refl
kind_of_first-row_of_parts (part ∷ parts) = refl

pub steps_literal-row_of_steps : (steps : List ChainStep) → steps_literal (row_of_steps steps) ≡ all_steps_literal steps
unfolding shape-the_row-ChainStep-2 hidden-the_row-ChainStep-2 package.denote.Hole.Carrier.hidden
steps_literal-row_of_steps [] = refl
steps_literal-row_of_steps (step ∷ steps) = ap (λ b. is_literal step.part && b) (steps_literal-row_of_steps steps)

pub arms_literal-row_of_arms : (arms : List Arm) → arms_literal (row_of_arms arms) ≡ all_arms_literal arms
unfolding shape-the_row-Arm-3 hidden-the_row-Arm-3 package.denote.Hole.Carrier.hidden
arms_literal-row_of_arms [] = refl
arms_literal-row_of_arms (arm ∷ arms) = ap (λ b. (is_literal arm.condition && is_literal arm.value) && b) (arms_literal-row_of_arms arms)

pub constant_kind-Op : (op : Operator) (parts : List Expr) →
    constant_kind (Op op parts) ≡ cond (all_literal parts) (Some (kind_given op (first_kind parts))) None
constant_kind-Op op parts = λ i. cond (parts_literal-row_of_parts parts i) (Some (kind_given op (kind_of_first-row_of_parts parts i))) None

pub constant_kind-Chain : (first : Expr) (steps : List ChainStep) →
    constant_kind (Chain first steps) ≡ cond (is_literal first && all_steps_literal steps) (Some Integer) None
constant_kind-Chain first steps =
    ap constant_kind (Chain-is first steps) ∙ ap (λ b. cond (is_literal first && b) (Some Integer) None) (steps_literal-row_of_steps steps)

pub constant_kind-Case : (arms : List Arm) (otherwise : Expr) →
    constant_kind (Case arms otherwise) ≡ cond (all_arms_literal arms && is_literal otherwise) (Some (literal_kind otherwise)) None
constant_kind-Case arms otherwise =
    ap constant_kind (Case-is arms otherwise)
    ∙ ap (λ b. cond (b && is_literal otherwise) (Some (literal_kind otherwise)) None) (arms_literal-row_of_arms arms)

pub constant_kind-IsNull : (part : Expr) → constant_kind (IsNull part) ≡ cond (is_literal part) (Some Boolean) None
constant_kind-IsNull part = ap constant_kind (IsNull-is part)

pub constant_kind-IsTruth : (truth : Truth) (part : Expr) → constant_kind (IsTruth truth part) ≡ cond (is_literal part) (Some Boolean) None
constant_kind-IsTruth truth part = ap constant_kind (IsTruth-is truth part)

pub constant_kind-Same : (first second : Expr) →
    constant_kind (Same first second) ≡ cond (is_literal first && is_literal second) (Some Boolean) None
constant_kind-Same first second = ap constant_kind (Same-is first second)
