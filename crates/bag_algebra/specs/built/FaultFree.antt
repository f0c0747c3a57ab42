-- What may fault, on what the constructors of code make, in words on plain lists of children.
use Rattle.std.specs.Prelude.{◌≡◌, Bool, false, not, ◌&&◌, List, [], ◌∷◌}
use Rattle.std.specs.List.{list_all}
use Rattle.std.proofs.Common.{refl, ap, ◌∙◌}
use Rattle.null_logic.specs.declared.operator.Operator.{Operator}
use Rattle.null_logic.specs.declared.truth.Truth.{Truth}
use Rattle.bag_algebra.specs.built.Openings.{row_of_parts, row_of_arms, Chain-is, Case-is, IsNull-is, IsTruth-is, Same-is}
use Rattle.bag_algebra.specs.FaultFree.{may_fault, faultless, parts_faultless, arms_faultless, option_faultless, is_scalar, fault_free}
use Rattle.bag_algebra.specs.declared.expr.Arm.{Arm}
use Rattle.bag_algebra.specs.declared.expr.ChainStep.{ChainStep}
use Rattle.bag_algebra.specs.declared.expr.Expr.{Expr}
use Rattle.bag_algebra.specs.declared.expr.Expr.TheBlock.{shape-the_row-Expr-0, hidden-the_row-Expr-0, shape-the_row-Arm-3, hidden-the_row-Arm-3}
use Rattle.bag_algebra.specs.declared.expr.Expr.TheVariants.{Op, Chain, Case, IsNull, IsTruth, Same}
use Rattle.bag_algebra.specs.declared.query.Sublink.{Sublink}

-- ---- expressions

abbrev pub all_parts_faultless : List Expr → Bool
all_parts_faultless parts = list_all faultless parts

abbrev pub all_arms_faultless : List Arm → Bool
all_arms_faultless arms = list_all (λ (arm : Arm). faultless arm.condition && faultless arm.value) arms

pub parts_faultless-row_of_parts : (parts : List Expr) → parts_faultless (row_of_parts parts) ≡ all_parts_faultless parts
unfolding shape-the_row-Expr-0 hidden-the_row-Expr-0 package.denote.Hole.Carrier.hidden
parts_faultless-row_of_parts [] = refl
parts_faultless-row_of_parts (part ∷ parts) = ap (λ b. faultless part && b) (parts_faultless-row_of_parts parts)

pub arms_faultless-row_of_arms : (arms : List Arm) → arms_faultless (row_of_arms arms) ≡ all_arms_faultless arms
unfolding shape-the_row-Arm-3 hidden-the_row-Arm-3 package.denote.Hole.Carrier.hidden
arms_faultless-row_of_arms [] = refl
arms_faultless-row_of_arms (arm ∷ arms) = ap (λ b. (faultless arm.condition && faultless arm.value) && b) (arms_faultless-row_of_arms arms)

pub faultless-Op : (op : Operator) (parts : List Expr) → faultless (Op op parts) ≡ (not (may_fault op) && all_parts_faultless parts)
faultless-Op op parts = ap (λ b. not (may_fault op) && b) (parts_faultless-row_of_parts parts)

pub faultless-Chain : (first : Expr) (steps : List ChainStep) → faultless (Chain first steps) ≡ false
faultless-Chain first steps = ap faultless (Chain-is first steps)

pub faultless-Case : (arms : List Arm) (otherwise : Expr) → faultless (Case arms otherwise) ≡ (all_arms_faultless arms && faultless otherwise)
faultless-Case arms otherwise = ap faultless (Case-is arms otherwise) ∙ ap (λ b. b && faultless otherwise) (arms_faultless-row_of_arms arms)

pub faultless-IsNull : (part : Expr) → faultless (IsNull part) ≡ faultless part
faultless-IsNull part = ap faultless (IsNull-is part)

pub faultless-IsTruth : (truth : Truth) (part : Expr) → faultless (IsTruth truth part) ≡ faultless part
faultless-IsTruth truth part = ap faultless (IsTruth-is truth part)

pub faultless-Same : (first second : Expr) → faultless (Same first second) ≡ (faultless first && faultless second)
faultless-Same first second = ap faultless (Same-is first second)

-- ---- queries

abbrev pub all_fault_free : List Sublink → Bool
all_fault_free subs = list_all (λ (sub : Sublink). (not (is_scalar sub.kind) && option_faultless sub.tested) && fault_free sub.query) subs
