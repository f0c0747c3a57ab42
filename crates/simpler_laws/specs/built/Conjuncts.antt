-- The conjuncts of what the constructors of code make.
use Rattle.std.specs.Prelude.{◌≡◌, cond, List, [], ◌∷◌, ◌++◌}
use Rattle.std.specs.List.{flat_map}
use Rattle.std.proofs.Common.{refl, sym, ap, ◌∙◌}
use Rattle.null_logic.specs.Operators.{is_and}
use Rattle.null_logic.specs.declared.operator.Operator.{Operator}
use Rattle.null_logic.specs.declared.truth.Truth.{Truth}
use Rattle.bag_algebra.specs.built.Openings.{row_of_parts, Chain-is, Case-is, IsNull-is, IsTruth-is, Same-is}
use Rattle.bag_algebra.specs.declared.expr.Arm.{Arm}
use Rattle.bag_algebra.specs.declared.expr.ChainStep.{ChainStep}
use Rattle.bag_algebra.specs.declared.expr.Expr.{Expr}
use Rattle.bag_algebra.specs.declared.expr.Expr.TheBlock.{shape-the_row-Expr-0, hidden-the_row-Expr-0}
use Rattle.bag_algebra.specs.declared.expr.Expr.TheVariants.{Op, Chain, Case, IsNull, IsTruth, Same}
use Rattle.simpler_laws.specs.Conjuncts.{conjuncts, parts_conjuncts}

abbrev pub all_conjuncts : List Expr → List Expr
all_conjuncts parts = flat_map conjuncts parts

pub parts_conjuncts-row_of_parts : (parts : List Expr) → parts_conjuncts (row_of_parts parts) ≡ all_conjuncts parts
unfolding shape-the_row-Expr-0 hidden-the_row-Expr-0 package.denote.Hole.Carrier.hidden
parts_conjuncts-row_of_parts [] = refl
parts_conjuncts-row_of_parts (part ∷ parts) = ap (λ found. conjuncts part ++ found) (parts_conjuncts-row_of_parts parts)

pub conjuncts-Op : (op : Operator) (parts : List Expr) → conjuncts (Op op parts) ≡ cond (is_and op) (all_conjuncts parts) (Op op parts ∷ [])
conjuncts-Op op parts = ap (λ found. cond (is_and op) found (Op op parts ∷ [])) (parts_conjuncts-row_of_parts parts)

pub conjuncts-Chain : (first : Expr) (steps : List ChainStep) → conjuncts (Chain first steps) ≡ Chain first steps ∷ []
conjuncts-Chain first steps = ap conjuncts (Chain-is first steps) ∙ ap (λ e. e ∷ []) (sym (Chain-is first steps))

pub conjuncts-Case : (arms : List Arm) (otherwise : Expr) → conjuncts (Case arms otherwise) ≡ Case arms otherwise ∷ []
conjuncts-Case arms otherwise = ap conjuncts (Case-is arms otherwise) ∙ ap (λ e. e ∷ []) (sym (Case-is arms otherwise))

pub conjuncts-IsNull : (part : Expr) → conjuncts (IsNull part) ≡ IsNull part ∷ []
conjuncts-IsNull part = ap conjuncts (IsNull-is part) ∙ ap (λ e. e ∷ []) (sym (IsNull-is part))

pub conjuncts-IsTruth : (truth : Truth) (part : Expr) → conjuncts (IsTruth truth part) ≡ IsTruth truth part ∷ []
conjuncts-IsTruth truth part = ap conjuncts (IsTruth-is truth part) ∙ ap (λ e. e ∷ []) (sym (IsTruth-is truth part))

pub conjuncts-Same : (first second : Expr) → conjuncts (Same first second) ≡ Same first second ∷ []
conjuncts-Same first second = ap conjuncts (Same-is first second) ∙ ap (λ e. e ∷ []) (sym (Same-is first second))
