-- Settled expressions, as the constructors of code make them, in words on plain lists of children.
use Rattle.std.specs.Prelude.{◌≡◌, Bool, not, ◌&&◌, List, [], ◌∷◌}
use Rattle.std.specs.List.{list_all}
use Rattle.std.proofs.Common.{refl, sym, ap, ◌∙◌}
use Rattle.null_logic.specs.declared.operator.Operator.{Operator}
use Rattle.null_logic.specs.declared.truth.Truth.{Truth}
use Rattle.bag_algebra.specs.built.Openings.{row_of_parts, row_of_steps, row_of_arms, Chain-is, Case-is, IsNull-is, IsTruth-is, Same-is}
use Rattle.bag_algebra.specs.declared.expr.Arm.{Arm}
use Rattle.bag_algebra.specs.declared.expr.ChainStep.{ChainStep}
use Rattle.bag_algebra.specs.declared.expr.Expr.{Expr}
use Rattle.bag_algebra.specs.declared.expr.Expr.TheBlock.{shape-the_row-Expr-0, hidden-the_row-Expr-0, shape-the_row-ChainStep-2, hidden-the_row-ChainStep-2, shape-the_row-Arm-3, hidden-the_row-Arm-3}
use Rattle.bag_algebra.specs.declared.expr.Expr.TheVariants.{Op, Chain, Case, IsNull, IsTruth, Same}
use Rattle.folded_literals.specs.Settled.{is_foldable, is_settled, parts_settled, steps_settled, arms_settled}

abbrev pub all_settled : List Expr → Bool
all_settled parts = list_all is_settled parts

abbrev pub all_steps_settled : List ChainStep → Bool
all_steps_settled steps = list_all (λ (step : ChainStep). is_settled step.part) steps

abbrev pub all_arms_settled : List Arm → Bool
all_arms_settled arms = list_all (λ (arm : Arm). is_settled arm.condition && is_settled arm.value) arms

parts_settled-row_of_parts : (parts : List Expr) → parts_settled (row_of_parts parts) ≡ all_settled parts
unfolding shape-the_row-Expr-0 hidden-the_row-Expr-0 package.denote.Hole.Carrier.hidden
parts_settled-row_of_parts [] = refl
parts_settled-row_of_parts (part ∷ parts) = ap (λ b. is_settled part && b) (parts_settled-row_of_parts parts)

steps_settled-row_of_steps : (steps : List ChainStep) → steps_settled (row_of_steps steps) ≡ all_steps_settled steps
unfolding shape-the_row-ChainStep-2 hidden-the_row-ChainStep-2 package.denote.Hole.Carrier.hidden
steps_settled-row_of_steps [] = refl
steps_settled-row_of_steps (step ∷ steps) = ap (λ b. is_settled step.part && b) (steps_settled-row_of_steps steps)

arms_settled-row_of_arms : (arms : List Arm) → arms_settled (row_of_arms arms) ≡ all_arms_settled arms
unfolding shape-the_row-Arm-3 hidden-the_row-Arm-3 package.denote.Hole.Carrier.hidden
arms_settled-row_of_arms [] = refl
arms_settled-row_of_arms (arm ∷ arms) = ap (λ b. (is_settled arm.condition && is_settled arm.value) && b) (arms_settled-row_of_arms arms)

-- an expression is settled where it isn't foldable and its parts are settled
abbrev pub SettledBy : Expr → Bool → Type 0
SettledBy e parts = is_settled e ≡ (not (is_foldable e) && parts)

pub settled-Op : (op : Operator) (parts : List Expr) → SettledBy (Op op parts) (all_settled parts)
settled-Op op parts = ap (λ b. not (is_foldable (Op op parts)) && b) (parts_settled-row_of_parts parts)

pub settled-Chain : (first : Expr) (steps : List ChainStep) → SettledBy (Chain first steps) (is_settled first && all_steps_settled steps)
settled-Chain first steps =
    ap is_settled (Chain-is first steps)
    ∙ (λ i. not (is_foldable (sym (Chain-is first steps) i)) && (is_settled first && steps_settled-row_of_steps steps i))

pub settled-Case : (arms : List Arm) (otherwise : Expr) → SettledBy (Case arms otherwise) (all_arms_settled arms && is_settled otherwise)
settled-Case arms otherwise =
    ap is_settled (Case-is arms otherwise)
    ∙ (λ i. not (is_foldable (sym (Case-is arms otherwise) i)) && (arms_settled-row_of_arms arms i && is_settled otherwise))

pub settled-IsNull : (part : Expr) → SettledBy (IsNull part) (is_settled part)
settled-IsNull part = ap is_settled (IsNull-is part) ∙ (λ i. not (is_foldable (sym (IsNull-is part) i)) && is_settled part)

pub settled-IsTruth : (truth : Truth) (part : Expr) → SettledBy (IsTruth truth part) (is_settled part)
settled-IsTruth truth part = ap is_settled (IsTruth-is truth part) ∙ (λ i. not (is_foldable (sym (IsTruth-is truth part) i)) && is_settled part)

pub settled-Same : (first second : Expr) → SettledBy (Same first second) (is_settled first && is_settled second)
settled-Same first second =
    ap is_settled (Same-is first second) ∙ (λ i. not (is_foldable (sym (Same-is first second) i)) && (is_settled first && is_settled second))
