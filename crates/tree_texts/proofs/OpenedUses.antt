-- Which sublinks what the constructors of code make uses, in words on plain lists of children.
use Rattle.std.proofs.Common.{◌≡◌, ◌∙◌, ℕ, Bool, true, false, ◌||◌, List, [], ◌∷◌, refl, sym, ap}
use Rattle.null_logic.specs.declared.operator.Operator.{Operator}
use Rattle.null_logic.specs.declared.truth.Truth.{Truth}
use Rattle.bag_algebra.specs.built.Openings.{row_of_parts, row_of_steps, row_of_arms, Chain-is, Case-is, IsNull-is, IsTruth-is, Same-is}
use Rattle.bag_algebra.specs.declared.expr.Arm.{Arm}
use Rattle.bag_algebra.specs.declared.expr.ChainStep.{ChainStep}
use Rattle.bag_algebra.specs.declared.expr.Expr.{Expr}
use Rattle.bag_algebra.specs.declared.expr.Expr.TheBlock.{shape-the_row-Expr-0, hidden-the_row-Expr-0, shape-the_row-ChainStep-2, hidden-the_row-ChainStep-2, shape-the_row-Arm-3, hidden-the_row-Arm-3}
use Rattle.bag_algebra.specs.declared.expr.Expr.TheVariants.{Op, Chain, Case, IsNull, IsTruth, Same}
use Rattle.tree_texts.specs.expressions.Used.{all_parts_use, all_steps_use, all_arms_use}
use Rattle.tree_texts.specs.expressions.Uses.{uses, parts_use, steps_use, arms_use}

module _ (number : ℕ) where
  parts_use-opened : (parts : List Expr) → parts_use number (row_of_parts parts) ≡ all_parts_use number parts
  unfolding shape-the_row-Expr-0 hidden-the_row-Expr-0 package.denote.Hole.Carrier.hidden
  parts_use-opened [] = refl
  parts_use-opened (part ∷ parts) = ap (λ b. uses number part || b) (parts_use-opened parts)

  steps_use-opened : (steps : List ChainStep) → steps_use number (row_of_steps steps) ≡ all_steps_use number steps
  unfolding shape-the_row-ChainStep-2 hidden-the_row-ChainStep-2 package.denote.Hole.Carrier.hidden
  steps_use-opened [] = refl
  steps_use-opened (step ∷ steps) = ap (λ b. uses number step.part || b) (steps_use-opened steps)

  arms_use-opened : (arms : List Arm) → arms_use number (row_of_arms arms) ≡ all_arms_use number arms
  unfolding shape-the_row-Arm-3 hidden-the_row-Arm-3 package.denote.Hole.Carrier.hidden
  arms_use-opened [] = refl
  arms_use-opened (arm ∷ arms) = ap (λ b. (uses number arm.condition || uses number arm.value) || b) (arms_use-opened arms)

  pub uses-Op : (op : Operator) (parts : List Expr) → uses number (Op op parts) ≡ all_parts_use number parts
  uses-Op op parts = parts_use-opened parts

  pub uses-Chain : (first : Expr) (steps : List ChainStep) → uses number (Chain first steps) ≡ (all_steps_use number steps || uses number first)
  uses-Chain first steps = ap (uses number) (Chain-is first steps) ∙ ap (λ b. b || uses number first) (steps_use-opened steps)

  pub uses-Case : (arms : List Arm) (otherwise : Expr) → uses number (Case arms otherwise) ≡ (all_arms_use number arms || uses number otherwise)
  uses-Case arms otherwise = ap (uses number) (Case-is arms otherwise) ∙ ap (λ b. b || uses number otherwise) (arms_use-opened arms)

  pub uses-IsNull : (part : Expr) → uses number (IsNull part) ≡ uses number part
  uses-IsNull part = ap (uses number) (IsNull-is part)

  pub uses-IsTruth : (truth : Truth) (part : Expr) → uses number (IsTruth truth part) ≡ uses number part
  uses-IsTruth truth part = ap (uses number) (IsTruth-is truth part)

  pub uses-Same : (first second : Expr) → uses number (Same first second) ≡ (uses number first || uses number second)
  uses-Same first second = ap (uses number) (Same-is first second)

-- ---- one of two tests, one after the other, as code makes them

module _ (whole a b x : Bool) (is_either : whole ≡ (a || b)) (first : x ≡ a) where
  -- the first holds, and with it one of them
  pub first-holds : x ≡ true → x ≡ whole
  first-holds holds = holds ∙ ap (λ c. c || b) (sym holds ∙ first) ∙ sym is_either

  -- the first fails, and the second decides
  pub second-answers : (y : Bool) → x ≡ false → y ≡ b → y ≡ whole
  second-answers y fails second = second ∙ ap (λ c. c || b) (sym fails ∙ first) ∙ sym is_either
