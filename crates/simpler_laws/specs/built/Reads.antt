-- Which columns are read by what the constructors of code make, in words on plain lists of children.
use Rattle.std.specs.Prelude.{◌≡◌, ℕ, Bool, false, ◌&&◌, List, [], ◌∷◌}
use Rattle.std.specs.List.{list_all}
use Rattle.std.proofs.Common.{refl, ap, ◌∙◌}
use Rattle.null_logic.specs.declared.operator.Operator.{Operator}
use Rattle.null_logic.specs.declared.truth.Truth.{Truth}
use Rattle.bag_algebra.specs.built.Openings.{row_of_parts, row_of_arms, Chain-is, Case-is, IsNull-is, IsTruth-is, Same-is}
use Rattle.bag_algebra.specs.declared.expr.Arm.{Arm}
use Rattle.bag_algebra.specs.declared.expr.ChainStep.{ChainStep}
use Rattle.bag_algebra.specs.declared.expr.Expr.{Expr}
use Rattle.bag_algebra.specs.declared.expr.Expr.TheBlock.{shape-the_row-Expr-0, hidden-the_row-Expr-0, shape-the_row-Arm-3, hidden-the_row-Arm-3}
use Rattle.bag_algebra.specs.declared.expr.Expr.TheVariants.{Op, Chain, Case, IsNull, IsTruth, Same}
use Rattle.simpler_laws.specs.Reads.{reads_only, parts_read_only, arms_read_only}

abbrev pub all_parts_read_only : Bool → ℕ → ℕ → List Expr → Bool
all_parts_read_only outer from to parts = list_all (reads_only outer from to) parts

abbrev pub all_arms_read_only : Bool → ℕ → ℕ → List Arm → Bool
all_arms_read_only outer from to arms = list_all (λ (arm : Arm). reads_only outer from to arm.condition && reads_only outer from to arm.value) arms

module _ (outer : Bool) (from to : ℕ) where
  pub parts_read_only-row_of_parts : (parts : List Expr) → parts_read_only outer from to (row_of_parts parts) ≡ all_parts_read_only outer from to parts
  unfolding shape-the_row-Expr-0 hidden-the_row-Expr-0 package.denote.Hole.Carrier.hidden
  parts_read_only-row_of_parts [] = refl
  parts_read_only-row_of_parts (part ∷ parts) = ap (λ b. reads_only outer from to part && b) (parts_read_only-row_of_parts parts)

  pub arms_read_only-row_of_arms : (arms : List Arm) → arms_read_only outer from to (row_of_arms arms) ≡ all_arms_read_only outer from to arms
  unfolding shape-the_row-Arm-3 hidden-the_row-Arm-3 package.denote.Hole.Carrier.hidden
  arms_read_only-row_of_arms [] = refl
  arms_read_only-row_of_arms (arm ∷ arms) =
      ap (λ b. (reads_only outer from to arm.condition && reads_only outer from to arm.value) && b) (arms_read_only-row_of_arms arms)

  pub reads_only-Op : (op : Operator) (parts : List Expr) → reads_only outer from to (Op op parts) ≡ all_parts_read_only outer from to parts
  reads_only-Op op parts = parts_read_only-row_of_parts parts

  pub reads_only-Chain : (first : Expr) (steps : List ChainStep) → reads_only outer from to (Chain first steps) ≡ false
  reads_only-Chain first steps = ap (reads_only outer from to) (Chain-is first steps)

  pub reads_only-Case : (arms : List Arm) (otherwise : Expr) →
      reads_only outer from to (Case arms otherwise) ≡ (all_arms_read_only outer from to arms && reads_only outer from to otherwise)
  reads_only-Case arms otherwise =
      ap (reads_only outer from to) (Case-is arms otherwise) ∙ ap (λ b. b && reads_only outer from to otherwise) (arms_read_only-row_of_arms arms)

  pub reads_only-IsNull : (part : Expr) → reads_only outer from to (IsNull part) ≡ reads_only outer from to part
  reads_only-IsNull part = ap (reads_only outer from to) (IsNull-is part)

  pub reads_only-IsTruth : (truth : Truth) (part : Expr) → reads_only outer from to (IsTruth truth part) ≡ reads_only outer from to part
  reads_only-IsTruth truth part = ap (reads_only outer from to) (IsTruth-is truth part)

  pub reads_only-Same : (first second : Expr) → reads_only outer from to (Same first second) ≡ (reads_only outer from to first && reads_only outer from to second)
  reads_only-Same first second = ap (reads_only outer from to) (Same-is first second)
