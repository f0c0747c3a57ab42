-- Which sublinks parts use, in words on plain lists.
use Rattle.std.specs.Prelude.{ℕ, Bool, ◌||◌, List}
use Rattle.std.specs.List.{list_any}
use Rattle.bag_algebra.specs.declared.expr.Arm.{Arm}
use Rattle.bag_algebra.specs.declared.expr.ChainStep.{ChainStep}
use Rattle.bag_algebra.specs.declared.expr.Expr.{Expr}
use Rattle.tree_texts.specs.expressions.Uses.{uses}

abbrev pub all_parts_use : ℕ → List Expr → Bool
all_parts_use number parts = list_any (uses number) parts

abbrev pub all_steps_use : ℕ → List ChainStep → Bool
all_steps_use number steps = list_any (λ (step : ChainStep). uses number step.part) steps

abbrev pub all_arms_use : ℕ → List Arm → Bool
all_arms_use number arms = list_any (λ (arm : Arm). uses number arm.condition || uses number arm.value) arms
