-- An expression with the columns of its node's own row at other places.
use Rattle.std.specs.Prelude.{◌≡◌, ⊤, ℕ, List, [], ◌∷◌, length}
use Rattle.perm_values.specs.Rows.{picked, PlacesWithin}
use Rattle.perm_values.specs.declared.kind.Kind.{Kind}
use Rattle.perm_values.specs.declared.value.Value.{Value}
use Rattle.bag_algebra.specs.Bags.{Row}
use Rattle.bag_algebra.specs.Expressions.{value}
use Rattle.bag_algebra.specs.FaultFree.{faultless}
use Rattle.bag_algebra.specs.Kinds.{kinds_in}
use Rattle.bag_algebra.specs.WellFormed.{HasKind}
use Rattle.bag_algebra.specs.declared.expr.Arm.{Arm}
use Rattle.bag_algebra.specs.declared.expr.ChainStep.{ChainStep}
use Rattle.bag_algebra.specs.declared.expr.Expr.{Expr}

-- over a longer or reordered row, the second expression is what the first is over the values at the places: on every row
-- it has the same value, and it has every kind that the first has over the kinds at the places
pub record IsMoved (order : List ℕ) (expr moved : Expr) : Type 0 where
  pub value : (u : Row) (env : List Row) (subs : List Value) → value moved u env subs ≡ value expr (picked order u) env subs
  pub kind : (kinds : List Kind) (outer : List (List Kind)) (subs : List Kind) (kind : Kind) → PlacesWithin (length kinds) order →
      HasKind (kinds_in kinds order ∷ outer) subs expr kind → HasKind (kinds ∷ outer) subs moved kind
  pub faultless : faultless moved ≡ faultless expr

-- as many, and related one by one
abbrev pub Along : {X : Type 0} → (X → X → Type 0) → List X → List X → Type 0
Along R [] [] = ⊤
Along R [] (y ∷ ys) = ⊥
Along R (x ∷ xs) [] = ⊥
Along R (x ∷ xs) (y ∷ ys) = R x y × Along R xs ys

pub record StepMoved (order : List ℕ) (step moved : ChainStep) : Type 0 where
  pub op : moved.op ≡ step.op
  pub part : IsMoved order step.part moved.part

pub record ArmMoved (order : List ℕ) (arm moved : Arm) : Type 0 where
  pub condition : IsMoved order arm.condition moved.condition
  pub value : IsMoved order arm.value moved.value

abbrev pub PartsMoved : List ℕ → List Expr → List Expr → Type 0
PartsMoved order parts moved = Along (IsMoved order) parts moved

abbrev pub StepsMoved : List ℕ → List ChainStep → List ChainStep → Type 0
StepsMoved order steps moved = Along (StepMoved order) steps moved

abbrev pub ArmsMoved : List ℕ → List Arm → List Arm → Type 0
ArmsMoved order arms moved = Along (ArmMoved order) arms moved
