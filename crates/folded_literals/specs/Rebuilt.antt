-- Lists of parts, steps and arms that may stand for one another: as many, and one by one.
use Rattle.std.specs.Prelude.{◌≡◌, List}
use Rattle.bag_algebra.specs.declared.expr.Arm.{Arm}
use Rattle.bag_algebra.specs.declared.expr.ChainStep.{ChainStep}
use Rattle.bag_algebra.specs.declared.expr.Expr.{Expr}
use Rattle.contribution.specs.MovedColumns.{Along}
use Rattle.query_laws.specs.SameExpressions.{SameExpr}

pub record SameStep (step other : ChainStep) : Type 0 where
  pub op : other.op ≡ step.op
  pub part : SameExpr step.part other.part

pub record SameArm (arm other : Arm) : Type 0 where
  pub condition : SameExpr arm.condition other.condition
  pub value : SameExpr arm.value other.value

abbrev pub SameParts : List Expr → List Expr → Type 0
SameParts parts others = Along SameExpr parts others

abbrev pub SameSteps : List ChainStep → List ChainStep → Type 0
SameSteps steps others = Along SameStep steps others

abbrev pub SameArms : List Arm → List Arm → Type 0
SameArms arms others = Along SameArm arms others
