-- Which sublinks of a node its expressions use. One that they don't use still has a value on each row, and may fault.
use Rattle.std.specs.Prelude.{ℕ, Bool, false, ◌||◌, nat_eq}
use Rattle.bag_algebra.specs.built.Patterns.{OpOf, ChainOf, CaseOf, IsNullOf, IsTruthOf, SameOf}
use Rattle.bag_algebra.specs.declared.expr.Expr.{Expr, Row_of-Expr, Row_of-Arm, Row_of-ChainStep, more_of-Expr, end_of-Expr, more_of-Arm, end_of-Arm, more_of-ChainStep, end_of-ChainStep}
use Rattle.bag_algebra.specs.declared.expr.Expr.TheVariants.{Col, Lit, Sub}

abbrev mutual
  -- the sublink of a number stands in the expression
  pub uses : ℕ → Expr → Bool
  uses number (Col level place) = false
  uses number (Lit v kind) = false
  uses number (OpOf op _ parts) = parts_use number parts
  uses number (ChainOf first _ steps) = steps_use number steps || uses number first
  uses number (CaseOf _ arms otherwise) = arms_use number arms || uses number otherwise
  uses number (Sub other) = nat_eq other number
  uses number (IsNullOf part) = uses number part
  uses number (IsTruthOf truth part) = uses number part
  uses number (SameOf first second) = uses number first || uses number second

  pub parts_use : ℕ → {m : _} → Row_of-Expr m → Bool
  parts_use number end_of-Expr = false
  parts_use number (more_of-Expr part parts) = uses number part || parts_use number parts

  pub steps_use : ℕ → {m : _} → Row_of-ChainStep m → Bool
  steps_use number end_of-ChainStep = false
  steps_use number (more_of-ChainStep op part steps) = uses number part || steps_use number steps

  pub arms_use : ℕ → {m : _} → Row_of-Arm m → Bool
  arms_use number end_of-Arm = false
  arms_use number (more_of-Arm condition arm arms) = (uses number condition || uses number arm) || arms_use number arms
