-- Expressions of which no part that stands over literals alone is good: what stands over literals there meets a fault.
use Rattle.std.specs.Prelude.{Bool, true, not, ◌&&◌, [], is_some}
use Rattle.bag_algebra.specs.Expressions.{value}
use Rattle.bag_algebra.specs.Outcome.{is_good}
use Rattle.bag_algebra.specs.built.Patterns.{OpOf, ChainOf, CaseOf, IsNullOf, IsTruthOf, SameOf}
use Rattle.bag_algebra.specs.declared.expr.Expr.{Expr, Row_of-Expr, Row_of-Arm, Row_of-ChainStep, more_of-Expr, end_of-Expr, more_of-Arm, end_of-Arm, more_of-ChainStep, end_of-ChainStep}
use Rattle.bag_algebra.specs.declared.expr.Expr.TheVariants.{Col, Lit, Sub}
use Rattle.folded_literals.specs.Constants.{constant_kind}

-- it stands over literals alone, is none itself, and has a good value
abbrev pub is_foldable : Expr → Bool
is_foldable e = is_some (constant_kind e) && is_good (value e [] [] [])

abbrev mutual
  pub is_settled : Expr → Bool
  is_settled (Col level place) = true
  is_settled (Lit v kind) = true
  is_settled (OpOf op shape parts) = not (is_foldable (OpOf op shape parts)) && parts_settled parts
  is_settled (ChainOf first shape steps) = not (is_foldable (ChainOf first shape steps)) && (is_settled first && steps_settled steps)
  is_settled (CaseOf shape arms otherwise) = not (is_foldable (CaseOf shape arms otherwise)) && (arms_settled arms && is_settled otherwise)
  is_settled (Sub number) = true
  is_settled (IsNullOf part) = not (is_foldable (IsNullOf part)) && is_settled part
  is_settled (IsTruthOf truth part) = not (is_foldable (IsTruthOf truth part)) && is_settled part
  is_settled (SameOf first second) = not (is_foldable (SameOf first second)) && (is_settled first && is_settled second)

  pub parts_settled : {m : _} → Row_of-Expr m → Bool
  parts_settled end_of-Expr = true
  parts_settled (more_of-Expr part parts) = is_settled part && parts_settled parts

  pub steps_settled : {m : _} → Row_of-ChainStep m → Bool
  steps_settled end_of-ChainStep = true
  steps_settled (more_of-ChainStep op part steps) = is_settled part && steps_settled steps

  pub arms_settled : {m : _} → Row_of-Arm m → Bool
  arms_settled end_of-Arm = true
  arms_settled (more_of-Arm condition arm arms) = (is_settled condition && is_settled arm) && arms_settled arms
