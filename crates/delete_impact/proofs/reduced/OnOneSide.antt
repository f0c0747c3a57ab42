-- Whether no join reads a table on both sides, by the topmost node of a query and its inputs.
use Rattle.std.proofs.Common.{◌≡◌, ℕ, ◌&&◌, ◌||◌, List, refl, ap}
use Rattle.std.specs.List.{list_all}
use Rattle.bag_algebra.proofs.Truths.{and_true}
use Rattle.bag_algebra.specs.Inputs.{inputs_of}
use Rattle.bag_algebra.specs.built.Openings.{Join-is}
use Rattle.bag_algebra.specs.built.Patterns.{BaseOf, FilterOf, ProjectOf, JoinOf, ApplyOf, UnionOf, IntersectOf, ExceptOf, DistinctOf, AggregateOf, LimitOf, ProvOf}
use Rattle.bag_algebra.specs.declared.expr.Expr.{Expr}
use Rattle.bag_algebra.specs.declared.query.JoinKind.{JoinKind}
use Rattle.bag_algebra.specs.declared.query.Query.{Query}
use Rattle.bag_algebra.specs.declared.query.Query.TheVariants.{Table, Single, Join}
use Rattle.bag_algebra.specs.declared.query.Sublink.{Sublink}
use Rattle.delete_impact.specs.reduced.Splitting.{lacks, own_splits, splits}

module _ (id : ℕ) where
  pub splits-node : (q : Query) → splits id q ≡ (own_splits id q && list_all (splits id) (inputs_of q))
  splits-node (Table other kinds) = refl
  splits-node Single = refl
  splits-node (BaseOf input places label) = simp and_true
  splits-node (FilterOf input condition _ subs) = simp and_true
  splits-node (ProjectOf input items _ subs) = simp and_true
  splits-node (JoinOf kind left right condition _ subs) = simp and_true
  splits-node (ApplyOf kind left right) = refl
  splits-node (UnionOf all left right) = simp and_true
  splits-node (IntersectOf all left right) = refl
  splits-node (ExceptOf all left right) = refl
  splits-node (DistinctOf input) = simp and_true
  splits-node (AggregateOf input groups aggregates) = refl
  splits-node (LimitOf input keys count) = refl
  splits-node (ProvOf input) = refl

  -- on what the constructor of code makes
  pub own-Join : (kind : JoinKind) (left right : Query) (condition : Expr) (subs : List Sublink) → own_splits id (Join kind left right condition subs) ≡ (lacks id left || lacks id right)
  own-Join kind left right condition subs = ap (own_splits id) (Join-is kind left right condition subs)
