-- The test of every expression of a query, by its topmost node and the children of that.
use Rattle.std.proofs.Common.{◌≡◌, Bool, ◌&&◌, refl, ap}
use Rattle.std.specs.List.{list_all}
use Rattle.bag_algebra.proofs.Truths.{and_true}
use Rattle.bag_algebra.specs.Inputs.{inputs_of, sublinks_of}
use Rattle.bag_algebra.specs.built.Patterns.{BaseOf, FilterOf, ProjectOf, JoinOf, ApplyOf, UnionOf, IntersectOf, ExceptOf, DistinctOf, AggregateOf, LimitOf, ProvOf}
use Rattle.bag_algebra.specs.declared.expr.Expr.{Expr}
use Rattle.bag_algebra.specs.declared.query.Query.{Query, Row_of-Sublink, more_of-Sublink, end_of-Sublink, items-the_row-Sublink}
use Rattle.bag_algebra.specs.declared.query.Query.TheVariants.{Table, Single}
use Rattle.query_laws.specs.EveryExpression.{option_passes, own_pass, every_expression, every_in_subs, sublinks_pass}

module _ (test : Expr → Bool) where
  every_in_subs-listed : {m : _} (subs : Row_of-Sublink m) → every_in_subs test subs ≡ sublinks_pass test (items-the_row-Sublink _ subs)
  every_in_subs-listed end_of-Sublink = refl
  every_in_subs-listed (more_of-Sublink kind tested query subs) =
      ap (λ b. (option_passes test tested && every_expression test query) && b) (every_in_subs-listed subs)

  -- every expression passes where those of the node and of its children do
  pub every_expression-node : (query : Query) → every_expression test query
      ≡ (list_all (every_expression test) (inputs_of query) && own_pass test query && sublinks_pass test (sublinks_of query))
  every_expression-node (Table id kinds) = refl
  every_expression-node Single = refl
  every_expression-node (BaseOf input places label) = simp and_true
  every_expression-node (FilterOf input condition _ subs) = simp (and_true, every_in_subs-listed subs)
  every_expression-node (ProjectOf input items _ subs) = simp (and_true, every_in_subs-listed subs)
  every_expression-node (JoinOf kind left right condition _ subs) = simp (and_true, every_in_subs-listed subs)
  every_expression-node (ApplyOf kind left right) = simp and_true
  every_expression-node (UnionOf all left right) = simp and_true
  every_expression-node (IntersectOf all left right) = simp and_true
  every_expression-node (ExceptOf all left right) = simp and_true
  every_expression-node (DistinctOf input) = simp and_true
  every_expression-node (AggregateOf input groups aggregates) = simp and_true
  every_expression-node (LimitOf input keys count) = simp and_true
  every_expression-node (ProvOf input) = simp and_true
