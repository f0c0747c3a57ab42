-- The rules by joins with what contributes.
use Rattle.std.proofs.Common.{List, length}
use Rattle.bag_algebra.specs.Kinds.{width_of}
use Rattle.bag_algebra.specs.Rewriting.{IsRewrite}
use Rattle.bag_algebra.specs.declared.expr.Expr.{Expr}
use Rattle.bag_algebra.specs.declared.expr.Item.{Item}
use Rattle.bag_algebra.specs.declared.query.Query.{Query}
use Rattle.bag_algebra.specs.declared.query.Query.TheVariants.{Filter, Project}
use Rattle.bag_algebra.specs.declared.query.Sublink.{Sublink}
use Rattle.contribution.specs.Conjunctions.{always}
use Rattle.query_laws.proofs.SameExpressions.{same-itself, items-themselves}
use Rattle.query_laws.proofs.StandingNodes.{stands-Filter, stands-Project}
use Rattle.query_laws.specs.Standing.{SubsStand}
use Rattle.rewrite_core.proofs.Itself.{stands-itself}
use Rattle.rewrite_move.proofs.LikeQueries.{like-itself, like-answer_columns, rewrite-along}
use Rattle.rewrite_move.proofs.MovedSteps.{filter-moved, project-moved}
use Rattle.rewrite_move.specs.Moved.{Like, SubsFrom, all_moved}
use Rattle.rewrite_move.specs.declared.below.Origin.{Origin}
use Rattle.rewrite_sublink.specs.Candidates.{answer_columns, beside_row}

module _ (origin : Origin) (q r : Query) (given : IsRewrite q r) (subs standing : List Sublink) (rewritings : List Query) (stand : SubsStand subs standing)
    (of_subs : SubsFrom origin subs rewritings) where
  pub own-rows-like : (condition : Expr) → Like (Filter r condition standing) (Filter r condition standing)
  own-rows-like condition =
      like-itself (Filter r condition standing) (stands-Filter r r (stands-itself r given.plain) condition condition (same-itself condition) subs standing stand).plain

  pub own-items-like : (items : List Item) → Like (Project r (beside_row r items) standing) (Project r (beside_row r items) standing)
  own-items-like items =
      like-itself (Project r (beside_row r items) standing)
      (stands-Project r r (stands-itself r given.plain) (beside_row r items) (beside_row r items) (items-themselves (beside_row r items)) subs standing stand).plain

  pub filter-rewrites : (condition : Expr) (p : Query) → Like (all_moved origin condition 0 (Filter r condition standing) subs standing rewritings) p → IsRewrite (Filter q condition subs) p
  filter-rewrites condition p l =
      rewrite-along (Filter q condition subs) (all_moved origin condition 0 (Filter r condition standing) subs standing rewritings) p
      (filter-moved origin q r condition subs standing rewritings given stand of_subs) l.stands

  pub project-rewrites : (items : List Item) (p : Query) → Like (all_moved origin always 0 (Project r (beside_row r items) standing) subs standing rewritings) p →
      IsRewrite (Project q items subs) (answer_columns p (width_of q) (width_of r) (length items))
  project-rewrites items p l =
      rewrite-along (Project q items subs)
      (answer_columns (all_moved origin always 0 (Project r (beside_row r items) standing) subs standing rewritings) (width_of q) (width_of r) (length items))
      (answer_columns p (width_of q) (width_of r) (length items))
      (project-moved origin q r items subs standing rewritings given stand of_subs)
      (like-answer_columns (all_moved origin always 0 (Project r (beside_row r items) standing) subs standing rewritings) p l (width_of q) (width_of r) (length items)).stands
