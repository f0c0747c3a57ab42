-- The rules of Filters and Projects with a step for each sublink, by candidates.
use Rattle.std.proofs.Common.{◌≡◌, true, List, length}
use Rattle.bag_algebra.specs.built.Scopes.{all_over_tables}
use Rattle.bag_algebra.specs.Kinds.{width_of}
use Rattle.bag_algebra.specs.Rewriting.{IsRewrite}
use Rattle.bag_algebra.specs.declared.expr.Expr.{Expr}
use Rattle.bag_algebra.specs.declared.expr.Item.{Item}
use Rattle.bag_algebra.specs.declared.query.Query.{Query}
use Rattle.bag_algebra.specs.declared.query.Query.TheVariants.{Filter, Project}
use Rattle.bag_algebra.specs.declared.query.Sublink.{Sublink}
use Rattle.query_laws.proofs.SameExpressions.{same-itself, items-themselves}
use Rattle.query_laws.proofs.StandingNodes.{stands-Filter, stands-Project}
use Rattle.query_laws.specs.Standing.{SubsStand}
use Rattle.rewrite_core.proofs.Itself.{stands-itself}
use Rattle.rewrite_sublink.proofs.CandidateSteps.{candidate_steps}
use Rattle.rewrite_sublink.proofs.FilterRows.{rewrite-Filter_with}
use Rattle.rewrite_sublink.proofs.ProjectRows.{rewrite-Project_with}
use Rattle.rewrite_sublink.specs.Candidates.{all_contributed, answer_columns, beside_row}
use Rattle.rewrite_sublink.specs.SubRewritings.{SubsRewritten}

module _ (q r : Query) where
  pub filter-whole : (condition : Expr) (subs standing : List Sublink) (rewritings : List Query) → IsRewrite q r → SubsStand subs standing →
      SubsRewritten subs rewritings → all_over_tables subs ≡ true →
      IsRewrite (Filter q condition subs) (all_contributed (Filter r condition standing) subs standing rewritings)
  filter-whole condition subs standing rewritings given stand rewritten over =
      rewrite-Filter_with q r (Filter r condition standing) condition subs (λ rows. all_contributed rows subs standing rewritings) given
      (stands-Filter r r (stands-itself r given.plain) condition condition (same-itself condition) subs standing stand)
      (candidate_steps subs standing rewritings stand rewritten over)

  pub project-whole : (items : List Item) (subs standing : List Sublink) (rewritings : List Query) → IsRewrite q r → SubsStand subs standing →
      SubsRewritten subs rewritings → all_over_tables subs ≡ true →
      IsRewrite (Project q items subs)
      (answer_columns (all_contributed (Project r (beside_row r items) standing) subs standing rewritings) (width_of q) (width_of r) (length items))
  project-whole items subs standing rewritings given stand rewritten over =
      rewrite-Project_with q r (Project r (beside_row r items) standing) items subs (λ rows. all_contributed rows subs standing rewritings) given
      (stands-Project r r (stands-itself r given.plain) (beside_row r items) (beside_row r items) (items-themselves (beside_row r items)) subs standing stand)
      (candidate_steps subs standing rewritings stand rewritten over)
