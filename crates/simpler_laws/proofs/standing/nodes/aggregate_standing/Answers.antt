use Rattle.std.proofs.Common.{◌≡◌, ℕ, List, IfOk, subst₂}
use Rattle.bag_algebra.specs.declared.query.Aggr.{Aggr}
use Rattle.bag_algebra.specs.Rewriting.{Stands}
use Rattle.bag_algebra.specs.declared.query.Query.TheVariants.{Aggregate}
use Rattle.query_laws.proofs.SameExpressions.{aggregates-themselves}
use Rattle.query_laws.proofs.StandingNodes.{stands-Aggregate}
use Rattle.contribution.proofs.NodeQueries.{of_made}
use Rattle.perm_values.proofs.Taken.{opened}
use Rattle.simpler_laws.proofs.standing.nodes.aggregate_standing.Goals as goal

pub returns : goal.returns
returns c q h =
    let given = c.in_ok-input.ensures in
    subst₂ (λ (groups : List ℕ) (aggregates : List Aggr). IfOk c.aggregate.result (λ p. Stands (Aggregate q groups aggregates) p))
    (opened (λ (groups : List ℕ). groups ≡ c.args.groups.now) c.copy.result _ given.second_was c.copy.ensures)
    (opened (λ (aggregates : List Aggr). aggregates ≡ c.args.aggregates.now) c.copy-2.result _ given.third_was c.copy-2.ensures)
    (of_made (λ p. Stands (Aggregate q _ _) p) c.aggregate.result _ c.aggregate.ensures
    (stands-Aggregate q _ (opened (λ b. Stands q b) c.args.input _ given.first_was h) _ _ _ (aggregates-themselves _)))
