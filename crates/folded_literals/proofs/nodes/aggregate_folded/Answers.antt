use Rattle.std.proofs.Common.{◌≡◌, ℕ, true, List, IfOk, subst}
use Rattle.bag_algebra.specs.Rewriting.{Stands}
use Rattle.bag_algebra.specs.declared.query.Query.TheVariants.{Aggregate}
use Rattle.contribution.proofs.NodeQueries.{of_made}
use Rattle.contribution.specs.MovedColumns.{Along}
use Rattle.perm_values.proofs.Taken.{opened}
use Rattle.query_laws.proofs.StandingNodes.{stands-Aggregate}
use Rattle.query_laws.specs.EveryExpression.{arguments_pass}
use Rattle.query_laws.specs.SameExpressions.{SameAggregate}
use Rattle.folded_literals.proofs.Rebuilt.{aggregates-along}
use Rattle.folded_literals.proofs.SimpleNodes.{aggregate-simple}
use Rattle.folded_literals.specs.Settled.{is_settled}
use Rattle.folded_literals.specs.Simple.{is_simple}
use Rattle.folded_literals.proofs.nodes.aggregate_folded.Goals as goal

pub returns-clause-stands : goal.returns-clause-stands
returns-clause-stands c q h =
    let given = c.in_ok-input.ensures in
    subst (λ (groups : List ℕ). IfOk c.aggregate.result (λ p. Stands (Aggregate q groups c.args.aggregates.now) p))
    (opened (λ (groups : List ℕ). groups ≡ c.args.groups.now) c.copy.result _ given.second_was c.copy.ensures)
    (of_made (λ p. Stands (Aggregate q _ c.args.aggregates.now) p) c.aggregate.result _ c.aggregate.ensures
    (stands-Aggregate q _ (opened (λ b. Stands q b) c.args.input _ given.first_was h) _ _ _
    (aggregates-along _ _ (rw c.as_slice.ensures at (opened (λ made. Along SameAggregate c.as_slice.result.now made) c.folded_aggregates-made.result _ given.third_was c.folded_aggregates-made.ensures.same)))))

pub returns-clause-simple : goal.returns-clause-simple
returns-clause-simple c h =
    let given = c.in_ok-input.ensures in
    of_made (λ p. is_simple p ≡ true) c.aggregate.result _ c.aggregate.ensures
    (aggregate-simple c.in_ok-input.input c.in_ok-input.groups c.in_ok-input.made (opened (λ b. is_simple b ≡ true) c.args.input _ given.first_was h)
    (opened (λ made. arguments_pass is_settled made ≡ true) c.folded_aggregates-made.result _ given.third_was c.folded_aggregates-made.ensures.settled))
