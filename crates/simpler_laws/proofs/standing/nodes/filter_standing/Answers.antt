use Rattle.std.proofs.Common.{◌≡◌, IfOk, subst}
use Rattle.bag_algebra.specs.declared.expr.Expr.{Expr}
use Rattle.bag_algebra.specs.Rewriting.{Stands}
use Rattle.bag_algebra.specs.declared.query.Query.TheVariants.{Filter}
use Rattle.query_laws.proofs.SameExpressions.{same-itself}
use Rattle.query_laws.proofs.StandingNodes.{stands-Filter}
use Rattle.query_laws.specs.Standing.{SubsStand}
use Rattle.contribution.proofs.NodeQueries.{of_made}
use Rattle.perm_values.proofs.Taken.{opened}
use Rattle.simpler_laws.proofs.standing.nodes.filter_standing.Goals as goal

pub returns : goal.returns
returns c q originals h k =
    let given = c.in_ok-input.ensures in
    subst (λ (e : Expr). IfOk c.filter.result (λ p. Stands (Filter q e originals) p))
    (opened (λ (e : Expr). e ≡ c.args.condition.now) c.copy.result _ given.second_was c.copy.ensures)
    (of_made (λ p. Stands (Filter q _ originals) p) c.filter.result _ c.filter.ensures
    (stands-Filter q _ (opened (λ b. Stands q b) c.args.input _ given.first_was h) _ _ (same-itself _) originals _ (opened (λ others. SubsStand originals others) c.args.subs _ given.third_was k)))
