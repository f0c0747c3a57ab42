use Rattle.std.proofs.Common.{◌≡◌, IfOk, subst}
use Rattle.bag_algebra.specs.declared.expr.Expr.{Expr}
use Rattle.bag_algebra.specs.Rewriting.{Stands}
use Rattle.bag_algebra.specs.declared.query.Query.TheVariants.{Join}
use Rattle.query_laws.proofs.SameExpressions.{same-itself}
use Rattle.query_laws.proofs.StandingNodes.{stands-Join}
use Rattle.query_laws.specs.Standing.{SubsStand}
use Rattle.contribution.proofs.NodeQueries.{of_made}
use Rattle.perm_values.proofs.Taken.{opened}
use Rattle.simpler_laws.proofs.standing.nodes.join_standing.Goals as goal

pub returns : goal.returns
returns c q r originals h i k =
    let given = c.in_ok-left.ensures in
    subst (λ (e : Expr). IfOk c.join.result (λ p. Stands (Join c.args.kind q r e originals) p))
    (opened (λ (e : Expr). e ≡ c.args.condition.now) c.copy.result _ given.third_was c.copy.ensures)
    (of_made (λ p. Stands (Join c.args.kind q r _ originals) p) c.join.result _ c.join.ensures
    (stands-Join q _ (opened (λ b. Stands q b) c.args.left _ given.first_was h) r _ (opened (λ b. Stands r b) c.args.right _ given.second_was i)
    c.args.kind _ _ (same-itself _) originals _ (opened (λ others. SubsStand originals others) c.args.subs _ given.fourth_was k)))
