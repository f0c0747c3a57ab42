use Rattle.std.proofs.Common.{◌≡◌, IfOk, subst}
use Rattle.bag_algebra.specs.declared.expr.Expr.{Expr}
use Rattle.bag_algebra.specs.declared.query.Query.TheVariants.{Filter}
use Rattle.query_laws.proofs.SameExpressions.{same-itself}
use Rattle.contribution.proofs.NodeQueries.{of_made}
use Rattle.perm_values.proofs.Taken.{opened}
use Rattle.rewrite_driver.proofs.ClosedNodes.{kept-Filter}
use Rattle.rewrite_driver.proofs.standing.filter_standing.Goals as goal
use Rattle.rewrite_driver.specs.KeptClosed.{StandsClosed, SubsStandClosed}

pub returns : goal.returns
returns c q originals h k =
    let given = c.in_ok-input.ensures in
    subst (λ (e : Expr). IfOk c.filter.result (λ p. StandsClosed (Filter q e originals) p))
    (opened (λ (e : Expr). e ≡ c.args.condition.now) c.copy.result _ given.second_was c.copy.ensures)
    (of_made (λ p. StandsClosed (Filter q _ originals) p) c.filter.result _ c.filter.ensures
    (kept-Filter q _ (opened (λ b. StandsClosed q b) c.args.input _ given.first_was h) _ _ (same-itself _) originals _ (opened (λ others. SubsStandClosed originals others) c.args.subs _ given.third_was k)))
