use Rattle.std.proofs.Common.{◌≡◌, List, IfOk, subst}
use Rattle.bag_algebra.specs.declared.expr.Item.{Item}
use Rattle.bag_algebra.specs.declared.query.Query.TheVariants.{Project}
use Rattle.query_laws.proofs.SameExpressions.{items-themselves}
use Rattle.contribution.proofs.NodeQueries.{of_made}
use Rattle.perm_values.proofs.Taken.{opened}
use Rattle.rewrite_driver.proofs.ClosedNodes.{kept-Project}
use Rattle.rewrite_driver.proofs.standing.project_standing.Goals as goal
use Rattle.rewrite_driver.specs.KeptClosed.{StandsClosed, SubsStandClosed}

pub returns : goal.returns
returns c q originals h k =
    let given = c.in_ok-input.ensures in
    subst (λ (items : List Item). IfOk c.project.result (λ p. StandsClosed (Project q items originals) p))
    (opened (λ (items : List Item). items ≡ c.args.items.now) c.copy.result _ given.second_was c.copy.ensures)
    (of_made (λ p. StandsClosed (Project q _ originals) p) c.project.result _ c.project.ensures
    (kept-Project q _ (opened (λ b. StandsClosed q b) c.args.input _ given.first_was h) _ _ (items-themselves _) originals _ (opened (λ others. SubsStandClosed originals others) c.args.subs _ given.third_was k)))
