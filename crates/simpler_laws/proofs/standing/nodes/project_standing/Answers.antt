use Rattle.std.proofs.Common.{◌≡◌, List, IfOk, subst}
use Rattle.bag_algebra.specs.declared.expr.Item.{Item}
use Rattle.bag_algebra.specs.Rewriting.{Stands}
use Rattle.bag_algebra.specs.declared.query.Query.TheVariants.{Project}
use Rattle.query_laws.proofs.SameExpressions.{items-themselves}
use Rattle.query_laws.proofs.StandingNodes.{stands-Project}
use Rattle.query_laws.specs.Standing.{SubsStand}
use Rattle.contribution.proofs.NodeQueries.{of_made}
use Rattle.perm_values.proofs.Taken.{opened}
use Rattle.simpler_laws.proofs.standing.nodes.project_standing.Goals as goal

pub returns : goal.returns
returns c q originals h k =
    let given = c.in_ok-input.ensures in
    subst (λ (items : List Item). IfOk c.project.result (λ p. Stands (Project q items originals) p))
    (opened (λ (items : List Item). items ≡ c.args.items.now) c.copy.result _ given.second_was c.copy.ensures)
    (of_made (λ p. Stands (Project q _ originals) p) c.project.result _ c.project.ensures
    (stands-Project q _ (opened (λ b. Stands q b) c.args.input _ given.first_was h) _ _ (items-themselves _) originals _ (opened (λ others. SubsStand originals others) c.args.subs _ given.third_was k)))
