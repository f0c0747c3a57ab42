use Rattle.std.proofs.Common.{refl}
use Rattle.bag_algebra.specs.Rewriting.{Stands}
use Rattle.bag_algebra.specs.declared.query.Query.TheVariants.{Intersect}
use Rattle.query_laws.proofs.StandingNodes.{stands-Intersect}
use Rattle.contribution.proofs.NodeQueries.{of_made}
use Rattle.perm_values.proofs.Taken.{opened}
use Rattle.simpler_laws.specs.standing.Made.{IsMadeOfBoth}
use Rattle.simpler_laws.proofs.standing.nodes.intersect_standing.Goals as goal

pub returns-clause-stands : goal.returns-clause-stands
returns-clause-stands c q r h i =
    of_made (λ p. Stands (Intersect c.args.all q r) p) c.intersect.result _ c.intersect.ensures (stands-Intersect q _ (opened (λ b. Stands q b) c.args.left _ c.in_ok-left.ensures.first_was h) r _ (opened (λ b. Stands r b) c.args.right _ c.in_ok-left.ensures.second_was i) c.args.all)

pub returns-clause-made : goal.returns-clause-made
returns-clause-made c =
    of_made (λ p. IsMadeOfBoth c.args.left c.args.right (Intersect c.args.all) p) c.intersect.result _ c.intersect.ensures
    (record { first = _; second = _; first_was = c.in_ok-left.ensures.first_was; second_was = c.in_ok-left.ensures.second_was; is = refl })
