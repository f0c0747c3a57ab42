use Rattle.bag_algebra.specs.declared.query.Query.TheVariants.{Distinct}
use Rattle.contribution.proofs.NodeQueries.{of_made}
use Rattle.perm_values.proofs.Taken.{opened}
use Rattle.rewrite_driver.proofs.ClosedNodes.{kept-Distinct}
use Rattle.rewrite_driver.proofs.standing.distinct_standing.Goals as goal
use Rattle.rewrite_driver.specs.KeptClosed.{StandsClosed}

pub returns : goal.returns
returns c q h =
    of_made (λ p. StandsClosed (Distinct q) p) c.distinct.result _ c.distinct.ensures (kept-Distinct q _ (opened (λ b. StandsClosed q b) c.args.input _ c.in_ok-input.was h))
