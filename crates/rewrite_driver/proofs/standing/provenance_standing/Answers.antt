use Rattle.bag_algebra.specs.declared.query.Query.TheVariants.{Prov}
use Rattle.contribution.proofs.NodeQueries.{of_made}
use Rattle.perm_values.proofs.Taken.{opened}
use Rattle.rewrite_driver.proofs.ClosedNodes.{kept-Prov}
use Rattle.rewrite_driver.proofs.standing.provenance_standing.Goals as goal
use Rattle.rewrite_driver.specs.KeptClosed.{RewritesClosed, StandsClosed}

pub returns : goal.returns
returns c q h =
    of_made (λ p. StandsClosed (Prov q) p) c.distinct.result _ c.distinct.ensures (kept-Prov q _ (opened (λ r. RewritesClosed q r) c.args.rewriting _ c.in_ok-rewriting.was h))
