use Rattle.bag_algebra.specs.declared.query.Query.TheVariants.{Union}
use Rattle.contribution.proofs.NodeQueries.{of_made}
use Rattle.perm_values.proofs.Taken.{opened}
use Rattle.rewrite_driver.proofs.ClosedNodes.{kept-Union}
use Rattle.rewrite_driver.proofs.standing.union_standing.Goals as goal
use Rattle.rewrite_driver.specs.KeptClosed.{StandsClosed}

pub returns : goal.returns
returns c q r h i =
    of_made (λ p. StandsClosed (Union c.args.all q r) p) c.union.result _ c.union.ensures (kept-Union q _ (opened (λ b. StandsClosed q b) c.args.left _ c.in_ok-left.ensures.first_was h) r _ (opened (λ b. StandsClosed r b) c.args.right _ c.in_ok-left.ensures.second_was i) c.args.all)
