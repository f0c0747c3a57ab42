use Rattle.std.proofs.Common.{◌≡◌, List, IfOk, subst}
use Rattle.perm_values.specs.declared.key.Key.{Key}
use Rattle.bag_algebra.specs.declared.query.Query.TheVariants.{Limit}
use Rattle.contribution.proofs.NodeQueries.{of_made}
use Rattle.perm_values.proofs.Taken.{opened}
use Rattle.rewrite_driver.proofs.ClosedNodes.{kept-Limit}
use Rattle.rewrite_driver.proofs.standing.limit_standing.Goals as goal
use Rattle.rewrite_driver.specs.KeptClosed.{StandsClosed}

pub returns : goal.returns
returns c q h =
    let given = c.in_ok-input.ensures in
    subst (λ (keys : List Key). IfOk c.limit.result (λ p. StandsClosed (Limit q keys c.args.count) p))
    (opened (λ (keys : List Key). keys ≡ c.args.keys.now) c.copy.result _ given.second_was c.copy.ensures)
    (of_made (λ p. StandsClosed (Limit q _ c.args.count) p) c.limit.result _ c.limit.ensures
    (kept-Limit q _ (opened (λ b. StandsClosed q b) c.args.input _ given.first_was h) _ c.args.count))
