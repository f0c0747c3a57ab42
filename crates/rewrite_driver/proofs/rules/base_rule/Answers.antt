use Rattle.bag_algebra.specs.built.Openings.{Base-is}
use Rattle.bag_algebra.specs.declared.query.Query.{Query}
use Rattle.bag_algebra.specs.declared.query.Query.TheVariants.{Base}
use Rattle.perm_values.proofs.Taken.{opened}
use Rattle.rewrite_driver.proofs.ClosedNodes.{along}
use Rattle.rewrite_driver.proofs.MadeQueries.{both_made}
use Rattle.rewrite_driver.proofs.rules.base_rule.Goals as goal
use Rattle.rewrite_driver.specs.KeptClosed.{RewritesClosed, StandsClosed}

pub returns : goal.returns
returns c q label h =
    let given = opened (λ (b : Query). StandsClosed q b) c.args.plain _ c.in_ok-plain.was h in
    both_made _ _ (λ p. RewritesClosed (Base q c.args.places.now label) p) c.base.result c.base.ensures.rewrites c.base.ensures.none_open
    (λ p f n. record { rewrites = f q label given.stands; none_open = λ o. n (given.none_open (along (Base-is q c.args.places.now label) o)) })
