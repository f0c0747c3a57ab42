use Rattle.bag_algebra.specs.built.Openings.{Intersect-is}
use Rattle.bag_algebra.specs.declared.query.Query.{Query}
use Rattle.bag_algebra.specs.declared.query.Query.TheVariants.{Intersect}
use Rattle.perm_values.proofs.Taken.{opened}
use Rattle.rewrite_driver.proofs.ClosedNodes.{along}
use Rattle.rewrite_driver.proofs.MadeQueries.{both_made}
use Rattle.rewrite_driver.proofs.rules.intersect_rule.Goals as goal
use Rattle.rewrite_driver.specs.KeptClosed.{RewritesClosed}

pub returns : goal.returns
returns c h k =
    let left = opened (λ (r : Query). RewritesClosed c.args.left.now r) c.args.lefts _ c.in_ok-lefts.ensures.first_was h in
    let right = opened (λ (r : Query). RewritesClosed c.args.right.now r) c.args.rights _ c.in_ok-lefts.ensures.second_was k in
    both_made _ _ (λ p. RewritesClosed (Intersect c.args.all c.args.left.now c.args.right.now) p) c.intersect.result c.intersect.ensures.rewrites
    c.intersect.ensures.none_open
    (λ p f n. record {
      rewrites = f left.rewrites right.rewrites;
      none_open = λ o. let parts = along (Intersect-is c.args.all c.args.left.now c.args.right.now) o in n (left.none_open parts.0) (right.none_open parts.1);
    })
