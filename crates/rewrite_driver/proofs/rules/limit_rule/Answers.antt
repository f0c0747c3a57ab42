use Rattle.bag_algebra.specs.built.Openings.{Limit-is}
use Rattle.bag_algebra.specs.declared.query.Query.{Query}
use Rattle.bag_algebra.specs.declared.query.Query.TheVariants.{Limit}
use Rattle.perm_values.proofs.Taken.{opened}
use Rattle.rewrite_driver.proofs.ClosedNodes.{along}
use Rattle.rewrite_driver.proofs.MadeQueries.{both_made}
use Rattle.rewrite_driver.proofs.rules.limit_rule.Goals as goal
use Rattle.rewrite_driver.specs.KeptClosed.{RewritesClosed, StandsClosed}

pub returns : goal.returns
returns c q h k =
    let given = c.in_ok-plain.ensures in
    let plain = opened (λ (b : Query). StandsClosed q b) c.args.plain _ given.first_was h in
    let rewriting = opened (λ (r : Query). RewritesClosed q r) c.args.rewriting _ given.second_was k in
    both_made _ _ (λ p. RewritesClosed (Limit q c.args.keys.now c.args.count) p) c.limit.result c.limit.ensures.rewrites c.limit.ensures.none_open
    (λ p f n. record {
      rewrites = f q plain.stands rewriting.rewrites;
      none_open = λ o. let part = along (Limit-is q c.args.keys.now c.args.count) o in n (plain.none_open part) (rewriting.none_open part);
    })
