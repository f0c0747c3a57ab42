use Rattle.bag_algebra.specs.built.Openings.{Aggregate-is}
use Rattle.bag_algebra.specs.declared.query.Query.{Query}
use Rattle.bag_algebra.specs.declared.query.Query.TheVariants.{Aggregate}
use Rattle.perm_values.proofs.Taken.{opened}
use Rattle.rewrite_driver.proofs.ClosedNodes.{along}
use Rattle.rewrite_driver.proofs.MadeQueries.{both_made}
use Rattle.rewrite_driver.proofs.rules.aggregate_rule.Goals as goal
use Rattle.rewrite_driver.specs.KeptClosed.{RewritesClosed, StandsClosed}

pub returns : goal.returns
returns c q h k =
    let given = c.in_ok-plain.ensures in
    let plain = opened (λ (b : Query). StandsClosed q b) c.args.plain _ given.first_was h in
    let rewriting = opened (λ (r : Query). RewritesClosed q r) c.args.rewriting _ given.second_was k in
    both_made _ _ (λ p. RewritesClosed (Aggregate q c.args.groups.now c.args.aggregates.now) p) c.aggregate.result c.aggregate.ensures.rewrites c.aggregate.ensures.none_open
    (λ p f n. record {
      rewrites = f q plain.stands rewriting.rewrites;
      none_open = λ o. let part = along (Aggregate-is q c.args.groups.now c.args.aggregates.now) o in n (plain.none_open part) (rewriting.none_open part);
    })
