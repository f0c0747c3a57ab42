use Rattle.bag_algebra.specs.built.Openings.{Except-is}
use Rattle.bag_algebra.specs.declared.query.Query.{Query}
use Rattle.bag_algebra.specs.declared.query.Query.TheVariants.{Except}
use Rattle.perm_values.proofs.Taken.{opened}
use Rattle.rewrite_driver.proofs.ClosedNodes.{along}
use Rattle.rewrite_driver.proofs.MadeQueries.{both_made}
use Rattle.rewrite_driver.proofs.rules.except_rule.Goals as goal
use Rattle.rewrite_driver.specs.KeptClosed.{RewritesClosed, StandsClosed}

pub returns : goal.returns
returns c q r h i j k =
    let given = c.in_ok-left.ensures in
    let left = opened (λ (b : Query). StandsClosed q b) c.args.left _ given.first_was h in
    let lefts = opened (λ (p : Query). RewritesClosed q p) c.args.lefts _ given.second_was i in
    let right = opened (λ (b : Query). StandsClosed r b) c.args.right _ given.third_was j in
    let rights = opened (λ (p : Query). RewritesClosed r p) c.args.rights _ given.fourth_was k in
    both_made _ _ (λ p. RewritesClosed (Except c.args.all q r) p) c.except.result c.except.ensures.rewrites c.except.ensures.none_open
    (λ p f n. record {
      rewrites = f q r left.stands lefts.rewrites right.stands rights.rewrites;
      none_open = λ o.
          let parts = along (Except-is c.args.all q r) o in
          n (left.none_open parts.0) (lefts.none_open parts.0) (right.none_open parts.1) (rights.none_open parts.1);
    })
