use Rattle.bag_algebra.specs.built.Openings.{Union-is}
use Rattle.bag_algebra.specs.declared.query.Query.{Query}
use Rattle.bag_algebra.specs.declared.query.Query.TheVariants.{Union}
use Rattle.perm_values.proofs.Taken.{opened}
use Rattle.rewrite_driver.proofs.ClosedNodes.{along}
use Rattle.rewrite_driver.proofs.MadeQueries.{both_made}
use Rattle.rewrite_driver.proofs.rules.union_rule.Goals as goal
use Rattle.rewrite_driver.specs.KeptClosed.{RewritesClosed}

pub union_of-requires-clause-left : goal.union_of-requires-clause-left
union_of-requires-clause-left c =
    (opened (λ (r : Query). RewritesClosed c.args.left.now r) c.args.lefts _ c.in_ok-lefts.ensures.first_was c.requires.left).rewrites

pub union_of-requires-clause-right : goal.union_of-requires-clause-right
union_of-requires-clause-right c =
    (opened (λ (r : Query). RewritesClosed c.args.right.now r) c.args.rights _ c.in_ok-lefts.ensures.second_was c.requires.right).rewrites

pub returns : goal.returns
returns c =
    let left = opened (λ (r : Query). RewritesClosed c.args.left.now r) c.args.lefts _ c.in_ok-lefts.ensures.first_was c.requires.left in
    let right = opened (λ (r : Query). RewritesClosed c.args.right.now r) c.args.rights _ c.in_ok-lefts.ensures.second_was c.requires.right in
    both_made _ _ (λ p. RewritesClosed (Union c.args.all c.args.left.now c.args.right.now) p) c.union_of.result c.union_of.ensures.rewrites c.union_of.ensures.none_open
    (λ p r n. record {
      rewrites = r;
      none_open = λ h. let parts = along (Union-is c.args.all c.args.left.now c.args.right.now) h in n (left.none_open parts.0) (right.none_open parts.1);
    })
