use Rattle.std.proofs.Common.{◌≡◌, [], IfOk, subst}
use Rattle.bag_algebra.specs.built.Patterns.{JoinOf}
use Rattle.bag_algebra.specs.declared.query.Query.{Query, end_of-Sublink}
use Rattle.bag_algebra.specs.declared.query.Query.TheVariants.{Single}
use Rattle.rewrite_sublink.proofs.matching.or_nulls.Goals as goal

pub returns : goal.returns
returns c =
    subst (λ (p : Query). IfOk c.join_on.result (λ q. q ≡ p))
    (λ i. JoinOf (c.outwards.ensures i) Single (c.in_ok-rows.ensures i) (c.always.ensures i) [] end_of-Sublink) c.join_on.ensures.made
