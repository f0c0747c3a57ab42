use Rattle.std.proofs.Common.{◌≡◌, [], IfOk, subst}
use Rattle.bag_algebra.specs.built.Patterns.{ProjectOf}
use Rattle.bag_algebra.specs.declared.query.Query.{Query, end_of-Sublink}
use Rattle.rewrite_sublink.proofs.matching.first_column.Goals as goal

pub returns : goal.returns
returns c =
    subst (λ (p : Query). IfOk c.projection.result (λ q. q ≡ p))
    (λ i. ProjectOf (c.in_ok-rows.ensures i) (c.in_ok-items.ensures i) [] end_of-Sublink) c.projection.ensures.made
