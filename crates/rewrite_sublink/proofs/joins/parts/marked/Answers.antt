use Rattle.std.proofs.Common.{◌≡◌, ◌∙◌, [], IfOk, subst}
use Rattle.bag_algebra.specs.built.Openings.{Distinct-is}
use Rattle.bag_algebra.specs.built.Patterns.{JoinOf}
use Rattle.bag_algebra.specs.declared.query.Query.{Query, end_of-Sublink}
use Rattle.rewrite_sublink.proofs.joins.parts.marked.Goals as goal

pub returns : goal.returns
returns c =
    let rows = c.in-Ok-distinct.ensures ∙ Distinct-is c.args.rewriting in
    subst (λ (made : Query). IfOk c.join_on.result (λ p. p ≡ made))
    (λ i. JoinOf (c.outwards.ensures i) (rows i) c.args.pairs (c.in-Ok.ensures i) [] end_of-Sublink) c.join_on.ensures.made
