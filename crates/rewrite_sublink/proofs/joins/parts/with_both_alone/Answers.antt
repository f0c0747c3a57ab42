use Rattle.std.proofs.Common.{◌≡◌, ◌∙◌, false, IfOk, ap, subst}
use Rattle.bag_algebra.specs.built.Openings.{Union-is}
use Rattle.bag_algebra.specs.declared.query.Query.{Query}
use Rattle.bag_algebra.specs.declared.query.Query.TheVariants.{Union}
use Rattle.rewrite_sublink.proofs.joins.parts.with_both_alone.Goals as goal
use Rattle.rewrite_sublink.specs.joins.ByParts.{with_alone}

pub returns : goal.returns
returns c =
    let lefts = c.in-Ok-with_alone.ensures ∙ ap (λ copy. with_alone c.args.left_side c.args.left_rewriting copy) c.in-Ok.ensures in
    subst (λ (made : Query). IfOk c.union.result (λ p. p ≡ made))
    ((λ i. Union false (lefts i) (c.in-Ok-with_alone-2.ensures i)) ∙ Union-is false _ _) c.union.ensures
