use Rattle.std.proofs.Common.{◌≡◌, IfOk, subst}
use Rattle.bag_algebra.specs.declared.query.Query.{Query}
use Rattle.bag_algebra.specs.declared.query.Query.TheVariants.{Filter}
use Rattle.rewrite_sublink.proofs.candidates.tested.Goals as goal

pub returns : goal.returns
returns c =
    subst (λ (made : Query). IfOk c.filter.result (λ p. p ≡ made))
    (λ i. Filter c.args.pairs (c.in-Ok.ensures.condition i) (c.in-Ok.ensures.subs i)) c.filter.ensures
