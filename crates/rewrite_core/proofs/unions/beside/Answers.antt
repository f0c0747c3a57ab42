use Rattle.std.proofs.Common.{◌≡◌, true, IfOk, ap, ◌∙◌, subst}
use Rattle.bag_algebra.specs.built.Openings.{Union-is}
use Rattle.bag_algebra.specs.declared.query.Query.{Query}
use Rattle.bag_algebra.specs.declared.query.Query.TheVariants.{Union}
use Rattle.rewrite_core.proofs.unions.beside.Goals as goal

pub returns : goal.returns
returns c =
    subst (λ (made : Query). IfOk c.union.result (λ p. p ≡ made)) (ap (Union true c.args.left_side) c.in-Ok.ensures ∙ Union-is true _ _) c.union.ensures
