use Rattle.std.proofs.Common.{◌≡◌, ◌∙◌, IfOk, subst}
use Rattle.bag_algebra.specs.built.Openings.{Apply-is}
use Rattle.bag_algebra.specs.built.Patterns.{ApplyOf}
use Rattle.bag_algebra.specs.declared.query.Query.{Query}
use Rattle.lateral_rewrite.proofs.sides.beside.Goals as goal

pub returns : goal.returns
returns c =
    subst (λ (made : Query). IfOk c.apply.result (λ p. p ≡ made))
    (Apply-is _ c.args.rows c.args.right ∙ (λ i. ApplyOf (c.outwards.ensures i) c.args.rows c.args.right)) c.apply.ensures
