use Rattle.std.proofs.Common.{◌≡◌, true, IfOk, IfSome, sym, ◌∙◌, subst}
use Rattle.bag_algebra.specs.declared.query.Query.TheVariants.{Project}
use Rattle.simplifier.specs.projections.Sides.{IsBelow}
use Rattle.simplifier.specs.declared.projections.sides.Side.{Side}
use Rattle.simplifier.proofs.projections.sides.below.Goals as goal

pub returns-then-is_empty : goal.returns-then-is_empty
returns-then-is_empty c =
    subst (λ q. IfOk c.columns_below.result (λ found. IfSome found (λ (side : Side). (side.input ≡ true) × IsBelow q side)))
    (sym (c.in-Project.is ∙ (λ i. Project (sym c.get.ensures i) c.in-Project.items (c.is_empty.ensures.0 c.if-is_empty.true i)))) c.columns_below.ensures
