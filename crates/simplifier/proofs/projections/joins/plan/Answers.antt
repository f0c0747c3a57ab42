use Rattle.std.proofs.Common.{IfOk, IfSome, sym, ◌∙◌, subst}
use Rattle.bag_algebra.specs.declared.query.Query.TheVariants.{Join}
use Rattle.simplifier.specs.projections.Plans.{IsJoinPlan}
use Rattle.simplifier.specs.declared.projections.joins.JoinPlan.{JoinPlan}
use Rattle.simplifier.proofs.projections.joins.plan.Goals as goal

pub returns-then-is_empty : goal.returns-then-is_empty
returns-then-is_empty c =
    subst (λ q. IfOk c.plan_of.result (λ found. IfSome found (λ (plan : JoinPlan). IsJoinPlan q plan)))
    (sym (c.in-Join.is ∙ (λ i. Join c.in-Join.kind (sym c.get.ensures i) (sym c.get-then-is_empty.ensures i) c.in-Join.condition (c.is_empty.ensures.0 c.if-is_empty.true i))))
    c.plan_of.ensures
