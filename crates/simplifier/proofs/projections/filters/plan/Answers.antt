use Rattle.std.proofs.Common.{IfOk, IfSome, sym, ◌∙◌, subst}
use Rattle.bag_algebra.specs.declared.query.Query.TheVariants.{Filter}
use Rattle.simplifier.specs.projections.Plans.{IsFilterPlan}
use Rattle.simplifier.specs.declared.projections.filters.FilterPlan.{FilterPlan}
use Rattle.simplifier.proofs.projections.filters.plan.Goals as goal

pub returns-in-Filter : goal.returns-in-Filter
returns-in-Filter c =
    subst (λ q. IfOk c.plan_of.result (λ found. IfSome found (λ (plan : FilterPlan). IsFilterPlan q plan)))
    (sym (c.in-Filter.is ∙ (λ i. Filter (sym c.get.ensures i) c.in-Filter.condition c.in-Filter.subs))) c.plan_of.ensures
