use Rattle.std.proofs.Common.{IfSome, subst}
use Rattle.bag_algebra.specs.Rewriting.{Stands}
use Rattle.perm_values.proofs.Taken.{opened}
use Rattle.simplifier.specs.projections.Plans.{IsFilterPlan}
use Rattle.simplifier.specs.declared.projections.filters.FilterPlan.{FilterPlan}
use Rattle.simplifier.proofs.projections.filters.filter_raised.Goals as goal

pub lowered-requires : goal.lowered-requires
lowered-requires c = subst (λ found. IfSome found (λ (plan : FilterPlan). IsFilterPlan c.in_ok-query.query plan)) c.in-Some.is c.in-Ok.ensures

pub returns-in-Some : goal.returns-in-Some
returns-in-Some c q h = c.lowered.ensures q (opened (λ b. Stands q b) c.args.query _ c.in_ok-query.was h)

pub returns-in-None : goal.returns-in-None
returns-in-None c q h = opened (λ b. Stands q b) c.args.query _ c.in_ok-query.was h
