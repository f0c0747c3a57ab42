use Rattle.std.proofs.Common.{◌≡◌, true, IfSome, ap, subst}
use Rattle.bag_algebra.specs.declared.query.Query.TheVariants.{Filter}
use Rattle.contribution.specs.MovedColumns.{IsMoved}
use Rattle.simplifier.specs.projections.Carried.{Leads, all_reach}
use Rattle.simplifier.specs.projections.Sides.{IsBelow}
use Rattle.simplifier.specs.declared.projections.sides.Side.{Side}
use Rattle.simplifier.proofs.projections.filters.plan_of.Goals as goal

pub returns : goal.returns
returns c =
    let found = subst (λ o. IfSome o (λ (side : Side). (side.input ≡ true) × IsBelow c.args.input.now side)) c.in-Some.is c.in_ok-side.ensures in
    let first = c.leading-first.result in
    record {
      under = found.1.under;
      items = found.1.items;
      condition = c.args.condition.now;
      subs = c.args.subs.now;
      is = ap (λ q. Filter q c.args.condition.now c.args.subs.now) found.1.is;
      columns = found.1.columns;
      moved = subst (λ order. IsMoved order c.args.condition.now c.in_ok-condition.condition) c.as_slice-3.ensures c.in_ok-condition.ensures;
      first = first;
      leads = subst (Leads first) c.as_slice.ensures c.leading-first.ensures;
      reach = subst (λ subs. all_reach first subs ≡ true) c.as_slice-2.ensures (c.all_reach.ensures c.if-not-all_reach.false);
    }
