use Rattle.std.proofs.Common.{refl, subst}
use Rattle.contribution.specs.MovedColumns.{IsMoved}
use Rattle.perm_values.proofs.Taken.{opened}
use Rattle.simplifier.specs.projections.Sides.{IsSide}
use Rattle.simplifier.proofs.projections.joins.plan_of.Goals as goal

pub returns : goal.returns
returns c =
    let given = c.in_ok-lefts.ensures in
    record {
      left = c.args.left.now;
      right = c.args.right.now;
      condition = c.args.condition.now;
      lefts = c.in_ok-lefts.lefts;
      rights = c.in_ok-lefts.rights;
      is = refl;
      of_left = opened (IsSide c.args.left.now) c.side_of.result _ given.first_was c.side_of.ensures;
      of_right = opened (IsSide c.args.right.now) c.side_of-2.result _ given.second_was c.side_of-2.ensures;
      left_input = refl;
      right_input = refl;
      order = c.in_ok-order.ensures;
      moved = subst (λ order. IsMoved order c.args.condition.now c.in_ok-condition.condition) c.as_slice.ensures c.in_ok-condition.ensures;
    }
