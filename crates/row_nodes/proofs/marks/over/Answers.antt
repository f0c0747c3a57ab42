use Rattle.std.proofs.Common.{refl, arith}
use Rattle.row_nodes.proofs.Spending.{spends_one, spends_none}
use Rattle.bag_algebra.specs.Bags.{Row}
use Rattle.std.specs.Borrow.{Bor}
use Rattle.perm_values.proofs.Lists.{taken}
use Rattle.row_nodes.proofs.marks.over.Goals as goal
use Rattle.row_nodes.proofs.marks.over.Goals.{then-rest-gt0+in_ok-insert, else-rest-gt0}

pub loop-row-preserved : goal.loop-row-preserved
loop-row-preserved c =
    let r : Bor Row = record { ref_ptr = (c.args.rows.ref_ptr.0, c.args.rows.ref_ptr.1); now = c.row-item.result } in
    rw (taken c.args.rows.now c.loop-row.row-index c.row-item.result c.loop-row-test.true c.row-item.is, c.in_ok-push.ensures.ok)
    (elim c.if-rest-gt0.branch [
      | then-rest-gt0+in_ok-insert w ↦
          let m = w.if-rest-gt0.true in
          rw w.left-is (spends_one _ _ _ _ _ r c.number-rest.result c.loop-row.invariant c.number-rest.ensures _ _ _ w.in_ok-insert.ensures.updates.0 (omega arith) refl)
      | else-rest-gt0 w ↦
          let m = w.if-rest-gt0.false in
          rw w.left-is (spends_none _ _ _ _ _ r c.number-rest.result c.loop-row.invariant c.number-rest.ensures _ (omega arith) refl)
    ])
