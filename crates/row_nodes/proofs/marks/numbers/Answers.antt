use Rattle.std.proofs.Common.{◌≡◌, ◌≤◌, arith, length-take, take, ◌∙◌}
use Rattle.bag_algebra.specs.Bags.{count}
use Rattle.row_nodes.proofs.Flags.{count-length}
use Rattle.row_nodes.proofs.Spending.{one_more, numbers_put}
use Rattle.bag_algebra.specs.Bags.{Row}
use Rattle.std.specs.Borrow.{Bor}
use Rattle.perm_values.proofs.Lists.{taken}
use Rattle.row_nodes.proofs.marks.numbers.Goals as goal

pub overflow_add-before : goal.overflow_add-before
overflow_add-before c =
    let k : c.number-before.result ≡ count c.row-item.result (take c.loop-row.row-index c.args.rows.now) =
    c.number-before.ensures ∙ c.loop-row.invariant.numbers (record { ref_ptr = (c.args.rows.ref_ptr.0, c.args.rows.ref_ptr.1); now = c.row-item.result }) in
    let l = count-length c.row-item.result (take c.loop-row.row-index c.args.rows.now) in
    let m = length-take c.loop-row.row-index c.args.rows.now in
    let n : c.number-before.result ≤ c.loop-row.row-index = omega arith in
    omega arith

pub loop-row-preserved : goal.loop-row-preserved
loop-row-preserved c =
    rw (taken c.args.rows.now c.loop-row.row-index c.row-item.result c.loop-row-test.true c.row-item.is)
    (let r : Bor Row = record { ref_ptr = (c.args.rows.ref_ptr.0, c.args.rows.ref_ptr.1); now = c.row-item.result } in
    numbers_put _ _ r _ _ _ c.in_ok-insert.ensures.updates.0 c.loop-row.invariant (one_more _ c.row-item.result c.number-before.result (c.number-before.ensures ∙ c.loop-row.invariant.numbers r)))
