use Rattle.perm_values.proofs.Lists.{taken}
use Rattle.row_nodes.proofs.Seeing.{holds_more}
use Rattle.row_nodes.proofs.marks.row_set.Goals as goal

pub loop-row-preserved : goal.loop-row-preserved
loop-row-preserved c =
    rw (c.in_ok-insert.ensures.keys, taken c.args.rows.now c.loop-row.row-index c.row-item.result c.loop-row-test.true c.row-item.is)
    (holds_more _ _ _ c.loop-row.invariant)
