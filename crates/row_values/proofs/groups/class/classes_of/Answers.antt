use Rattle.std.proofs.Common.{take}
use Rattle.perm_values.proofs.Lists.{taken}
use Rattle.row_values.proofs.Keys.{classed-more}
use Rattle.row_values.proofs.groups.class.classes_of.Goals as goal

pub loop-row-preserved : goal.loop-row-preserved
loop-row-preserved c =
    rw (taken c.args.rows.now c.loop-row.row-index c.row-item.result c.loop-row-test.true c.row-item.is, c.in_ok-push.ensures.ok)
    (classed-more c.args.groups.now (take c.loop-row.row-index c.args.rows.now) c.loop-row.keys.keys c.insert_full.new.self.keys c.loop-row.numbers c.row-item.result _
    c.loop-row.invariant (rw c.in_ok-key.ensures at c.in_ok-number.ensures.keys) (rw c.in_ok-key.ensures at c.in_ok-number.ensures.stored))
