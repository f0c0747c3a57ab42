use Rattle.std.proofs.Common.{sym, ◌∙◌, take}
use Rattle.perm_values.proofs.Lists.{taken}
use Rattle.row_values.proofs.Totals.{held_step, held_same}
use Rattle.row_values.proofs.groups.aggregate.count_distinct.Goals as goal
use Rattle.row_values.proofs.groups.aggregate.count_distinct.Goals.{then-not-is_null+in_ok-insert, else-not-is_null}

pub loop-value-preserved : goal.loop-value-preserved
loop-value-preserved c =
    let earlier = take c.loop-value.value-index c.args.values.now in
    rw (taken c.args.values.now c.loop-value.value-index c.value-item.result c.loop-value-test.true c.value-item.is)
    (elim c.if-not-is_null.branch [
      | then-not-is_null+in_ok-insert w ↦ rw (w.seen-is, w.in_ok-insert.ensures.keys) (held_step _ earlier _ c.loop-value.invariant (sym c.is_null.ensures ∙ w.if-not-is_null.true))
      | else-not-is_null w ↦ rw w.seen-is (held_same _ earlier c.value-item.result c.loop-value.invariant (sym c.is_null.ensures ∙ w.if-not-is_null.false))
    ])
