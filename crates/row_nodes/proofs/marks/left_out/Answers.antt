use Rattle.std.proofs.Common.{◌∙◌}
use Rattle.perm_values.proofs.Lists.{taken}
use Rattle.row_nodes.proofs.Seeing.{is_wanted, is_unwanted, sees_wanted, sees_unwanted}
use Rattle.row_nodes.proofs.marks.left_out.Goals as goal
use Rattle.row_nodes.proofs.marks.left_out.Goals.{then-contains-common+in_ok-is_new+in_ok-push, else-contains-common+in_ok-push-2}

pub loop-row-preserved : goal.loop-row-preserved
loop-row-preserved c = λ vs h.
    rw (taken c.args.rows.now c.loop-row.row-index c.row-item.result c.loop-row-test.true c.row-item.is)
    (elim c.if-contains-common.branch [
      | then-contains-common+in_ok-is_new+in_ok-push w ↦
          rw (w.seen-is, w.flags-is, w.in_ok-push.ensures.ok, w.in_ok-is_new.ensures.added, w.in_ok-is_new.ensures.keys)
          (sees_wanted _ vs _ _ _ (c.loop-row.invariant vs h) _
          (is_wanted c.contains.result c.args.common vs c.row-item.result (c.contains.ensures ∙ h.members c.row-item.result) w.if-contains-common.true))
      | else-contains-common+in_ok-push-2 w ↦
          rw (w.seen-is, w.flags-is, w.in_ok-push-2.ensures.ok)
          (sees_unwanted _ vs _ _ _ (c.loop-row.invariant vs h) c.row-item.result
          (is_unwanted c.contains.result c.args.common vs c.row-item.result (c.contains.ensures ∙ h.members c.row-item.result) w.if-contains-common.false))
    ])
