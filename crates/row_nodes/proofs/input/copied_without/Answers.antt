use Rattle.std.proofs.Common.{false, [], ◌∷◌, refl, sym, ◌∙◌, add-one}
use Rattle.row_joins.proofs.Joining.{unmarked-taken, unmarked-skipped}
use Rattle.row_nodes.proofs.input.copied_without.Goals as goal
use Rattle.row_nodes.proofs.input.copied_without.Goals.{then-not-doomed-i+in_ok-copy+in_ok-push, else-not-doomed-i}

pub loop-i-preserved : goal.loop-i-preserved
loop-i-preserved c =
    elim c.if-not-doomed-i.branch [
      | then-not-doomed-i+in_ok-copy+in_ok-push w ↦
          rw (w.copies-is, w.in_ok-push.ensures.ok, w.in_ok-copy.ensures)
          (unmarked-taken c.args.doomed.now c.args.rows.now c.loop-i.i w.index-rows-i.result false _ (w.index-rows-i.result ∷ []) c.requires c.loop-i-test.true w.index-rows-i.is
          (sym w.if-not-doomed-i.true) c.loop-i.invariant refl)
      | else-not-doomed-i w ↦
          rw add-one (w.copies-is ∙ c.loop-i.invariant ∙ unmarked-skipped c.args.doomed.now c.args.rows.now c.loop-i.i c.requires c.loop-i-test.true w.if-not-doomed-i.false)
    ]
