use Rattle.perm_values.proofs.Keeping.{Keeps-doomed, Keeps-staying}
use Rattle.perm_values.proofs.list.keep_in_front.Goals as goal
use Rattle.perm_values.proofs.list.keep_in_front.Goals.{then-not-doomed-i, else-not-doomed-i}

pub loop-i-preserved : goal.loop-i-preserved
loop-i-preserved g c =
    elim c.if-not-doomed-i.branch [
      | then-not-doomed-i w ↦ rw (w.items-is, w.kept-is, w.swap.ensures.after)
          (Keeps-staying _ _ _ _ _ c.loop-i.invariant c.requires c.loop-i-test.true w.if-not-doomed-i.true)
      | else-not-doomed-i w ↦ rw (w.items-is, w.kept-is)
          (Keeps-doomed _ _ _ _ _ c.loop-i.invariant c.requires c.loop-i-test.true w.if-not-doomed-i.false)
    ]
