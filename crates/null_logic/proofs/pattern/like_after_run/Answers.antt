use Rattle.null_logic.proofs.Walk.{Walks-run, Walks-taken}
use Rattle.null_logic.proofs.pattern.like_after_run.Goals as goal

pub loop-rest-preserved-in-Run : goal.loop-rest-preserved-in-Run
loop-rest-preserved-in-Run c =
    let w = c.loop-rest.invariant in
    (w.1.1.0, (c.in-Run.ensures.1, (w.1.1.0, (c.in-Run.ensures.1, Walks-run _ _ _ c.in-Run.ensures.0 w.1.1.1.1))))

pub loop-rest-preserved-in-Taken : goal.loop-rest-preserved-in-Taken
loop-rest-preserved-in-Taken c =
    let w = c.loop-rest.invariant in
    (w.0, (w.1.0, (c.in-Taken.ensures.1, (c.in-Taken.ensures.2, Walks-taken _ _ _ _ c.in-Taken.ensures.0 w.1.1.1.1))))
