use Rattle.std.proofs.Common.{◌≡◌, ◌+◌, ◌≤◌, ◌<◌, ◌^◌, length}
use Rattle.std.specs.Vec.Iter.{into_iter_items}
use Rattle.perm_catalog.specs.Changes.{nothing_held}
use Rattle.sql_tree.specs.Regular.{Each, RegularStatement}
use Rattle.perm_engine.proofs.meaning.Ending.{HasRun}
use Rattle.perm_engine.proofs.run.run_statements.Given as goal

abbrev pub invariant-loop-statement : goal.invariant-loop-statement
invariant-loop-statement g l = record {
  has_run : HasRun (g.F.Files.told l.fn.files).held (g.F.Files.told l.fn.files).faults l.fn.statements (nothing_held 1) (into_iter_items l.left) l.session.contents (g.K.Sink.told l.fn.out).written (g.K.Sink.told l.out).written
      (g.K.Sink.told l.fn.out).faults (g.K.Sink.told l.out).faults (g.F.Files.told l.fn.files).begun (g.F.Files.told l.files).begun;
  calm : (g.F.Files.told l.files).faults ≡ (g.F.Files.told l.fn.files).faults;
  held : (g.F.Files.told l.files).held ≡ (g.F.Files.told l.fn.files).held;
  regular : Each RegularStatement (into_iter_items l.left);
  drawn : l.session.contents.next + length (into_iter_items l.left) ≤ length l.fn.statements + 1;
  few : length l.fn.statements < 2 ^ 63;
}

abbrev pub decreases-loop-statement : goal.decreases-loop-statement
decreases-loop-statement g l = length (into_iter_items l.left)
