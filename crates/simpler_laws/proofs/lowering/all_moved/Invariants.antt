use Rattle.std.proofs.Common.{take}
use Rattle.contribution.specs.MovedColumns.{PartsMoved}
use Rattle.simpler_laws.proofs.lowering.all_moved.Given as goal

abbrev pub invariant-loop-test : goal.invariant-loop-test
invariant-loop-test l = PartsMoved l.order (take l.test-index l.tests) l.made
