use Rattle.std.proofs.Common.{◌≡◌, filter, take}
use Rattle.contribution.specs.MovedColumns.{PartsMoved}
use Rattle.simpler_laws.specs.Sides.{is_right_alone}
use Rattle.simpler_laws.proofs.pairs.moved_right.Given as goal

abbrev pub invariant-loop-test : goal.invariant-loop-test
invariant-loop-test l = PartsMoved l.order (filter (is_right_alone l.left l.right) (take l.test-index l.tests)) l.found
