use Rattle.contribution.proofs.MovedVariants.{along-next}
use Rattle.contribution.specs.MovedColumns.{IsMoved}
use Rattle.simpler_laws.proofs.lowering.all_moved.Goals as goal

pub loop-test-preserved : goal.loop-test-preserved
loop-test-preserved c =
    along-next (IsMoved c.args.order.now) c.args.tests.now c.loop-test.made c.push.new.self c.loop-test.test-index c.test-item.result c.in_ok-moved.field-0
    c.loop-test-test.true c.test-item.is c.loop-test.invariant c.in_ok-moved.ensures c.in_ok-push.ensures.ok
