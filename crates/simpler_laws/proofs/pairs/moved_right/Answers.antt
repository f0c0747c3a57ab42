use Rattle.simpler_laws.proofs.Added.{moved-added}
use Rattle.simpler_laws.specs.Sides.{is_right_alone}
use Rattle.simpler_laws.proofs.pairs.moved_right.Goals as goal

pub loop-test-preserved : goal.loop-test-preserved
loop-test-preserved c =
    moved-added c.args.order.now (is_right_alone c.args.left c.args.right) c.args.tests.now _ c.loop-test.test-index c.test-item.result _ c.loop-test-test.true c.test-item.is c.is_right_alone-goes.ensures (c.in_ok-add_moved_where.ensures _ c.loop-test.invariant)
