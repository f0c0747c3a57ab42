use Rattle.simpler_laws.proofs.Added.{added-where}
use Rattle.simpler_laws.specs.Sides.{is_left}
use Rattle.simpler_laws.proofs.pairs.of_left.Goals as goal

pub loop-test-preserved : goal.loop-test-preserved
loop-test-preserved c =
    added-where (is_left c.args.left) c.args.tests.now c.loop-test.found _ c.loop-test.test-index c.test-item.result _ c.loop-test-test.true c.test-item.is c.loop-test.invariant c.reads_only-goes.ensures c.in_ok-add_where.ensures
