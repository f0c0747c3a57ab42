use Rattle.std.proofs.Common.{not, ap}
use Rattle.simpler_laws.proofs.Added.{added-where}
use Rattle.simpler_laws.specs.Parts.{is_bound}
use Rattle.simpler_laws.proofs.filters.bound.Goals as goal

pub loop-test-preserved : goal.loop-test-preserved
loop-test-preserved c =
    added-where is_bound c.args.all.now c.loop-test.found _ c.loop-test.test-index c.test-item.result _ c.loop-test-test.true c.test-item.is c.loop-test.invariant (ap not c.reads_only-goes.ensures) c.in_ok-add_where.ensures
