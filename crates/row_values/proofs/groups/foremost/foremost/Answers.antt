use Rattle.std.proofs.Common.{refl}
use Rattle.row_values.proofs.Least.{one_step}
use Rattle.row_values.proofs.groups.foremost.foremost.Goals as goal

pub loop-behind-preserved : goal.loop-behind-preserved
loop-behind-preserved c =
    one_step c.args.greatest c.args.values.now _ c.loop-behind.behind c.loop-behind.best _ refl c.loop-behind-test.true c.loop-behind.invariant c.better-best.ensures
