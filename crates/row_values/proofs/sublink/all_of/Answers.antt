use Rattle.std.proofs.Common.{take}
use Rattle.perm_values.proofs.Lists.{taken}
use Rattle.row_values.proofs.Quantified.{all_more}
use Rattle.row_values.proofs.sublink.all_of.Goals as goal

pub loop-row-preserved : goal.loop-row-preserved
loop-row-preserved c =
    cc (
      taken c.args.rows.now c.loop-row.row-index c.row-item.result c.loop-row-test.true c.row-item.is,
      all_more c.args.compare c.args.tested.now (take c.loop-row.row-index c.args.rows.now) c.row-item.result,
    )
