use Rattle.std.proofs.Common.{take}
use Rattle.perm_values.proofs.Lists.{taken}
use Rattle.row_values.proofs.Truths.{in_list_more}
use Rattle.row_values.proofs.operate.in_list.Goals as goal

pub loop-other-preserved : goal.loop-other-preserved
loop-other-preserved c =
    cc (
      taken c.args.list.now c.loop-other.other-index c.other-item.result c.loop-other-test.true c.other-item.is,
      in_list_more c.args.value.now (take c.loop-other.other-index c.args.list.now) c.other-item.result,
    )
