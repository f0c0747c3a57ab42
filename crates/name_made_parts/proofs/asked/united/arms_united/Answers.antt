use Rattle.name_seen_parts.specs.Standing.{surroundings}
use Rattle.name_made_parts.proofs.AskedListing.{arms-more}
use Rattle.name_made_parts.proofs.asked.united.arms_united.Goals as goal

pub loop-arm-preserved : goal.loop-arm-preserved
loop-arm-preserved c =
    arms-more c.args.here.now.catalog.now (surroundings c.args.here.now) c.args.arms.now c.loop-arm.arm-index c.arm-item.result c.loop-arm.kind c.in_ok-kind.kind
    c.loop-arm-test.true c.arm-item.is c.loop-arm.invariant c.in_ok-kind.ensures
