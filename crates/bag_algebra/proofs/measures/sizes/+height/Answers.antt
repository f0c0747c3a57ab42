use Rattle.std.proofs.Common.{ap, arith}
use Rattle.std.proofs.lemmas.List.{at_drop_all}
use Rattle.bag_algebra.specs.built.Measures.{inputs_height, subs_height}
use Rattle.bag_algebra.proofs.ByChildren.{height_of-node}
use Rattle.bag_algebra.proofs.Rest.{from_here}
use Rattle.bag_algebra.proofs.measures.sizes.+height.Goals as goal

pub height-returns : goal.height-returns
height-returns t c =
    omega (arith, height_of-node c.args.query.now, ap inputs_height c.inputs.ensures, ap subs_height c.sublinks.ensures)

pub subs_height-loop-sub-preserved : goal.subs_height-loop-sub-preserved
subs_height-loop-sub-preserved t c =
    omega (arith, c.loop-sub.invariant, from_here subs_height c.args.subs.now c.loop-sub.sub-index c.sub-item.result c.loop-sub-test.true c.sub-item.is)

pub subs_height-returns : goal.subs_height-returns
subs_height-returns t c =
    omega (arith, c.loop-sub.invariant, at_drop_all subs_height c.args.subs.now c.loop-sub.sub-index (omega arith))
