use Rattle.std.proofs.Common.{ap, arith}
use Rattle.std.proofs.lemmas.List.{at_drop_all}
use Rattle.bag_algebra.specs.built.Measures.{inputs_size, subs_size}
use Rattle.bag_algebra.proofs.ByChildren.{size_of-node}
use Rattle.bag_algebra.proofs.Rest.{from_here}
use Rattle.bag_algebra.proofs.measures.sizes.+size.Goals as goal

pub size-returns : goal.size-returns
size-returns t c =
    omega (arith, size_of-node c.args.query.now, ap inputs_size c.inputs.ensures, ap subs_size c.sublinks.ensures)

pub subs_size-loop-sub-preserved : goal.subs_size-loop-sub-preserved
subs_size-loop-sub-preserved t c =
    let here = from_here subs_size c.args.subs.now c.loop-sub.sub-index c.sub-item.result c.loop-sub-test.true c.sub-item.is in
    (omega (arith, c.loop-sub.invariant.0, here), omega arith)

pub subs_size-returns : goal.subs_size-returns
subs_size-returns t c =
    omega (arith, c.loop-sub.invariant.0, c.loop-sub.invariant.1, at_drop_all subs_size c.args.subs.now c.loop-sub.sub-index (omega arith))
