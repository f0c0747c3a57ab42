use Rattle.std.proofs.Common.{sym}
use Rattle.std.proofs.lemmas.List.{take_all}
use Rattle.name_meaning.proofs.United.{united-none}
use Rattle.name_seen_parts.specs.Standing.{surroundings}
use Rattle.name_made_parts.proofs.AskedListing.{alike-more}
use Rattle.name_made_parts.proofs.asked.united.united_with_all.Goals as goal

pub loop-tree-init : goal.loop-tree-init
loop-tree-init c = sym (united-none c.args.so_far)

pub loop-tree-preserved : goal.loop-tree-preserved
loop-tree-preserved c =
    alike-more c.args.here.now.catalog.now (surroundings c.args.here.now) c.args.need c.args.trees.now c.loop-tree.tree-index c.tree-item.result c.args.so_far c.loop-tree.kind c.in_ok-kind.kind
    c.loop-tree-test.true c.tree-item.is c.loop-tree.invariant c.in_ok-kind.ensures

pub returns : goal.returns
returns c = rw (take_all c.loop-tree.tree-index c.args.trees.now c.loop-tree-test.false) at c.loop-tree.invariant
