use Rattle.std.proofs.Common.{refl}
use Rattle.tree_texts.proofs.Pieces.{rest_end}
use Rattle.query_texts.specs.clauses.Unused.{items_use, spare}
use Rattle.query_texts.proofs.clauses.Spared.{spare_next}
use Rattle.query_texts.proofs.clauses.unused_by_items.Goals as goal

pub loop-number-preserved : goal.loop-number-preserved
loop-number-preserved c =
    spare_next (items_use c.args.items.now) c.items_use.result _ c.loop-number.unused _ c.args.subs.now c.loop-number.number c.index-subs-number.result
    c.loop-number-test.true c.index-subs-number.is c.items_use.ensures c.loop-number.invariant c.in_ok-add_unused.ensures

pub returns : goal.returns
returns c =
    rest_end (spare (items_use c.args.items.now) c.loop-number.number) _ c.loop-number.unused c.args.subs.now c.loop-number.number
    c.loop-number-test.false refl c.loop-number.invariant
