use Rattle.std.proofs.Common.{refl}
use Rattle.tree_texts.proofs.Pieces.{rest_end}
use Rattle.query_texts.specs.clauses.Unused.{spare, used_in}
use Rattle.query_texts.proofs.clauses.Spared.{spare_next}
use Rattle.query_texts.proofs.clauses.unused_by.Goals as goal

pub loop-number-preserved : goal.loop-number-preserved
loop-number-preserved c =
    spare_next (used_in c.args.condition.now) c.uses.result _ c.loop-number.unused _ c.args.subs.now c.loop-number.number c.index-subs-number.result
    c.loop-number-test.true c.index-subs-number.is c.uses.ensures c.loop-number.invariant c.in_ok-add_unused.ensures

pub returns : goal.returns
returns c =
    rest_end (spare (used_in c.args.condition.now) c.loop-number.number) _ c.loop-number.unused c.args.subs.now c.loop-number.number
    c.loop-number-test.false refl c.loop-number.invariant
