use Rattle.std.proofs.Common.{refl, sym, ◌∙◌}
use Rattle.rewrite_move.proofs.DecidingValues.{next-by_value, not-by_value, all-taken}
use Rattle.rewrite_move.proofs.dependent.all_by_value.Goals as goal

pub loop-at-init : goal.loop-at-init
loop-at-init c = refl

pub returns-then-not-decides : goal.returns-then-not-decides
returns-then-not-decides c =
    sym (c.loop-at.invariant
    ∙ not-by_value c.args.condition.now c.args.subs.now c.loop-at.at c.index-subs-at.result c.loop-at-test.true c.index-subs-at.is (sym c.decides.ensures ∙ c.if-not-decides.true))

pub loop-at-preserved : goal.loop-at-preserved
loop-at-preserved c =
    c.loop-at.invariant
    ∙ next-by_value c.args.condition.now c.args.subs.now c.loop-at.at c.index-subs-at.result c.loop-at-test.true c.index-subs-at.is (sym c.decides.ensures ∙ c.if-not-decides.false)

pub returns : goal.returns
returns c = sym (c.loop-at.invariant ∙ all-taken c.args.condition.now c.args.subs.now c.loop-at.at c.loop-at-test.false)
