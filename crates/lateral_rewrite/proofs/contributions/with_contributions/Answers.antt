use Rattle.std.proofs.Common.{◌∙◌, ◌+◌, drop, sym, ap, arith}
use Rattle.lateral_rewrite.proofs.OneMore.{next, last}
use Rattle.lateral_rewrite.proofs.contributions.with_contributions.Goals as goal
use Rattle.lateral_rewrite.specs.Dependent.{all_contributed}

pub loop-at-preserved : goal.loop-at-preserved
loop-at-preserved c =
    let at = c.loop-at.at in
    ap (λ q. all_contributed q (drop (at + 1) c.args.standing.now) (drop (at + 1) c.args.rewritings.now)) c.in_ok-whole.ensures
    ∙ next c.loop-at.whole c.args.standing.now c.args.rewritings.now at c.index-standing-at.result c.index-rewritings-at.result
    c.loop-at-test.true (omega (arith, c.loop-at-test.true, c.requires.rewritten)) c.index-standing-at.is c.index-rewritings-at.is
    ∙ c.loop-at.invariant

pub returns : goal.returns
returns c =
    sym (last c.loop-at.whole c.args.standing.now c.args.rewritings.now c.loop-at.at c.loop-at-test.false) ∙ c.loop-at.invariant
