use Rattle.std.proofs.Common.{◌∙◌, ◌+◌, drop, sym, ap, arith}
use Rattle.rewrite_sublink.proofs.OneMore.{next, last, over-at}
use Rattle.rewrite_sublink.proofs.candidates.with_contributions.Goals as goal
use Rattle.rewrite_sublink.specs.Candidates.{all_contributed}

pub with_contribution-requires : goal.with_contribution-requires
with_contribution-requires c = over-at c.args.subs.now c.loop-at.at c.index-subs-at.result c.requires.over_tables c.loop-at-test.true c.index-subs-at.is

pub loop-at-preserved : goal.loop-at-preserved
loop-at-preserved c =
    let at = c.loop-at.at in
    ap (λ q. all_contributed q (drop (at + 1) c.args.subs.now) (drop (at + 1) c.args.standing.now) (drop (at + 1) c.args.rewritings.now)) c.in_ok-whole.ensures
    ∙ next c.loop-at.whole c.args.subs.now c.args.standing.now c.args.rewritings.now at c.index-subs-at.result c.index-standing-at.result c.index-rewritings-at.result
    c.loop-at-test.true (omega (arith, c.loop-at-test.true, c.requires.as_many)) (omega (arith, c.loop-at-test.true, c.requires.rewritten))
    c.index-subs-at.is c.index-standing-at.is c.index-rewritings-at.is
    ∙ c.loop-at.invariant

pub returns : goal.returns
returns c =
    sym (last c.loop-at.whole c.args.subs.now c.args.standing.now c.args.rewritings.now c.loop-at.at c.loop-at-test.false) ∙ c.loop-at.invariant
