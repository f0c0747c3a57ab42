use Rattle.std.proofs.Common.{◌≡◌, suc, ◌+◌, ◌++◌, ◌∷◌, [], take, sym, subst, ◌∙◌, arith}
use Rattle.contribution.proofs.SameTests.{same_tests-next}
use Rattle.contribution.specs.Conjunctions.{same_tests}
use Rattle.contribution.proofs.parts.same.same_tests.Goals as goal

pub loop-at-preserved : goal.loop-at-preserved
loop-at-preserved c =
    let next : suc c.loop-at.at ≡ c.loop-at.at + 1 = omega arith in
    subst (λ n. c.push.new.self ≡ same_tests c.args.level (take n c.args.theirs.now) (take n c.args.own.now)) next
    (c.in_ok-push.ensures.ok
    ∙ (λ i. c.loop-at.invariant i ++ c.in_ok-same_test.ensures i ∷ [])
    ∙ sym (same_tests-next c.args.level c.args.theirs.now c.args.own.now c.loop-at.at c.requires c.loop-at-test.true))
