use Rattle.std.proofs.Common.{◌≡◌, drop}
use Rattle.lateral_rewrite.proofs.contributions.with_contributions.Given as goal
use Rattle.lateral_rewrite.specs.Dependent.{all_contributed}

-- what is left to do gives the whole
abbrev pub invariant-loop-at : goal.invariant-loop-at
invariant-loop-at l =
    all_contributed l.whole (drop l.at l.standing) (drop l.at l.rewritings) ≡ all_contributed l.fn.rows l.standing l.rewritings
