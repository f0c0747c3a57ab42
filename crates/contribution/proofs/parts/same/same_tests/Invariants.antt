use Rattle.std.proofs.Common.{◌≡◌, take}
use Rattle.contribution.specs.Conjunctions.{same_tests}
use Rattle.contribution.proofs.parts.same.same_tests.Given as goal

abbrev pub invariant-loop-at : goal.invariant-loop-at
invariant-loop-at l = l.tests ≡ same_tests l.level (take l.at l.theirs) (take l.at l.own)
