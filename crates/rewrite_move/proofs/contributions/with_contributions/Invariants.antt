use Rattle.rewrite_move.proofs.MovedRows.{SoFar}
use Rattle.rewrite_move.proofs.contributions.with_contributions.Given as goal

abbrev pub invariant-loop-at : goal.invariant-loop-at
invariant-loop-at l = SoFar l.origin l.condition l.fn.rows l.whole l.subs l.standing l.rewritings l.at
