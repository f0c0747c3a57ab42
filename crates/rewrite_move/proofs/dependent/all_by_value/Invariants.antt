use Rattle.std.proofs.Common.{◌≡◌, drop}
use Rattle.rewrite_move.specs.Shares.{all_by_value}
use Rattle.rewrite_move.proofs.dependent.all_by_value.Given as goal

abbrev pub invariant-loop-at : goal.invariant-loop-at
invariant-loop-at l = all_by_value l.condition 0 l.subs ≡ all_by_value l.condition l.at (drop l.at l.subs)
