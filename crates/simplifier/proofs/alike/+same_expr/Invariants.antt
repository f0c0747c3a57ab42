use Rattle.std.proofs.Common.{◌≡◌, take}
use Rattle.simplifier.proofs.alike.+same_expr.Given as goal

abbrev pub invariant-same_parts-loop-number : goal.invariant-same_parts-loop-number
invariant-same_parts-loop-number l = take l.number l.one ≡ take l.number l.others
