use Rattle.std.proofs.Common.{◌≡◌, drop}
use Rattle.rewrite_move.proofs.forced.+forced.Given as goal
use Rattle.rewrite_move.specs.ForcedTruths.{all_forced}

-- what all parts force is what those force that are left
abbrev pub invariant-parts_forced-loop-part : goal.invariant-parts_forced-loop-part
invariant-parts_forced-loop-part l = all_forced l.fn.first l.others l.parts l.number ≡ all_forced l.known l.others (drop l.part-index l.parts) l.number
