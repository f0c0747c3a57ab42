use Rattle.std.proofs.Common.{take}
use Rattle.std.specs.List.{range_with_len}
use Rattle.simpler_laws.specs.Lowered.{AreColumns}
use Rattle.simplifier.proofs.projections.whole.in_order.Given as goal

abbrev pub invariant-loop-number : goal.invariant-loop-number
invariant-loop-number l = AreColumns (take l.number l.items) (range_with_len 0 l.number)
