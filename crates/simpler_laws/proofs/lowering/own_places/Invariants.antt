use Rattle.std.proofs.Common.{take}
use Rattle.simpler_laws.specs.Lowered.{AreColumns}
use Rattle.simpler_laws.proofs.lowering.own_places.Given as goal

abbrev pub invariant-loop-item : goal.invariant-loop-item
invariant-loop-item l = AreColumns (take l.item-index l.items) l.places
