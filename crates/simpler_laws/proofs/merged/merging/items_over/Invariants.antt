use Rattle.std.proofs.Common.{take}
use Rattle.simpler_laws.specs.merged.Substituted.{ItemsSubstituted}
use Rattle.simpler_laws.proofs.merged.merging.items_over.Given as goal

abbrev pub invariant-loop-item : goal.invariant-loop-item
invariant-loop-item l = ItemsSubstituted l.lower (take l.item-index l.items) l.made
