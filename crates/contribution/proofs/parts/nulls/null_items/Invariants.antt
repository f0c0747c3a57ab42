use Rattle.std.proofs.Common.{◌≡◌, map, take}
use Rattle.contribution.specs.NullItems.{null_item}
use Rattle.contribution.proofs.parts.nulls.null_items.Given as goal

abbrev pub invariant-loop-kind : goal.invariant-loop-kind
invariant-loop-kind l = l.items ≡ map null_item (take l.kind-index l.kinds)
