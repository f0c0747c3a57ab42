use Rattle.std.proofs.Common.{◌≡◌, take}
use Rattle.std.specs.Prelude.{map}
use Rattle.std.specs.List.{list_any}
use Rattle.name_meaning.specs.Trees.{item_of}
use Rattle.perm_catalog.specs.Contents.{Contents}
use Rattle.name_seen_cores.specs.Behind.{is_aggregating}
use Rattle.name_seen_cores.proofs.grouping.any_aggregates.Given as goal

-- whether one stands in those so far
abbrev pub invariant-loop-item : goal.invariant-loop-item
invariant-loop-item l = (c : Contents) → l.found ≡ list_any is_aggregating (map (item_of c) (take l.item-index l.items))
