use Rattle.std.proofs.Common.{◌≡◌, ◌++◌, map, take}
use Rattle.bag_algebra.specs.PlaceNames.{place_name}
use Rattle.contribution.proofs.names.add_relation_names.Given as goal

abbrev pub invariant-loop-column : goal.invariant-loop-column
invariant-loop-column l = l.names ≡ l.initial.names ++ map (place_name l.relation l.number) (take l.column-index l.columns)
