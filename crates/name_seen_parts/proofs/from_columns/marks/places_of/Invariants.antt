use Rattle.std.proofs.Common.{◌≡◌, take}
use Rattle.name_seen_parts.specs.Marks.{places_of}
use Rattle.name_seen_parts.specs.FromColumns.{known_names}
use Rattle.name_seen_parts.proofs.from_columns.marks.places_of.Given as goal

abbrev pub invariant-loop-name : goal.invariant-loop-name
invariant-loop-name l = l.places ≡ places_of (known_names l.columns) (take l.name-index l.names)
