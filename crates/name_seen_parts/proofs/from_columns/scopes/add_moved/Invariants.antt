use Rattle.std.proofs.Common.{◌≡◌, ◌++◌, take}
use Rattle.std.specs.Prelude.{map}
use Rattle.name_seen_parts.specs.Scopes.{moved_by}
use Rattle.name_seen_parts.proofs.from_columns.scopes.add_moved.Given as goal

abbrev pub invariant-loop-column : goal.invariant-loop-column
invariant-loop-column l = l.found ≡ l.initial.found ++ map (moved_by l.count) (take l.column-index l.columns)
