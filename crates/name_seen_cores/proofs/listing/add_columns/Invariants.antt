use Rattle.std.proofs.Common.{◌≡◌, ◌++◌, take}
use Rattle.std.specs.Prelude.{map, filter}
use Rattle.name_seen_parts.specs.Columns.{columns_of}
use Rattle.name_seen_cores.specs.Shown.{shown}
use Rattle.name_seen_parts.specs.Stars.{is_of}
use Rattle.name_seen_cores.proofs.listing.add_columns.Given as goal

-- the columns so far
abbrev pub invariant-loop-column : goal.invariant-loop-column
invariant-loop-column l =
    columns_of l.columns ≡ columns_of l.initial.columns ++ map shown (filter (is_of l.item) (take l.column-index l.scope.columns))
