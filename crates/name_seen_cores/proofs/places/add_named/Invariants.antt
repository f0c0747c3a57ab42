use Rattle.std.proofs.Common.{◌≡◌, ◌++◌}
use Rattle.std.specs.Prelude.{map}
use Rattle.name_meaning.specs.Froms.{named_columns}
use Rattle.name_meaning.specs.Queries.{out_column}
use Rattle.name_seen_parts.specs.Columns.{columns_of}
use Rattle.name_seen_cores.proofs.Named.{named_from_place}
use Rattle.name_seen_cores.proofs.places.add_named.Given as goal

-- the columns so far, with those still to come
abbrev pub invariant-loop-at : goal.invariant-loop-at
invariant-loop-at l = columns_of l.columns ++ named_from_place l.at l.names l.kinds ≡ columns_of l.initial.columns ++ map out_column (named_columns l.names l.kinds)
