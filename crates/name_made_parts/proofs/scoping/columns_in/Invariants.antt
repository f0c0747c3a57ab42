use Rattle.std.proofs.Common.{◌≡◌, take}
use Rattle.name_made_parts.specs.Segments.{columns_in}
use Rattle.name_made_parts.proofs.scoping.columns_in.Given as goal

abbrev pub invariant-loop-column : goal.invariant-loop-column
invariant-loop-column l = l.found ≡ columns_in l.first l.count (take l.column-index l.columns)
