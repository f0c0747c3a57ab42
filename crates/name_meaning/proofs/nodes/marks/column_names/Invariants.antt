use Rattle.std.proofs.Common.{◌≡◌, take}
use Rattle.name_meaning.specs.Froms.{names_of, table_columns}
use Rattle.name_meaning.proofs.nodes.marks.column_names.Given as goal

abbrev pub invariant-loop-column : goal.invariant-loop-column
invariant-loop-column l = l.names ≡ names_of (table_columns (take l.column-index l.columns))
