-- The columns that a query shows, as the definition has them.
use Rattle.std.specs.Prelude.{List, map}
use Rattle.name_meaning.specs.Meanings.{OutColumn}
use Rattle.name_seen_parts.specs.declared.clauses.column.ShownColumn.{ShownColumn}

abbrev pub column_of : ShownColumn → OutColumn
column_of column = record { name = column.name; kind = column.kind }

abbrev pub columns_of : List ShownColumn → List OutColumn
columns_of columns = map column_of columns
