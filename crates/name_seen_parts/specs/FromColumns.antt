-- Columns whose names are known.
use Rattle.std.specs.Prelude.{ℕ, List}
use Rattle.perm_catalog.specs.declared.column.Column.{Column}
use Rattle.name_meaning.specs.Froms.{names_of, table_columns}

abbrev pub known_names : List Column → List (List ℕ)
known_names columns = names_of (table_columns columns)
