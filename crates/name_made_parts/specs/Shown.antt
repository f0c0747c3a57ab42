-- Columns that the first pass shows of a query, by their names.
use Rattle.std.specs.Prelude.{ℕ, Bool, List}
use Rattle.name_meaning.specs.Froms.{named_so}
use Rattle.name_seen_parts.specs.declared.clauses.column.ShownColumn.{ShownColumn}

abbrev pub is_shown_as : List ℕ → ShownColumn → Bool
is_shown_as name column = named_so name column.name
