-- The columns of a table.
use Rattle.std.specs.Prelude.{◌≢◌, ℕ, List, [], map, nat_eq, All}
use Rattle.std.specs.Cmp.Lexicographic.{pointwise}
use Rattle.std.specs.List.{IsDistinct}
use Rattle.perm_values.specs.declared.kind.Kind.{Kind}
use Rattle.perm_values.specs.declared.kind.Kind.TheVariants.{Boolean}
use Rattle.perm_catalog.specs.declared.column.Column.{Column}

abbrev pub column_names : List Column → List (List ℕ)
column_names columns = map (λ (column : Column). column.name) columns

abbrev pub column_kinds : List Column → List Kind
column_kinds columns = map (λ (column : Column). column.kind) columns

-- there is a column, the names of the columns differ, and none of them is Boolean
pub record AreTableColumns (columns : List Column) : Type 0 where
  pub some : columns ≢ []
  pub named : IsDistinct (pointwise nat_eq) (column_names columns)
  pub stored : All (λ (column : Column). column.kind ≢ Boolean) columns
