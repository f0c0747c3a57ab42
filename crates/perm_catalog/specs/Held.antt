-- The tables that a query reads are the catalog's.
use Rattle.std.specs.Prelude.{◌≡◌, ℕ, List, Some}
use Rattle.perm_values.specs.declared.kind.Kind.{Kind}
use Rattle.perm_catalog.specs.Changes.{table_named}
use Rattle.perm_catalog.specs.Columns.{column_kinds}
use Rattle.perm_catalog.specs.Contents.{Contents}
use Rattle.perm_catalog.specs.declared.entries.TableEntry.{TableEntry}

-- the catalog holds a table of this identity, with columns of these kinds
pub record IsHeldTable (c : Contents) (id : ℕ) (kinds : List Kind) : Type 0 where
  pub name : List ℕ
  pub table : TableEntry
  pub named : table_named c name ≡ Some table
  pub id_is : table.id ≡ id
  pub kinds_are : column_kinds table.columns ≡ kinds
