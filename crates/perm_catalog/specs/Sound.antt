-- When a catalog is sound: what its tables and views say of themselves and of one another holds.
use Rattle.std.specs.Prelude.{◌≡◌, ℕ, ◌<◌, true, List, [], length, nat_eq, Some, None, IfSome, All}
use Rattle.std.specs.Cmp.Lexicographic.{pointwise}
use Rattle.std.specs.FinMap as map
use Rattle.std.specs.List.{IsDistinct}
use Rattle.std.specs.Map.{keys_of}
use Rattle.perm_values.specs.Rows.{KeysWithin, PlacesWithin}
use Rattle.bag_algebra.specs.Bags.{Bag}
use Rattle.bag_algebra.specs.Fits.{bag_fits}
use Rattle.bag_algebra.specs.Kinds.{width_of}
use Rattle.bag_algebra.specs.WellFormed.{WellFormed}
use Rattle.bag_algebra.specs.declared.query.Answer.{Answer}
use Rattle.perm_catalog.specs.Changes.{table_named, view_named}
use Rattle.perm_catalog.specs.Columns.{AreTableColumns, column_kinds}
use Rattle.perm_catalog.specs.Contents.{Contents}
use Rattle.perm_catalog.specs.Lookups.{uses_name}
use Rattle.perm_catalog.specs.Stored.{IsSoundStored}
use Rattle.bag_algebra.specs.TablesRead.{TableRead, tables_read}
use Rattle.perm_catalog.specs.declared.column.Column.{Column}
use Rattle.perm_catalog.specs.declared.entries.TableEntry.{TableEntry}
use Rattle.perm_catalog.specs.declared.entries.ViewEntry.{ViewEntry}

-- numbers that were drawn, columns of a table, rows of exactly their kinds, and what it stores of provenance is sound
pub record IsSoundTable (c : Contents) (table : TableEntry) : Type 0 where
  pub id : table.id < c.next
  pub version : table.version < c.next
  pub columns : AreTableColumns table.columns
  pub rows : Bag
  pub held : map.get c.rows table.id ≡ Some rows
  pub fitting : bag_fits rows (column_kinds table.columns) ≡ true
  pub stored : IfSome table.stored (IsSoundStored c table.columns rows)

-- the catalog holds the table that is read, with columns of these kinds, and the view names it
pub record IsHeldRead (c : Contents) (view : ViewEntry) (read : TableRead) : Type 0 where
  pub name : List ℕ
  pub table : TableEntry
  pub named : table_named c name ≡ Some table
  pub id : table.id ≡ read.id
  pub kinds : column_kinds table.columns ≡ read.kinds
  pub used : uses_name view name ≡ true

-- a closed and well formed query with a column, as many names as columns, and keys among its columns
pub record IsSoundAnswer (answer : Answer) : Type 0 where
  pub closed : WellFormed [] answer.query
  pub some : 0 < width_of answer.query
  pub named : length answer.names ≡ width_of answer.query
  pub keys : KeysWithin (width_of answer.query) answer.keys

-- its answer is sound, its places are among the columns, and every table that it reads is held and named
pub record IsSoundView (c : Contents) (view : ViewEntry) : Type 0 where
  pub answer : IsSoundAnswer view.answer
  pub places : IfSome view.places (PlacesWithin (width_of view.answer.query))
  pub reads : All (IsHeldRead c view) (tables_read view.answer.query)

-- names differ, identities differ, and each table and view is sound
pub record IsSound (c : Contents) : Type 0 where
  pub table_names : IsDistinct (pointwise nat_eq) (keys_of c.tables)
  pub view_names : IsDistinct (pointwise nat_eq) (keys_of c.views)
  pub apart : (name : List ℕ) (table : TableEntry) → table_named c name ≡ Some table → view_named c name ≡ None
  pub identities : (n m : List ℕ) (s t : TableEntry) → table_named c n ≡ Some s → table_named c m ≡ Some t → s.id ≡ t.id → n ≡ m
  pub tables : (name : List ℕ) (table : TableEntry) → table_named c name ≡ Some table → IsSoundTable c table
  pub views : (name : List ℕ) (view : ViewEntry) → view_named c name ≡ Some view → IsSoundView c view

-- what a new table needs: columns of a table, and rows of exactly their kinds
pub record IsNewTable (columns : List Column) (rows : Bag) : Type 0 where
  pub columns_are : AreTableColumns columns
  pub fitting : bag_fits rows (column_kinds columns) ≡ true
