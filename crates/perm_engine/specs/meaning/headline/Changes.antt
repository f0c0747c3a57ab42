-- What a statement leaves and answers that makes a table or a view, drops one, or changes the rows of a table.
use Rattle.std.specs.Prelude.{◌≡◌, ◌≢◌, ℕ, Bool, true, List, [], ◌++◌, length, filter, codes, Option, Some, None, IsSome}
use Rattle.std.specs.Option.{option_map, option_map_or}
use Rattle.bag_algebra.specs.Bags.{Row, Bag}
use Rattle.bag_algebra.specs.Outcome.{Good, each}
use Rattle.bag_algebra.specs.declared.expr.Expr.{Expr}
use Rattle.csv_tables.specs.Loading.{broken_rules, spelled_rows}
use Rattle.delete_impact.specs.vanishing.Doomed.{doomed_on}
use Rattle.name_meaning.specs.Statements.{defined_columns, delete_made, kinds_of_table, query_meant, rows_made, view_entry}
use Rattle.perm_catalog.specs.Changes.{is_free, rows_at, table_named, view_named}
use Rattle.perm_catalog.specs.Contents.{Contents}
use Rattle.perm_catalog.specs.Lookups.{first_user}
use Rattle.perm_catalog.specs.declared.column.Column.{Column}
use Rattle.perm_catalog.specs.declared.entries.TableEntry.{TableEntry}
use Rattle.perm_catalog.specs.declared.entries.ViewEntry.{ViewEntry}
use Rattle.perm_io.specs.Found.{Found, Read}
use Rattle.query_laws.specs.Holding.{InBag}
use Rattle.sql_tree.specs.declared.expression.ExprTree.{ExprTree}
use Rattle.sql_tree.specs.declared.name.Name.{Name}
use Rattle.sql_tree.specs.declared.query.QueryTree.{QueryTree}
use Rattle.sql_tree.specs.declared.statement.ColumnDef.{ColumnDef}
use Rattle.sql_tree.specs.declared.statement.Statement.{Statement}
use Rattle.sql_tree.specs.declared.statement.ValuesRow.{ValuesRow}
use Rattle.statement_meaning.specs.laws.Asks.{AsksFor}
use Rattle.statement_meaning.specs.laws.Freshened.{StoresNothing}
use Rattle.statement_meaning.specs.laws.Kept.{is_certain, rows_left}
use Rattle.statement_meaning.specs.Turns.{counting, row_value}
use Rattle.perm_engine.specs.meaning.headline.Words.{asking}

-- ---- tables and views by name

-- the rows of the table of this name, and none where there is no such table
abbrev pub rows_of : Contents → List ℕ → Bag
rows_of c name = option_map_or (λ (entry : TableEntry). rows_at c entry.id) (table_named c name) []

-- its columns
abbrev pub columns_at : Contents → List ℕ → Option (List Column)
columns_at c name = option_map (λ (entry : TableEntry). entry.columns) (table_named c name)

-- each table of another name is what it was, with the rows that it had
pub record KeepsTables (name : List ℕ) (c after : Contents) : Type 0 where
  pub tables : (other : List ℕ) → other ≢ name → table_named after other ≡ table_named c other
  pub rows : (other : List ℕ) → other ≢ name → rows_of after other ≡ rows_of c other

-- each view of another name is what it was
abbrev pub KeepsViews : List ℕ → Contents → Contents → Type 0
KeepsViews name c after = (other : List ℕ) → other ≢ name → view_named after other ≡ view_named c other

-- the table of this name, which is one of the catalog's, has these rows then
pub record HasRowsThen (name : List ℕ) (rows : Bag) (c after : Contents) : Type 0 where
  pub known : IsSome (table_named c name)
  pub rows_are : rows_of after name ≡ rows
  -- its columns are what they were, and it stores no provenance
  pub columns : columns_at after name ≡ columns_at c name
  pub nothing : StoresNothing name after
  -- other tables and all views are what they were
  pub others : KeepsTables name c after
  pub views : after.views ≡ c.views

-- ---- statements

-- CREATE TABLE makes a table of these columns, which has no row
pub record CreatesTable (c after : Contents) (table : Name) (columns : List ColumnDef) (text : List ℕ) : Type 0 where
  -- nothing had its name
  pub free : is_free c table.text ≡ true
  pub columns_are : columns_at after table.text ≡ Some (defined_columns columns)
  pub rows : rows_of after table.text ≡ []
  pub nothing : StoresNothing table.text after
  -- other tables and all views are what they were
  pub others : KeepsTables table.text c after
  pub views : after.views ≡ c.views
  pub says : text ≡ codes "CREATE TABLE\n"

-- INSERT puts the rows of its values behind those of the table
pub record InsertsRows (c after : Contents) (table : Name) (values : List ValuesRow) (text : List ℕ) : Type 0 where
  -- the values meet no fault, and these are their rows
  pub added : Bag
  pub values_are : each row_value (rows_made c (kinds_of_table c table) values) ≡ Good added
  pub holds : HasRowsThen table.text (rows_of c table.text ++ added) c after
  -- the text counts them
  pub says : text ≡ counting (codes "INSERT ") (length added)

-- COPY puts the rows that the records of its file spell behind those of the table
pub record CopiesRows (Can : List ℕ → Found → Type 0) (c after : Contents) (table : Name) (file : List ℕ) (header : Bool) (null_field text : List ℕ) : Type 0 where
  -- the file is read whole
  pub bytes : List ℕ
  pub read : Can file (Read bytes)
  -- none of its records breaks a rule, and these are their rows
  pub unbroken : broken_rules null_field (kinds_of_table c table) header bytes ≡ []
  pub added : Bag
  pub spelled : spelled_rows null_field (kinds_of_table c table) header bytes ≡ added
  pub holds : HasRowsThen table.text (rows_of c table.text ++ added) c after
  -- the text counts them
  pub says : text ≡ counting (codes "COPY ") (length added)

-- of these rows those for which the condition is true
abbrev pub rows_gone : Option Expr → Bag → Bag
rows_gone condition rows = filter (λ (row : Row). is_certain (doomed_on condition row)) rows

-- DELETE takes away the rows of the table for which its condition is true, and all of them where it has none
pub record DeletesRows (c after : Contents) (table : Name) (condition : Option ExprTree) (text : List ℕ) : Type 0 where
  -- what its condition is resolved to meets no fault on any row of the table
  pub given : Option Expr
  pub resolved : given ≡ delete_made c table condition
  pub met : (row : Row) → InBag row (rows_of c table.text) → (doomed : Bool) × (doomed_on given row ≡ Good doomed)
  -- all others stay, those for which it is unknown too, as often and in the order in which they stood
  pub holds : HasRowsThen table.text (rows_left given (rows_of c table.text)) c after
  -- the text counts those that went
  pub says : text ≡ counting (codes "DELETE ") (length (rows_gone given (rows_of c table.text)))

-- DROP TABLE takes the table away, with its rows
pub record DropsTable (c after : Contents) (table : Name) (text : List ℕ) : Type 0 where
  pub known : IsSome (table_named c table.text)
  -- no view reads it
  pub unused : first_user c table.text ≡ None
  pub gone : table_named after table.text ≡ None
  -- other tables and all views are what they were
  pub others : KeepsTables table.text c after
  pub views : after.views ≡ c.views
  pub says : text ≡ codes "DROP TABLE\n"

-- DROP VIEW takes the view away
pub record DropsView (c after : Contents) (view : Name) (text : List ℕ) : Type 0 where
  pub known : IsSome (view_named c view.text)
  -- no other view reads it
  pub unused : first_user c view.text ≡ None
  pub gone : view_named after view.text ≡ None
  -- other views and all tables are what they were, with their rows
  pub others : KeepsViews view.text c after
  pub tables : after.tables ≡ c.tables
  pub rows : after.rows ≡ c.rows
  pub says : text ≡ codes "DROP VIEW\n"

-- CREATE VIEW makes a view of what the same query asks for as a statement of its own
pub record CreatesView (c after : Contents) (statement : Statement) (view : Name) (tree : QueryTree) (text : List ℕ) : Type 0 where
  -- nothing had its name
  pub free : is_free c view.text ≡ true
  pub entry : ViewEntry
  pub made : view_named after view.text ≡ Some entry
  pub of_query : entry ≡ view_entry (query_meant c tree)
  -- the query breaks no rule, limits included, and this is what it is resolved to
  pub asks : AsksFor c (asking statement tree) entry.answer
  -- other views and all tables are what they were, with their rows
  pub others : KeepsViews view.text c after
  pub tables : after.tables ≡ c.tables
  pub rows : after.rows ≡ c.rows
  pub says : text ≡ codes "CREATE VIEW\n"
