-- When what a resolved statement adds to a catalog is sound, and that a statement keeps a catalog sound.
use Rattle.std.specs.Prelude.{◌≡◌, ℕ, ⊤, List, [], ◌∷◌, length, Option, IfSome}
use Rattle.perm_values.specs.Rows.{PlacesWithin}
use Rattle.perm_values.specs.declared.kind.Kind.{Kind}
use Rattle.bag_algebra.specs.Kinds.{kinds_of}
use Rattle.bag_algebra.specs.TablesRead.{EachTable}
use Rattle.bag_algebra.specs.WellFormed.{HasKind, WellFormed}
use Rattle.bag_algebra.specs.built.Patterns.{ProvOf}
use Rattle.bag_algebra.specs.declared.expr.Expr.{Expr}
use Rattle.bag_algebra.specs.declared.query.Query.{Query}
use Rattle.perm_catalog.specs.Changes.{table_named}
use Rattle.perm_catalog.specs.Columns.{AreTableColumns, column_kinds}
use Rattle.perm_catalog.specs.Contents.{Contents}
use Rattle.perm_catalog.specs.Sound.{IsSound, IsSoundView}
use Rattle.perm_catalog.specs.declared.column.Column.{Column}
use Rattle.perm_catalog.specs.declared.entries.TableEntry.{TableEntry}
use Rattle.perm_catalog.specs.Held.{IsHeldTable}
use Rattle.name_meaning.specs.declared.answer.Resolved.{Resolved}
use Rattle.name_meaning.specs.declared.answer.Resolved.TheVariants as r
use Rattle.statement_meaning.specs.Asking.{Asked}
use Rattle.statement_meaning.specs.Turns.{Turn}
use Rattle.statement_meaning.specs.laws.Leaving.{Leaves, TurnLeaves}

-- an expression for each of the kinds, which has it where no column is seen
abbrev pub HaveKinds : List Expr → List Kind → Type 0
HaveKinds [] [] = ⊤
HaveKinds [] (kind ∷ kinds) = ⊥
HaveKinds (expr ∷ exprs) [] = ⊥
HaveKinds (expr ∷ exprs) (kind ∷ kinds) = HasKind ([] ∷ []) [] expr kind × HaveKinds exprs kinds

abbrev pub RowsHaveKinds : List (List Expr) → List Kind → Type 0
RowsHaveKinds [] kinds = ⊤
RowsHaveKinds (row ∷ rows) kinds = HaveKinds row kinds × RowsHaveKinds rows kinds

-- the query asks for provenance, and its provenance columns have these places in the table
pub record AsksAt (columns : List Column) (query : Query) (places : List ℕ) : Type 0 where
  pub input : Query
  pub asks : query ≡ ProvOf input
  pub within : PlacesWithin (length columns) places

-- columns of a table, of the kinds of a query that reads no outer row and none but the catalog's tables; where places are
-- given, it asks for provenance
pub record AddsAnswer (c : Contents) (columns : List Column) (query : Query) (places : Option (List ℕ)) : Type 0 where
  pub columns_are : AreTableColumns columns
  pub closed : WellFormed [] query
  pub kinds : kinds_of query ≡ column_kinds columns
  pub held : EachTable (IsHeldTable c) query
  pub asks : IfSome places (AsksAt columns query)

-- columns of a table, a sound view, rows of the kinds of their table's columns, and what a query gives
abbrev pub AddsSoundly : Contents → Resolved → Type 0
AddsSoundly c (r.CreateTable name columns) = AreTableColumns columns
AddsSoundly c (r.CreateTableAs name columns answer places) = AddsAnswer c columns answer.query places
AddsSoundly c (r.CreateView name entry) = IsSoundView c entry
AddsSoundly c (r.Copy name kinds file null_field header) = IfSome (table_named c name) (λ (table : TableEntry). kinds ≡ column_kinds table.columns)
AddsSoundly c (r.Insert name rows) = IfSome (table_named c name) (λ (table : TableEntry). RowsHaveKinds rows (column_kinds table.columns))
AddsSoundly c (r.Delete name condition) = ⊤
AddsSoundly c (r.DropTable name) = ⊤
AddsSoundly c (r.DropView name) = ⊤
AddsSoundly c (r.Select answer) = ⊤
AddsSoundly c (r.Explain answer) = ⊤
AddsSoundly c (r.ShowFresh name) = ⊤
AddsSoundly c (r.Impact name condition answer) = ⊤

-- where the statement stands, the catalog is sound then
abbrev pub StandsSound : Turn → Type 0
StandsSound turn = TurnLeaves IsSound turn

-- whatever became of the file that it begins
abbrev pub KeepsSound : Asked → Type 0
KeepsSound asked = Leaves IsSound asked
