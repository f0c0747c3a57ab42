-- What a table that stores provenance remembers of the tables that its query read, and when it is fresh.
use Rattle.std.specs.Prelude.{◌≡◌, ℕ, ◌<◌, Bool, false, not, List, [], ◌∷◌, length, filter, Option, Some, None, All, Contains, nat_eq}
use Rattle.std.specs.List.{find, flat_map}
use Rattle.std.specs.Option.{option_map_or}
use Rattle.perm_values.specs.Rows.{PlacesWithin}
use Rattle.perm_values.specs.declared.kind.Kind.{Kind}
use Rattle.bag_algebra.specs.Bags.{Bag}
use Rattle.bag_algebra.specs.Kinds.{kinds_of}
use Rattle.bag_algebra.specs.Meaning.{meaning}
use Rattle.bag_algebra.specs.Outcome.{Good}
use Rattle.bag_algebra.specs.Rewriting.{SameRows}
use Rattle.bag_algebra.specs.TableRows.{rows_in}
use Rattle.bag_algebra.specs.TablesRead.{TableRead, tables_read, EachTable}
use Rattle.bag_algebra.specs.WellFormed.{WellFormed}
use Rattle.bag_algebra.specs.built.Patterns.{ProvOf}
use Rattle.bag_algebra.specs.declared.query.Query.{Query}
use Rattle.perm_catalog.specs.Changes.{table_named}
use Rattle.perm_catalog.specs.Columns.{column_kinds}
use Rattle.perm_catalog.specs.Contents.{Contents}
use Rattle.perm_catalog.specs.Lookups.{entry_of_id}
use Rattle.perm_catalog.specs.declared.column.Column.{Column}
use Rattle.perm_catalog.specs.declared.entries.SourceVersion.{SourceVersion}
use Rattle.perm_catalog.specs.declared.entries.StoredQuery.{StoredQuery}
use Rattle.perm_catalog.specs.declared.entries.TableEntry.{TableEntry}

-- a table of the kept identity is there, with the kept version
abbrev pub is_unchanged : Contents → SourceVersion → Bool
is_unchanged c kept = option_map_or (λ (e : List ℕ × TableEntry). nat_eq e.1.version kept.version) (entry_of_id c kept.id) false

-- the first of the kept tables of which that isn't so
abbrev pub first_changed : Contents → StoredQuery → Option SourceVersion
first_changed c mark = find (λ (kept : SourceVersion). not (is_unchanged c kept)) mark.kept

abbrev pub IsFresh : Contents → StoredQuery → Type 0
IsFresh c mark = first_changed c mark ≡ None

-- ---- what is kept of the tables that a query reads

-- each table once, where it is read first
abbrev pub each_once : List TableRead → List TableRead
each_once [] = []
each_once (read ∷ reads) = read ∷ filter (λ (other : TableRead). not (nat_eq other.id read.id)) (each_once reads)

-- the name, the identity and the version of a table that is read
abbrev pub kept_read : Contents → TableRead → List SourceVersion
kept_read c read = option_map_or
    (λ (e : List ℕ × TableEntry). record { table = e.0; id = e.1.id; version = e.1.version } ∷ []) (entry_of_id c read.id) []

-- in the order in which the query reads them
abbrev pub kept_of : Contents → Query → List SourceVersion
kept_of c query = flat_map (kept_read c) (each_once (tables_read query))

-- what a table remembers that is made of the query now
abbrev pub stored_of : Contents → Query → List ℕ → StoredQuery
stored_of c query places = record { places = places; query = query; kept = kept_of c query }

-- ---- what a table remembers is sound

-- a table of this identity is among the kept ones
pub record IsKept (kept : List SourceVersion) (id : ℕ) : Type 0 where
  pub table : SourceVersion
  pub there : Contains kept table
  pub same : table.id ≡ id

-- and the catalog's table of this identity, where there is one, has columns of these kinds
pub record IsKeptTable (c : Contents) (kept : List SourceVersion) (id : ℕ) (kinds : List Kind) : Type 0 where
  pub is_kept : IsKept kept id
  pub kinds_are : (name : List ℕ) (table : TableEntry) → table_named c name ≡ Some table → table.id ≡ id → column_kinds table.columns ≡ kinds

-- numbers that were drawn
pub record IsDrawn (c : Contents) (kept : SourceVersion) : Type 0 where
  pub id : kept.id < c.next
  pub version : kept.version < c.next

-- the query is the PROVENANCE of its input, reads no outer row and has the table's kinds; the places lie in the table; what the query reads is
-- kept; and while all of that is unchanged the rows are those of the query on the catalog's tables
pub record IsSoundStored (c : Contents) (columns : List Column) (rows : Bag) (mark : StoredQuery) : Type 0 where
  pub input : Query
  pub asks : mark.query ≡ ProvOf input
  pub closed : WellFormed [] mark.query
  pub kinds : kinds_of mark.query ≡ column_kinds columns
  pub places : PlacesWithin (length columns) mark.places
  pub drawn : All (IsDrawn c) mark.kept
  pub reads : EachTable (IsKeptTable c mark.kept) mark.query
  pub holds : IsFresh c mark → SameRows (meaning mark.query (rows_in c.rows) []) (Good rows)
