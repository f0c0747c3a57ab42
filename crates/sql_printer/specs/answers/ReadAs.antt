-- When a tree is read as an answer over a catalog, and when the catalog has the tables that a text names.
use Rattle.std.specs.Prelude.{◌≡◌, ℕ, ◌+◌, ◌<◌, ◌^◌, false, List, [], ◌++◌, map, length, Some}
use Rattle.std.specs.Option.{option_map_or}
use Rattle.perm_values.specs.declared.kind.Kind.{Kind}
use Rattle.bag_algebra.specs.Kinds.{kinds_of}
use Rattle.bag_algebra.specs.built.Patterns.{BaseOf, FilterOf, ProjectOf, JoinOf, ApplyOf, UnionOf, IntersectOf, ExceptOf, DistinctOf, AggregateOf, LimitOf, ProvOf}
use Rattle.bag_algebra.specs.declared.query.Answer.{Answer}
use Rattle.bag_algebra.specs.declared.query.Query.{Query, Row_of-Sublink, more_of-Sublink, end_of-Sublink}
use Rattle.bag_algebra.specs.declared.query.Query.TheVariants.{Single, Table}
use Rattle.perm_catalog.specs.Changes.{table_named}
use Rattle.perm_catalog.specs.Columns.{column_kinds}
use Rattle.perm_catalog.specs.Contents.{Contents}
use Rattle.perm_catalog.specs.declared.column.Column.{Column}
use Rattle.perm_catalog.specs.declared.entries.TableEntry.{TableEntry}
use Rattle.sql_tree.specs.declared.query.QueryTree.{QueryTree}
use Rattle.sql_tree.specs.declared.statement.StatementBody.TheVariants.{Select}
use Rattle.name_meaning.specs.Froms.{table_plain}
use Rattle.name_meaning.specs.Statements.{name_breaks, repeats}
use Rattle.query_texts.specs.clauses.Names.{names_of}
use Rattle.query_texts.specs.declared.clauses.tables.TableNames.{TableNames}
use Rattle.statement_meaning.specs.explains.Explains.{read_as}
pub use Rattle.sql_printer.specs.expressions.Scopes.{Few}

-- what the name of the table of an identity stands for
abbrev pub source_in : Contents → List TableNames → ℕ → List Kind → Query
source_in c tables id kinds =
    option_map_or (table_plain (names_of tables id).name) (table_named c (names_of tables id).name) Single

-- the table of this identity and with columns of these kinds has the name, and columns of the names, that are given for it
pub record IsNamed (c : Contents) (tables : List TableNames) (id : ℕ) (kinds : List Kind) : Type 0 where
  pub table : TableEntry
  pub found : table_named c (names_of tables id).name ≡ Some table
  pub same : table.id ≡ id
  pub kinds_are : column_kinds table.columns ≡ kinds
  pub columns_are : map (λ (column : Column). column.name) table.columns ≡ (names_of tables id).columns
  pub distinct : repeats (names_of tables id).columns ≡ false

-- the tree breaks no rule of names and kinds, and is read as the answer
pub record IsReadAs (c : Contents) (tree : QueryTree) (answer : Answer) : Type 0 where
  pub whole : name_breaks c (Select tree) ≡ []
  pub same : read_as c tree ≡ answer

-- so few columns that their numbers are read back, at each node and in what joins
abbrev mutual
  pub Narrow : Query → Type 0
  Narrow (Table id kinds) = Few kinds
  Narrow Single = Unit {0}
  Narrow (BaseOf input places label) = Narrow input
  Narrow (FilterOf input condition _ subs) = Few (kinds_of input) × Narrow input × NarrowSubs subs
  Narrow (ProjectOf input items _ subs) = Few (kinds_of input) × Narrow input × NarrowSubs subs
  Narrow (JoinOf kind left right condition _ subs) = Few (kinds_of left ++ kinds_of right) × Narrow left × Narrow right × NarrowSubs subs
  Narrow (ApplyOf kind left right) = Few (kinds_of left ++ kinds_of right) × Narrow left × Narrow right
  Narrow (UnionOf all left right) = Few (kinds_of left) × Narrow left × Narrow right
  Narrow (IntersectOf all left right) = Few (kinds_of left) × Narrow left × Narrow right
  Narrow (ExceptOf all left right) = Few (kinds_of left) × Narrow left × Narrow right
  Narrow (DistinctOf input) = Few (kinds_of input) × Narrow input
  Narrow (AggregateOf input groups aggregates) = Few (kinds_of input) × (1 + (length groups + length aggregates) < 2 ^ 64) × Narrow input
  Narrow (LimitOf input keys count) = Few (kinds_of input) × Narrow input
  Narrow (ProvOf input) = Unit {0}

  pub NarrowSubs : {m : _} → Row_of-Sublink m → Type 0
  NarrowSubs end_of-Sublink = Unit {0}
  NarrowSubs (more_of-Sublink kind tested query subs) = Narrow query × NarrowSubs subs
