-- What a statement leaves of tables that store provenance.
use Rattle.std.specs.Prelude.{◌≡◌, ◌≢◌, ℕ, List, Option, Some, None, All, Contains, IfSome}
use Rattle.bag_algebra.specs.declared.query.Query.{Query}
use Rattle.perm_catalog.specs.Changes.{table_named}
use Rattle.perm_catalog.specs.Contents.{Contents}
use Rattle.perm_catalog.specs.Sound.{IsSound}
use Rattle.perm_catalog.specs.Stored.{IsFresh}
use Rattle.perm_catalog.specs.declared.entries.SourceVersion.{SourceVersion}
use Rattle.perm_catalog.specs.declared.entries.StoredQuery.{StoredQuery}
use Rattle.perm_catalog.specs.declared.entries.TableEntry.{TableEntry}
use Rattle.name_meaning.specs.declared.answer.Resolved.{Resolved}
use Rattle.name_meaning.specs.declared.answer.Resolved.TheVariants as r
use Rattle.statement_meaning.specs.Ready.{IsReady}
use Rattle.statement_meaning.specs.laws.Sounder.{AddsSoundly}

-- the table of this name, if any, to which the statement adds rows, from which it takes some, or which it drops
abbrev pub written : Resolved → Option (List ℕ)
written (r.CreateTable name columns) = None
written (r.CreateTableAs name columns answer places) = None
written (r.CreateView name entry) = None
written (r.Copy name kinds file null_field header) = Some name
written (r.Insert name rows) = Some name
written (r.Delete name condition) = Some name
written (r.DropTable name) = Some name
written (r.DropView name) = None
written (r.Select answer) = None
written (r.Explain answer) = None
written (r.ShowFresh name) = None
written (r.Impact name condition answer) = None

-- it is none of the tables that the stored query read
abbrev pub IsUnread : Contents → StoredQuery → List ℕ → Type 0
IsUnread c stored name =
    IfSome (table_named c name) (λ (table : TableEntry). All (λ (kept : SourceVersion). kept.id ≢ table.id) stored.kept)

-- it is one of them
pub record IsStoredRead (c : Contents) (stored : StoredQuery) (name : List ℕ) : Type 0 where
  pub table : TableEntry
  pub named : table_named c name ≡ Some table
  pub kept : SourceVersion
  pub among : Contains stored.kept kept
  pub same : kept.id ≡ table.id

-- over a sound catalog a table of this name stores this, and the statement can be carried out and adds what is sound
pub record MeetsStored (c : Contents) (statement : Resolved) (name : List ℕ) (table : TableEntry) (stored : StoredQuery) : Type 0 where
  pub sound : IsSound c
  pub ready : IsReady c statement
  pub adds : AddsSoundly c statement
  pub named : table_named c name ≡ Some table
  pub stores : table.stored ≡ Some stored

-- ---- tables then

-- the table of this name stores what the query gives, and is fresh
pub record StoresFresh (name : List ℕ) (query : Query) (c : Contents) : Type 0 where
  pub table : TableEntry
  pub named : table_named c name ≡ Some table
  pub stored : StoredQuery
  pub stores : table.stored ≡ Some stored
  pub asks : stored.query ≡ query
  pub fresh : IsFresh c stored

-- the table of this name stores no provenance
pub record StoresNothing (name : List ℕ) (c : Contents) : Type 0 where
  pub table : TableEntry
  pub named : table_named c name ≡ Some table
  pub nothing : table.stored ≡ None

-- the table of this name is this one
abbrev pub IsStill : List ℕ → TableEntry → Contents → Type 0
IsStill name table c = table_named c name ≡ Some table

-- the table of this name, if any, to which the statement adds rows, or from which it takes some
abbrev pub filled : Resolved → Option (List ℕ)
filled (r.CreateTable name columns) = None
filled (r.CreateTableAs name columns answer places) = None
filled (r.CreateView name entry) = None
filled (r.Copy name kinds file null_field header) = Some name
filled (r.Insert name rows) = Some name
filled (r.Delete name condition) = Some name
filled (r.DropTable name) = None
filled (r.DropView name) = None
filled (r.Select answer) = None
filled (r.Explain answer) = None
filled (r.ShowFresh name) = None
filled (r.Impact name condition answer) = None
