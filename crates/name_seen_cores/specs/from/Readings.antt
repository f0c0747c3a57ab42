-- What the code finds of an item of FROM: what it reads, and the facts of that.
use Rattle.std.specs.Prelude.{◌≡◌, ℕ, List, [], ◌++◌, Some, Result}
use Rattle.perm_catalog.specs.declared.column.Column.{Column}
use Rattle.perm_values.specs.declared.kind.Kind.{Kind}
use Rattle.bag_algebra.specs.Kinds.{kinds_of, kinds_in}
use Rattle.bag_algebra.specs.declared.query.Label.TheVariants.{Relation, External}
use Rattle.name_meaning.specs.Froms.{Read, ItemMeant, table_columns, names_at, all_places}
use Rattle.name_meaning.specs.declared.scope.Scope.{Scope}
use Rattle.name_meaning.specs.laws.Facts.{Facts, facts_of, both_facts, source_facts}
use Rattle.name_seen_parts.specs.Seen.{FirstOr}
use Rattle.name_seen_parts.specs.declared.refusal.Refusal.{Refusal}
use Rattle.name_seen_cores.specs.from.Added.{facts_in}
use Rattle.name_seen_cores.specs.declared.from.facts.Facts.{Facts as Gathered}
use Rattle.name_seen_parts.specs.Scopes.{item_scope, scope_beside}
use Rattle.name_seen_cores.specs.declared.from.reading.Reading.{Reading}

-- ---- what is read

pub record IsRead (read : Read) (reading : Reading) : Type 0 where
  pub whole : read.breaks ≡ []
  pub columns : read.columns ≡ Some (table_columns reading.columns)
  pub kinds : kinds_of read.query ≡ reading.kinds
  pub plain : facts_of read.plain ≡ facts_in reading.plain

abbrev pub ReadSeen : Read → Result Reading Refusal → Type 0
ReadSeen read result = FirstOr read.breaks (IsRead read) result

-- ---- facts of sources

-- a source of these places of something with these names and kinds
abbrev pub external_facts : List (List ℕ) → List Kind → List ℕ → Facts
external_facts names kinds places =
    source_facts (record { label = External (names_at names places); kinds = kinds_in kinds places })

-- a source of all its columns
abbrev pub relation_facts : List ℕ → List (List ℕ) → List Kind → Facts
relation_facts label names kinds =
    source_facts (record { label = Relation label names; kinds = kinds_in kinds (all_places names) })

-- ---- items in scope

-- one more item of FROM in scope: its columns are known, and its facts come behind those so far
pub record ItemAdded (m : ItemMeant) (scope : Scope) (old new : Gathered) (wider : Scope) : Type 0 where
  pub whole : m.breaks ≡ []
  pub columns : List Column
  pub known : m.columns ≡ Some (table_columns columns)
  pub scope_is : wider ≡ scope_beside scope (item_scope m.name columns)
  pub adds : facts_in new ≡ both_facts (facts_in old) (facts_of m.query)

abbrev pub ItemSeen : ItemMeant → Scope → Gathered → Gathered → Scope → Result Unit Refusal → Type 0
ItemSeen m scope old new wider result = FirstOr m.breaks (λ done. ItemAdded m scope old new wider) result

-- all names so far are those of the items before, and of those in scope
abbrev pub KeepsNames : List (List ℕ) → List (List ℕ) → Scope → Scope → Type 0
KeepsNames old new scope wider = (before : List (List ℕ)) → old ≡ before ++ scope.items → new ≡ before ++ wider.items
