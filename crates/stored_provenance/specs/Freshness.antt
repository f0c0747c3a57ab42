-- Whether a table that stores provenance is fresh.
use Rattle.std.specs.Prelude.{ℕ, List, Option, Some, None}
use Rattle.std.specs.Option.{option_map, option_and_then}
use Rattle.perm_catalog.specs.Changes.{table_named}
use Rattle.perm_catalog.specs.Contents.{Contents}
use Rattle.perm_catalog.specs.Stored.{first_changed}
use Rattle.perm_catalog.specs.declared.entries.SourceVersion.{SourceVersion}
use Rattle.perm_catalog.specs.declared.entries.StoredQuery.{StoredQuery}
use Rattle.perm_catalog.specs.declared.entries.TableEntry.{TableEntry}
use Rattle.stored_provenance.specs.declared.fresh.FreshState.{FreshState}
use Rattle.stored_provenance.specs.declared.fresh.FreshState.TheVariants.{Fresh, Stale}

-- by the first of the kept tables that isn't what it was
abbrev pub state_of : Option SourceVersion → FreshState
state_of None = Fresh
state_of (Some kept) = Stale kept.table

-- of the table of this name, if it stores provenance
abbrev pub freshness : Contents → List ℕ → Option FreshState
freshness c name =
    option_map (λ (stored : StoredQuery). state_of (first_changed c stored)) (option_and_then (λ (table : TableEntry). table.stored) (table_named c name))
