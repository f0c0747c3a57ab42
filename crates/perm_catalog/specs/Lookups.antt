-- What the look-ups of a catalog find, beside the table and the view of a name.
use Rattle.std.specs.Prelude.{ℕ, Bool, List, Option, nat_eq}
use Rattle.std.specs.Cmp.Lexicographic.{pointwise}
use Rattle.std.specs.List.{find, list_any}
use Rattle.std.specs.Option.{option_map, option_and_then}
use Rattle.perm_catalog.specs.Changes.{table_named}
use Rattle.perm_catalog.specs.Contents.{Contents}
use Rattle.perm_catalog.specs.declared.entries.StoredQuery.{StoredQuery}
use Rattle.perm_catalog.specs.declared.entries.TableEntry.{TableEntry}
use Rattle.perm_catalog.specs.declared.entries.ViewEntry.{ViewEntry}

-- the view names this table or view, directly or through other views
abbrev pub uses_name : ViewEntry → List ℕ → Bool
uses_name entry name = list_any (pointwise nat_eq name) entry.names_used

-- the name of the first view, in the order of creation, that names it
abbrev pub first_user : Contents → List ℕ → Option (List ℕ)
first_user c name = option_map (λ (e : List ℕ × ViewEntry). e.0) (find (λ (e : List ℕ × ViewEntry). uses_name e.1 name) c.views)

-- the table that has this identity, with its name
abbrev pub entry_of_id : Contents → ℕ → Option (List ℕ × TableEntry)
entry_of_id c id = find (λ (e : List ℕ × TableEntry). nat_eq e.1.id id) c.tables

abbrev pub name_of_id : Contents → ℕ → Option (List ℕ)
name_of_id c id = option_map (λ (e : List ℕ × TableEntry). e.0) (entry_of_id c id)

abbrev pub version_of_id : Contents → ℕ → Option ℕ
version_of_id c id = option_map (λ (e : List ℕ × TableEntry). e.1.version) (entry_of_id c id)

-- the places of the provenance columns that the table of this name stores
abbrev pub declared_places : Contents → List ℕ → Option (List ℕ)
declared_places c name = option_map (λ (stored : StoredQuery). stored.places) (option_and_then (λ (entry : TableEntry). entry.stored) (table_named c name))
