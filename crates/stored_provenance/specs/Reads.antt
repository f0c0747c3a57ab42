-- The tables that a query reads, kept one after another.
use Rattle.std.specs.Prelude.{ℕ, Bool, cond, List, [], ◌∷◌, ◌++◌, Option, Some, None, nat_eq}
use Rattle.std.specs.List.{list_any, flat_map}
use Rattle.std.specs.Option.{option_map}
use Rattle.bag_algebra.specs.TablesRead.{TableRead, tables_read}
use Rattle.bag_algebra.specs.declared.query.Query.{Query}
use Rattle.bag_algebra.specs.declared.query.Sublink.{Sublink}
use Rattle.perm_catalog.specs.Contents.{Contents}
use Rattle.perm_catalog.specs.Lookups.{entry_of_id}
use Rattle.perm_catalog.specs.declared.entries.SourceVersion.{SourceVersion}
use Rattle.perm_catalog.specs.declared.entries.TableEntry.{TableEntry}

abbrev pub has_id : ℕ → List SourceVersion → Bool
has_id id kept = list_any (λ (table : SourceVersion). nat_eq table.id id) kept

-- the table of this identity as the catalog has it
abbrev pub kept_now : Contents → ℕ → Option SourceVersion
kept_now c id = option_map (λ (e : List ℕ × TableEntry). record { table = e.0; id = id; version = e.1.version }) (entry_of_id c id)

abbrev pub listed : {X : Type 0} → Option X → List X
listed None = []
listed (Some x) = x ∷ []

-- kept where it isn't yet
abbrev pub with_read : Contents → ℕ → List SourceVersion → List SourceVersion
with_read c id kept = cond (has_id id kept) kept (kept ++ listed (kept_now c id))

abbrev pub with_reads : Contents → List TableRead → List SourceVersion → List SourceVersion
with_reads c [] kept = kept
with_reads c (read ∷ reads) kept = with_reads c reads (with_read c read.id kept)

-- what the children of a node read
abbrev pub inputs_read : List Query → List TableRead
inputs_read queries = flat_map tables_read queries

abbrev pub sublinks_read : List Sublink → List TableRead
sublinks_read subs = flat_map (λ (sub : Sublink). tables_read sub.query) subs
