-- What the tables that a query reads are called in a catalog.
use Rattle.std.specs.Prelude.{ℕ, cond, List, [], ◌∷◌, ◌++◌, Option}
use Rattle.std.specs.List.{list_any}
use Rattle.std.specs.Option.{option_map, option_and_then}
use Rattle.bag_algebra.specs.TablesRead.{TableRead, tables_read}
use Rattle.bag_algebra.specs.declared.query.Query.{Query}
use Rattle.perm_catalog.specs.Changes.{table_named}
use Rattle.perm_catalog.specs.Columns.{column_names}
use Rattle.perm_catalog.specs.Contents.{Contents}
use Rattle.perm_catalog.specs.Lookups.{name_of_id}
use Rattle.perm_catalog.specs.declared.entries.TableEntry.{TableEntry}
use Rattle.query_texts.specs.clauses.Names.{has_id}
use Rattle.query_texts.specs.declared.clauses.tables.TableNames.{TableNames}
use Rattle.stored_provenance.specs.Reads.{listed}

-- a table of this identity under a name, with the names of its columns
abbrev pub named_under : ℕ → List ℕ → TableEntry → TableNames
named_under id name table = record { id = id; name = name; columns = column_names table.columns }

-- what the table of an identity is called
abbrev pub names_now : Contents → ℕ → Option TableNames
names_now c id = option_and_then (λ name. option_map (named_under id name) (table_named c name)) (name_of_id c id)

-- named where it isn't yet
abbrev pub with_read : Contents → ℕ → List TableNames → List TableNames
with_read c id tables = cond (list_any (has_id id) tables) tables (tables ++ listed (names_now c id))

abbrev pub with_reads : Contents → List TableRead → List TableNames → List TableNames
with_reads c [] tables = tables
with_reads c (read ∷ reads) tables = with_reads c reads (with_read c read.id tables)

-- the tables that the query reads, each once
abbrev pub tables_named : Contents → Query → List TableNames
tables_named c query = with_reads c (tables_read query) []
