-- The facts of what an item reads, where it has no mark of FROM.
use Rattle.std.specs.Prelude.{◌≡◌, ℕ, List, [], Option, Some, None, IfOk, Result}
use Rattle.std.specs.List.{range_with_len}
use Rattle.std.specs.Option.{option_map_or}
use Rattle.std.proofs.Common.{refl, ap, sym, subst, ◌∙◌}
use Rattle.bag_algebra.specs.Kinds.{kinds_of}
use Rattle.bag_algebra.specs.declared.query.Label.TheVariants.{Relation, External}
use Rattle.bag_algebra.specs.declared.query.Query.{Query}
use Rattle.bag_algebra.specs.declared.query.Query.TheVariants.{Base, Table}
use Rattle.perm_catalog.specs.Columns.{column_kinds}
use Rattle.perm_catalog.specs.declared.entries.StoredQuery.{StoredQuery}
use Rattle.perm_catalog.specs.declared.entries.TableEntry.{TableEntry}
use Rattle.perm_catalog.specs.declared.entries.ViewEntry.{ViewEntry}
use Rattle.perm_values.specs.declared.kind.Kind.{Kind}
use Rattle.perm_values.specs.declared.no_memory.NoMemory.{NoMemory}
use Rattle.name_meaning.specs.Froms.{all_places, external, names_at, names_of, read_query, read_view, settled_columns, table_plain}
use Rattle.name_meaning.specs.Meanings.{OutColumn, QueryMeant}
use Rattle.name_meaning.specs.laws.Facts.{Facts, facts_of}
use Rattle.name_seen_parts.specs.Columns.{columns_of}
use Rattle.name_seen_cores.specs.from.Added.{facts_in}
use Rattle.name_seen_cores.specs.from.Queried.{QueryWhole}
use Rattle.name_seen_cores.specs.declared.from.facts.Facts.{Facts as Gathered}
use Rattle.name_seen_cores.specs.declared.from.shown.QueryShown.{QueryShown}
use Rattle.name_seen_parts.specs.FromColumns.{known_names}
use Rattle.name_seen_cores.specs.from.Readings.{external_facts, relation_facts}
use Rattle.name_seen_parts.proofs.KnownNames.{length-known}
use Rattle.name_seen_cores.proofs.Sourced.{facts-based}

pub facts-so : (result : Result Gathered NoMemory) (a b : Facts) → a ≡ b → IfOk result (λ facts. facts_in facts ≡ a) → IfOk result (λ facts. facts_in facts ≡ b)
facts-so result a b e given = subst (λ (whole : Facts). IfOk result (λ facts. facts_in facts ≡ whole)) e given

-- what has places of provenance is a source of these
plain-is : (query : Query) (names : List (List ℕ)) (kinds : List Kind) (own : Facts) (places : Option (List ℕ))
    → kinds_of query ≡ kinds → facts_of query ≡ own
    → facts_of (option_map_or (external query names) places query) ≡ option_map_or (external_facts names kinds) places own
plain-is query names kinds own None same gathered = gathered
plain-is query names kinds own (Some places) same gathered = facts-based query places (External (names_at names places)) kinds same

-- ---- tables

abbrev whole-table : List ℕ → TableEntry → List ℕ → Query
whole-table name table places = Base (Table table.id (column_kinds table.columns)) places (Relation name (known_names table.columns))

abbrev plain-at : List ℕ → TableEntry → Option StoredQuery → Query
plain-at name table mark = option_map_or
    (λ (stored : StoredQuery). external (Table table.id (column_kinds table.columns)) (known_names table.columns) stored.places) mark
    (whole-table name table (all_places table.columns))

pub table-source : (name : List ℕ) (table : TableEntry) (names : List (List ℕ)) (kinds : List Kind) (places : List ℕ) (stored : StoredQuery)
    → names ≡ known_names table.columns → kinds ≡ column_kinds table.columns → table.stored ≡ Some stored → places ≡ stored.places
    → external_facts names kinds places ≡ facts_of (table_plain name table)
table-source name table names kinds places stored named sorts marked at =
    (λ i. external_facts (named i) (sorts i) (at i))
    ∙ sym (facts-based (Table table.id (column_kinds table.columns)) stored.places (External (names_at (known_names table.columns) stored.places)) (column_kinds table.columns) refl)
    ∙ ap (λ (mark : Option StoredQuery). facts_of (plain-at name table mark)) (sym marked)

pub table-whole : (name : List ℕ) (table : TableEntry) (names : List (List ℕ)) (kinds : List Kind)
    → names ≡ known_names table.columns → kinds ≡ column_kinds table.columns → table.stored ≡ None → relation_facts name names kinds ≡ facts_of (table_plain name table)
table-whole name table names kinds named sorts unmarked =
    (λ i. relation_facts name (named i) (sorts i))
    ∙ sym (facts-based (Table table.id (column_kinds table.columns)) (all_places (known_names table.columns)) (Relation name (known_names table.columns)) (column_kinds table.columns) refl)
    ∙ ap (λ (count : ℕ). facts_of (whole-table name table (range_with_len 0 count))) (length-known table.columns)
    ∙ ap (λ (mark : Option StoredQuery). facts_of (plain-at name table mark)) (sym unmarked)

-- ---- views

pub view-source : (view : ViewEntry) (name : List ℕ) (names : List (List ℕ)) (kinds : List Kind) (places kept : List ℕ)
    → names ≡ view.answer.names → kinds ≡ kinds_of view.answer.query → view.places ≡ Some kept → places ≡ kept
    → external_facts names kinds places ≡ facts_of (read_view name view).plain
view-source view name names kinds places kept named sorts some at =
    (λ i. external_facts (named i) (sorts i) (at i))
    ∙ sym (plain-is view.answer.query view.answer.names (kinds_of view.answer.query) (facts_of view.answer.query) (Some kept) refl refl)
    ∙ ap (λ (places : Option (List ℕ)). facts_of (option_map_or (external view.answer.query view.answer.names) places view.answer.query)) (sym some)

pub view-plain : (view : ViewEntry) (name : List ℕ) → view.places ≡ None → facts_of view.answer.query ≡ facts_of (read_view name view).plain
view-plain view name none =
    ap (λ (places : Option (List ℕ)). facts_of (option_map_or (external view.answer.query view.answer.names) places view.answer.query)) (sym none)

-- ---- subqueries

abbrev plain-with : QueryMeant → List (List ℕ) → Option (List ℕ) → Query
plain-with m names places = option_map_or (external (m.make []) names) places (m.make [])

pub shown-plain : (m : QueryMeant) (shown : QueryShown) (names : List (List ℕ)) (kinds : List Kind) → QueryWhole m shown
    → names ≡ names_of (settled_columns (columns_of shown.columns)) → kinds_of (m.make []) ≡ kinds
    → option_map_or (external_facts names kinds) shown.places (facts_in shown.facts) ≡ facts_of (read_query m).plain
shown-plain m shown names kinds whole named sorts =
    sym (ap (λ (columns : Option (List OutColumn)). facts_of (plain-with m (option_map_or (λ (columns : List OutColumn). names_of (settled_columns columns)) columns []) m.places)) whole.known
    ∙ ap (λ (names : List (List ℕ)). facts_of (plain-with m names m.places)) (sym named)
    ∙ ap (λ (places : Option (List ℕ)). facts_of (plain-with m names places)) whole.places
    ∙ plain-is (m.make []) names kinds (facts_in shown.facts) shown.places sorts (sym (whole.facts [])))
