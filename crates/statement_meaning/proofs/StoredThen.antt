-- What a statement leaves of the tables that it makes, of those that it writes, and of the others.
use Rattle.std.proofs.Common.{◌≡◌, ◌≢◌, ℕ, true, List, [], length, Option, Some, None, IfSome, codes, refl, sym, ap, subst, ◌∙◌}
use Rattle.std.proofs.lemmas.Option.{same_Some}
use Rattle.std.specs.FinMap.{FinMap}
use Rattle.std.specs.Ordering.{nat_cmp}
use Rattle.std.specs.Option.{option_and_then}
use Rattle.perm_values.specs.Rows.{printed_cmp}
use Rattle.perm_values.proofs.Steps.{none_is_some}
use Rattle.bag_algebra.specs.Bags.{Bag, sorted}
use Rattle.bag_algebra.specs.Meaning.{meaning}
use Rattle.bag_algebra.specs.Outcome.{Good}
use Rattle.bag_algebra.specs.TableRows.{rows_in}
use Rattle.bag_algebra.specs.declared.query.Answer.{Answer}
use Rattle.bag_algebra.specs.declared.query.Query.{Query}
use Rattle.perm_catalog.proofs.Named.{found-apart, found-here, named-changed, named-last, named-without}
use Rattle.perm_catalog.specs.Changes.{is_free, renewed, rows_with, rows_without, table_named, view_named, with_rows_of, with_table, without_table}
use Rattle.perm_catalog.specs.Contents.{Contents}
use Rattle.perm_catalog.specs.Sound.{IsSound}
use Rattle.perm_catalog.specs.Stored.{stored_of}
use Rattle.perm_catalog.specs.declared.column.Column.{Column}
use Rattle.perm_catalog.specs.declared.entries.StoredQuery.{StoredQuery}
use Rattle.perm_catalog.specs.declared.entries.TableEntry.{TableEntry}
use Rattle.name_meaning.specs.declared.answer.Resolved.{Resolved}
use Rattle.name_meaning.specs.declared.answer.Resolved.TheVariants as r
use Rattle.stored_provenance.proofs.Soundness.{free-table}
use Rattle.statement_meaning.specs.Asking.{asks}
use Rattle.statement_meaning.specs.Ready.{IsReady}
use Rattle.statement_meaning.specs.Turns.{Accepted, counting, freshness_told, freshness_text, identity_of, show_fresh, stored_at, store_answer, with_answer}
use Rattle.statement_meaning.proofs.Freshened.{keeps-created}
use Rattle.statement_meaning.proofs.Leaving.{Cases, leaves, leaves-drawing, leaves-good}
use Rattle.statement_meaning.proofs.Sounder.{NewStored, itself, known, mark-at, stored-sound}
use Rattle.statement_meaning.specs.laws.Freshened.{IsStill, StoresFresh, StoresNothing, filled, written}
use Rattle.statement_meaning.specs.laws.Leaving.{Leaves}
use Rattle.statement_meaning.specs.laws.Sounder.{AddsSoundly}

-- ---- a table that is made of a query with PROVENANCE

module _ (new_stored : NewStored) (c : Contents) (at : ℕ) (name : List ℕ) (columns : List Column) (answer : Answer) (places : List ℕ) (sound : IsSound c)
    (ready : IsReady c (r.CreateTableAs name columns answer (Some places))) (adds : AddsSoundly c (r.CreateTableAs name columns answer (Some places))) where
  abbrev mark : StoredQuery
  mark = stored_of c answer.query places

  module _ (rows : Bag) (good : meaning answer.query (rows_in c.rows) [] ≡ Good rows) where
    abbrev ordered : Bag
    ordered = sorted (printed_cmp answer.keys) rows

    abbrev after : Contents
    after = with_answer c name columns answer (Some places) ordered

    abbrev made : TableEntry
    made = record { id = c.next; version = c.next; columns = columns; stored = Some mark }

    stores-fresh : StoresFresh name answer.query after
    stores-fresh =
        let holds = mark-at new_stored c sound name columns answer (Some places) rows ready.0 ready.1 adds good places adds.asks in
        let none : table_named c name ≡ None = free-table (table_named c name) (view_named c name) ready.0 in
        record {
          table = made;
          named = found-here (Some made) (table_named c name) (table_named after name) name name (named-last name name made c.tables none) refl;
          stored = mark;
          stores = refl;
          asks = refl;
          fresh = (keeps-created c sound mark holds.0.drawn name columns ordered (Some mark) ready.0
              (stored-sound new_stored c sound name columns answer (Some places) rows ready.0 ready.1 adds good)).stays tt holds.1;
        }

  pub leaves-fresh : Leaves (StoresFresh name answer.query) (asks c at (r.CreateTableAs name columns answer (Some places)))
  leaves-fresh =
      leaves-good (StoresFresh name answer.query) (λ (rows : Bag). meaning answer.query (rows_in c.rows) [] ≡ Good rows) at (meaning answer.query (rows_in c.rows) [])
      (λ rows. store_answer c at name columns answer (Some places) (sorted (printed_cmp answer.keys) rows)) (itself (meaning answer.query (rows_in c.rows) []))
      (λ rows good.
      leaves-drawing (StoresFresh name answer.query) c at (counting (codes "CREATE TABLE AS ") (length (ordered rows good))) (after rows good) (stores-fresh rows good))

pub fresh-shown : (name : List ℕ) (query : Query) (c : Contents) → StoresFresh name query c → show_fresh c name ≡ Accepted (codes "fresh\n") c
fresh-shown name query c h =
    let stored : stored_at c name ≡ Some h.stored = ap (λ (o : Option TableEntry). option_and_then (λ (entry : TableEntry). entry.stored) o) h.named ∙ h.stores in
    ap (λ (text : List ℕ). Accepted text c) (ap (freshness_text c) stored ∙ ap freshness_told h.fresh)

-- ---- a table that is written, and the others

module _ (c : Contents) (name : List ℕ) where
  nothing-stored : (table : TableEntry) → table_named c name ≡ Some table → (rows : FinMap nat_cmp Bag) → StoresNothing name (with_rows_of c name rows)
  nothing-stored table is rows =
      let d : Contents = with_rows_of c name rows in
      let newer : TableEntry = renewed c.next table in
      record {
        table = newer;
        named = found-here (Some newer) (table_named c name) (table_named d name) name name (named-changed (renewed c.next) name name table c.tables is) refl;
        nothing = refl;
      }

forgets : (c : Contents) (name written_name : List ℕ) → written_name ≡ name → (table : TableEntry) → table_named c written_name ≡ Some table
    → (rows : FinMap nat_cmp Bag) → StoresNothing name (with_rows_of c written_name rows)
forgets c name written_name same table is rows =
    subst (λ (n : List ℕ). StoresNothing n (with_rows_of c written_name rows)) same (nothing-stored c written_name table is rows)

forgets-cases : (c : Contents) (name : List ℕ) (statement : Resolved) → IsReady c statement → filled statement ≡ Some name → Cases (StoresNothing name) c statement
forgets-cases c name (r.CreateTable other columns) ready is = none_is_some is
forgets-cases c name (r.CreateTableAs other columns answer places) ready is = none_is_some is
forgets-cases c name (r.CreateView other entry) ready is = none_is_some is
forgets-cases c name (r.Copy other kinds file null_field header) some is =
    let t = known (table_named c other) some in λ rows. forgets c name other (same_Some other name is) t.0 t.1 _
forgets-cases c name (r.Insert other rows) some is =
    let t = known (table_named c other) some in λ made. forgets c name other (same_Some other name is) t.0 t.1 _
forgets-cases c name (r.Delete other condition) some is =
    let t = known (table_named c other) some in λ doomed. forgets c name other (same_Some other name is) t.0 t.1 _
forgets-cases c name (r.DropTable other) ready is = none_is_some is
forgets-cases c name (r.DropView other) ready is = none_is_some is
forgets-cases c name (r.Select answer) ready is = none_is_some is
forgets-cases c name (r.Explain answer) ready is = none_is_some is
forgets-cases c name (r.ShowFresh other) ready is = none_is_some is
forgets-cases c name (r.Impact other condition answer) ready is = none_is_some is

pub leaves-nothing : (c : Contents) (at : ℕ) (statement : Resolved) (name : List ℕ) → IsReady c statement → filled statement ≡ Some name
    → Leaves (StoresNothing name) (asks c at statement)
leaves-nothing c at statement name ready is = leaves (StoresNothing name) c at statement (forgets-cases c name statement ready is)

module _ (c : Contents) (sound : IsSound c) (name : List ℕ) (table : TableEntry) (is : table_named c name ≡ Some table) where
  beside-new : (other : List ℕ) (columns : List Column) (rows : Bag) (mark : Option StoredQuery) → is_free c other ≡ true
      → IsStill name table (with_table c other columns rows mark)
  beside-new other columns rows mark free =
      let d : Contents = with_table c other columns rows mark in
      let made : TableEntry = record { id = c.next; version = c.next; columns = columns; stored = mark } in
      let none : table_named c other ≡ None = free-table (table_named c other) (view_named c other) free in
      found-apart (Some made) (table_named c name) (table_named d name) other name (named-last other name made c.tables none)
      (λ same. none_is_some (sym none ∙ ap (table_named c) same ∙ is)) ∙ is

  beside-written : (other : List ℕ) (entry : TableEntry) → table_named c other ≡ Some entry → other ≢ name → (rows : FinMap nat_cmp Bag)
      → IsStill name table (with_rows_of c other rows)
  beside-written other entry there apart rows =
      found-apart (Some (renewed c.next entry)) (table_named c name) (table_named (with_rows_of c other rows) name) other name
      (named-changed (renewed c.next) other name entry c.tables there) apart ∙ is

  beside-dropped : (other : List ℕ) (id : ℕ) → other ≢ name → IsStill name table (without_table c other id)
  beside-dropped other id apart =
      found-apart None (table_named c name) (table_named (without_table c other id) name) other name (named-without other name c.tables sound.table_names) apart ∙ is

  still-cases : (statement : Resolved) → IsReady c statement → IfSome (written statement) (λ (changed : List ℕ). changed ≢ name) → Cases (IsStill name table) c statement
  still-cases (r.CreateTable other columns) free apart = beside-new other columns [] None free
  still-cases (r.CreateTableAs other columns answer places) ready apart = λ rows. beside-new other columns rows _ ready.0
  still-cases (r.CreateView other entry) free apart = is
  still-cases (r.Copy other kinds file null_field header) some apart =
      let t = known (table_named c other) some in λ rows. beside-written other t.0 t.1 apart (rows_with c.rows (identity_of c other) rows)
  still-cases (r.Insert other rows) some apart =
      let t = known (table_named c other) some in λ made. beside-written other t.0 t.1 apart (rows_with c.rows (identity_of c other) made)
  still-cases (r.Delete other condition) some apart =
      let t = known (table_named c other) some in λ doomed. beside-written other t.0 t.1 apart (rows_without c.rows (identity_of c other) doomed)
  still-cases (r.DropTable other) ready apart = beside-dropped other (identity_of c other) apart
  still-cases (r.DropView other) ready apart = is
  still-cases (r.Select answer) ready apart = is
  still-cases (r.Explain answer) ready apart = is
  still-cases (r.ShowFresh other) ready apart = is
  still-cases (r.Impact other condition answer) ready apart = is

pub leaves-others : (c : Contents) (at : ℕ) (statement : Resolved) (name : List ℕ) (table : TableEntry) → IsSound c → IsReady c statement
    → table_named c name ≡ Some table → IfSome (written statement) (λ (changed : List ℕ). changed ≢ name) → Leaves (IsStill name table) (asks c at statement)
leaves-others c at statement name table sound ready is apart =
    leaves (IsStill name table) c at statement (still-cases c sound name table is statement ready apart)
