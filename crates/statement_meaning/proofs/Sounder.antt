-- A resolved statement keeps a sound catalog sound.
use Rattle.std.proofs.Common.{◌≡◌, ◌∙◌, ℕ, Bool, true, List, [], ◌∷◌, length, Option, Some, None, IsSome, IfSome, codes, refl, sym, ap, subst, Ordering}
use Rattle.std.proofs.lemmas.Bool.{and_from}
use Rattle.std.specs.List.{count_by}
use Rattle.std.specs.Option.{option_map_or}
use Rattle.perm_values.specs.Rows.{row_fits, bag_fits, printed_cmp, PlacesWithin}
use Rattle.perm_values.specs.Values.{fits}
use Rattle.perm_values.specs.declared.kind.Kind.{Kind}
use Rattle.bag_algebra.proofs.SortedBags.{same_bag-sorted}
use Rattle.bag_algebra.specs.Bags.{Row, Bag, sorted}
use Rattle.bag_algebra.specs.Expressions.{value}
use Rattle.bag_algebra.specs.Kinds.{kinds_of}
use Rattle.bag_algebra.specs.Meaning.{meaning}
use Rattle.bag_algebra.specs.Outcome.{Outcome, Good, Bad, each}
use Rattle.bag_algebra.specs.Rewriting.{SameRows}
use Rattle.bag_algebra.specs.TableRows.{rows_in}
use Rattle.bag_algebra.specs.TablesRead.{EachTable}
use Rattle.bag_algebra.specs.WellFormed.{WellFormed}
use Rattle.bag_algebra.specs.built.Patterns.{ProvOf}
use Rattle.bag_algebra.specs.declared.expr.Expr.{Expr}
use Rattle.bag_algebra.specs.declared.query.Answer.{Answer}
use Rattle.bag_algebra.specs.declared.query.Query.{Query}
use Rattle.contribution.proofs.QueryKinds.{rows_have-kinds}
use Rattle.contribution.proofs.RowKinds.{RowFits as MadeRowFits, BagFits, each-sorted}
use Rattle.contribution.proofs.ValueKinds.{Fits, value-fits}
use Rattle.contribution.proofs.WhereGood.{WhereGood, any_value, good-both}
use Rattle.csv_tables.proofs.Fitting.{bag_fits-spelled}
use Rattle.csv_tables.specs.Loading.{broken_rules, spelled_rows}
use Rattle.csv_tables.specs.declared.data_error.DataError.{DataError}
use Rattle.stored_provenance.proofs.SoundTables.{sound-created, sound-more_rows, sound-fewer_rows, sound-dropped_table}
use Rattle.stored_provenance.proofs.SoundViews.{sound-more_views, sound-dropped_view}
use Rattle.perm_catalog.specs.Changes.{table_named, is_free, rows_at, with_more_rows, with_fewer_rows, with_table, without_table}
use Rattle.perm_catalog.specs.Columns.{column_kinds}
use Rattle.perm_catalog.specs.Contents.{Contents}
use Rattle.perm_catalog.specs.Sound.{IsSound}
use Rattle.perm_catalog.specs.Stored.{IsFresh, IsSoundStored, stored_of}
use Rattle.perm_catalog.specs.declared.column.Column.{Column}
use Rattle.perm_catalog.specs.declared.entries.TableEntry.{TableEntry}
use Rattle.perm_io.specs.Found.{Found, Read, Missing, TooLong, Failed}
use Rattle.delete_impact.specs.vanishing.Doomed.{doomed_on}
use Rattle.name_meaning.specs.declared.answer.Resolved.{Resolved}
use Rattle.name_meaning.specs.declared.answer.Resolved.TheVariants as r
use Rattle.statement_meaning.specs.Asking.{asks}
use Rattle.perm_catalog.specs.Held.{IsHeldTable}
use Rattle.statement_meaning.specs.Ready.{CanRun, IsReady}
use Rattle.statement_meaning.specs.Turns.{drawing, counting, identity_of, with_added, add_rows, add_unbroken, answered, copy, row_value, rows_before, rows_deleted, rows_lost, remembered, store_answer, with_answer}
use Rattle.statement_meaning.proofs.Leaving.{leaves-drawing, leaves-good}
use Rattle.statement_meaning.specs.laws.Sounder.{AddsAnswer, AsksAt, HaveKinds, RowsHaveKinds, AddsSoundly, StandsSound, KeepsSound}

-- ---- rows that expressions make

abbrev RowFits : List Kind → Row → Type 0
RowFits kinds row = row_fits row kinds ≡ true

abbrev RowsFit : List Kind → Bag → Type 0
RowsFit kinds rows = bag_fits rows kinds ≡ true

row-fits : (exprs : List Expr) (kinds : List Kind) → HaveKinds exprs kinds → WhereGood (RowFits kinds) (row_value exprs)
row-fits [] [] h = refl
row-fits [] (kind ∷ kinds) h = absurd h
row-fits (expr ∷ exprs) [] h = absurd h
row-fits (expr ∷ exprs) (kind ∷ kinds) h =
    good-both (Fits kind) (RowFits kinds) (RowFits (kind ∷ kinds)) (λ v vs. v ∷ vs) (value expr [] [] []) (row_value exprs)
    (value-fits ([] ∷ []) [] [] [] [] refl refl expr kind h.0) (row-fits exprs kinds h.1)
    (λ v vs f g. and_from (fits v kind) (row_fits vs kinds) f.fit g)

rows-fit : (rows : List (List Expr)) (kinds : List Kind) → RowsHaveKinds rows kinds → WhereGood (RowsFit kinds) (each row_value rows)
rows-fit [] kinds h = refl
rows-fit (row ∷ rows) kinds h =
    good-both (RowFits kinds) (RowsFit kinds) (RowsFit kinds) (λ v vs. v ∷ vs) (row_value row) (each row_value rows)
    (row-fits row kinds h.0) (rows-fit rows kinds h.1)
    (λ u us f g. and_from (row_fits u kinds) (bag_fits us kinds) f g)

-- ---- changes

pub known : {X : Type 0} (o : Option X) → IsSome o → (x : X) × (o ≡ Some x)
known None some = absurd (cc some)
known (Some x) some = (x, refl)

if-some : {X : Type 0} (P : X → Type 0) (o : Option X) (x : X) → o ≡ Some x → IfSome o P → P x
if-some {X = X} P o x e h = subst (λ (found : Option X). IfSome found P) e h

-- a bag that is good is what it is
pub itself : {X : Type 0} (o : Outcome X) → WhereGood (λ (x : X). o ≡ Good x) o
itself (Good x) = refl
itself (Bad faults) = tt

-- rows in an order fit the kinds that they fit
each-fit : (kinds : List Kind) (rows : Bag) → BagFits kinds rows → RowsFit kinds rows
each-fit kinds [] h = refl
each-fit kinds (row ∷ rows) h = and_from (row_fits row kinds) (bag_fits rows kinds) (h.0).fit (each-fit kinds rows h.1)

sorted-fit : (cmp : Row → Row → Ordering) (rows : Bag) (kinds : List Kind) → BagFits kinds rows → RowsFit kinds (sorted cmp rows)
sorted-fit cmp rows kinds h = each-fit kinds (sorted cmp rows) (each-sorted (MadeRowFits kinds) cmp rows h)

-- what is made of a query with PROVENANCE is remembered soundly, and is fresh
abbrev pub StoredHolds : Contents → List Column → Bag → List ℕ → Query → Type 0
StoredHolds c columns rows places query = IsSoundStored c columns rows (stored_of c query places) × IsFresh c (stored_of c query places)

abbrev pub NewStored : Type 0
NewStored = (c : Contents) (columns : List Column) (rows : Bag) (input : Query) (places : List ℕ) → IsSound c
    → WellFormed [] (ProvOf input) → EachTable (IsHeldTable c) (ProvOf input)
    → kinds_of (ProvOf input) ≡ column_kinds columns → PlacesWithin (length columns) places
    → SameRows (meaning (ProvOf input) (rows_in c.rows) []) (Good rows) → StoredHolds c columns rows places (ProvOf input)

module _ (new_stored : NewStored) (c : Contents) (sound : IsSound c) where
  identity : (name : List ℕ) (table : TableEntry) → table_named c name ≡ Some table → identity_of c name ≡ table.id
  identity name table e = ap (λ (o : Option TableEntry). option_map_or (λ (entry : TableEntry). entry.id) o 0) e

  added-sound : (name : List ℕ) (table : TableEntry) (rows : Bag) → table_named c name ≡ Some table → RowsFit (column_kinds table.columns) rows
      → IsSound (with_added c name rows)
  added-sound name table rows e fit =
      subst (λ (id : ℕ). IsSound (with_more_rows c name id rows)) (sym (identity name table e)) (sound-more_rows c name table rows sound e fit)

  added-turn : (word : List ℕ) (at : ℕ) (name : List ℕ) (table : TableEntry) (rows : Bag) → table_named c name ≡ Some table
      → RowsFit (column_kinds table.columns) rows → StandsSound (add_rows word c at name rows)
  added-turn word at name table rows e fit = leaves-drawing IsSound c at (counting word (length rows)) (with_added c name rows) (added-sound name table rows e fit)

  copy-sound : (at : ℕ) (name : List ℕ) (table : TableEntry) (kinds : List Kind) (null_field : List ℕ) (header : Bool) → table_named c name ≡ Some table
      → kinds ≡ column_kinds table.columns → (found : Found) → StandsSound (copy c at name kinds null_field header found)
  copy-sound at name table kinds null_field header e same (Read bytes) = chosen (broken_rules null_field kinds header bytes) refl where
    chosen : (rules : List DataError) → broken_rules null_field kinds header bytes ≡ rules
        → StandsSound (add_unbroken c at name rules (spelled_rows null_field kinds header bytes))
    chosen [] none = added-turn (codes "COPY ") at name table (spelled_rows null_field kinds header bytes) e
        (subst (λ (ks : List Kind). RowsFit ks (spelled_rows null_field kinds header bytes)) same (bag_fits-spelled null_field kinds header bytes none))
    chosen (first ∷ more) some = tt
  copy-sound at name table kinds null_field header e same Missing = tt
  copy-sound at name table kinds null_field header e same TooLong = tt
  copy-sound at name table kinds null_field header e same Failed = tt

  fewer-sound : (name : List ℕ) (table : TableEntry) (doomed : List Bool) → table_named c name ≡ Some table
      → IsSound (with_fewer_rows c name (identity_of c name) doomed)
  fewer-sound name table doomed e =
      subst (λ (id : ℕ). IsSound (with_fewer_rows c name id doomed)) (sym (identity name table e)) (sound-fewer_rows c name table doomed sound e)

  -- ---- CREATE TABLE AS

  module _ (name : List ℕ) (columns : List Column) (answer : Answer) (places : Option (List ℕ)) (rows : Bag) (free : is_free c name ≡ true)
      (can : CanRun c answer) (adds : AddsAnswer c columns answer.query places) (good : meaning answer.query (rows_in c.rows) [] ≡ Good rows) where
    abbrev ordered : Bag
    ordered = sorted (printed_cmp answer.keys) rows

    ordered-fit : RowsFit (column_kinds columns) ordered
    ordered-fit =
        subst (λ (kinds : List Kind). RowsFit kinds ordered) adds.kinds
        (sorted-fit (printed_cmp answer.keys) rows (kinds_of answer.query)
        (rows_have-kinds [] answer.query (rows_in c.rows) [] rows (record { formed = can.formed; tables = can.fitting; outer_rows = refl }) good))

    same-ordered : SameRows (meaning answer.query (rows_in c.rows) []) (Good ordered)
    same-ordered = subst (λ (o : Outcome Bag). SameRows o (Good ordered)) (sym good) (same_bag-sorted (printed_cmp answer.keys) rows)

    pub mark-at : (there : List ℕ) → AsksAt columns answer.query there
        → IsSoundStored c columns ordered (stored_of c answer.query there) × IsFresh c (stored_of c answer.query there)
    mark-at there at =
        subst (StoredHolds c columns ordered there) (sym at.asks)
        (new_stored c columns ordered at.input there sound (subst (WellFormed []) at.asks can.formed) (subst (EachTable (IsHeldTable c)) at.asks adds.held)
        (ap kinds_of (sym at.asks) ∙ adds.kinds) at.within
        (subst (λ (query : Query). SameRows (meaning query (rows_in c.rows) []) (Good ordered)) at.asks same-ordered))

    marks-sound : (there : Option (List ℕ)) → IfSome there (AsksAt columns answer.query) → IfSome (remembered c answer there) (IsSoundStored c columns ordered)
    marks-sound None asks = tt
    marks-sound (Some there) asks = (mark-at there asks).0

    pub stored-sound : IsSound (with_answer c name columns answer places ordered)
    stored-sound =
        sound-created c name columns ordered (remembered c answer places) sound free
        (record { columns_are = adds.columns_are; fitting = ordered-fit }) (marks-sound places adds.asks)

  pub keeps-sound : (at : ℕ) (statement : Resolved) → IsReady c statement → AddsSoundly c statement → KeepsSound (asks c at statement)
  keeps-sound at (r.CreateTable name columns) free adds =
      leaves-drawing IsSound c at (codes "CREATE TABLE\n") (with_table c name columns [] None)
      (sound-created c name columns [] None sound free (record { columns_are = adds; fitting = refl }) tt)
  keeps-sound at (r.CreateTableAs name columns answer places) ready adds =
      leaves-good IsSound (λ (rows : Bag). meaning answer.query (rows_in c.rows) [] ≡ Good rows) at (meaning answer.query (rows_in c.rows) [])
      (λ rows. store_answer c at name columns answer places (sorted (printed_cmp answer.keys) rows)) (itself (meaning answer.query (rows_in c.rows) []))
      (λ rows good.
      let ordered : Bag = sorted (printed_cmp answer.keys) rows in
      leaves-drawing IsSound c at (counting (codes "CREATE TABLE AS ") (length ordered)) (with_answer c name columns answer places ordered)
      (stored-sound name columns answer places rows ready.0 ready.1 adds good))
  keeps-sound at (r.CreateView name entry) free adds = sound-more_views c name entry sound free adds
  keeps-sound at (r.Copy name kinds file null_field header) some adds =
      let table = known (table_named c name) some in
      copy-sound at name table.0 kinds null_field header table.1 (if-some (λ (t : TableEntry). kinds ≡ column_kinds t.columns) (table_named c name) table.0 table.1 adds)
  keeps-sound at (r.Insert name rows) some adds =
      let table = known (table_named c name) some in
      let kinds : List Kind = column_kinds table.0.columns in
      leaves-good IsSound (RowsFit kinds) at (each row_value rows) (add_rows (codes "INSERT ") c at name)
      (rows-fit rows kinds (if-some (λ (t : TableEntry). RowsHaveKinds rows (column_kinds t.columns)) (table_named c name) table.0 table.1 adds))
      (λ made fit. added-turn (codes "INSERT ") at name table.0 made table.1 fit)
  keeps-sound at (r.Delete name condition) some adds =
      let table = known (table_named c name) some in
      let flags : Outcome (List Bool) = each (doomed_on condition) (rows_at c (identity_of c name)) in
      leaves-good IsSound (λ (doomed : List Bool). Unit {0}) at flags (λ doomed. drawing c at (rows_deleted c name doomed)) (any_value flags)
      (λ doomed h. leaves-drawing IsSound c at (counting (codes "DELETE ") (count_by (λ flag. flag) doomed)) (with_fewer_rows c name (identity_of c name) doomed)
      (fewer-sound name table.0 doomed table.1))
  keeps-sound at (r.DropTable name) ready adds =
      let table = known (table_named c name) ready.0 in
      subst (λ (id : ℕ). IsSound (without_table c name id)) (sym (identity name table.0 table.1)) (sound-dropped_table c name table.0 sound table.1 ready.1)
  keeps-sound at (r.DropView name) ready adds = sound-dropped_view c name sound
  keeps-sound at (r.Select answer) ready adds =
      leaves-good IsSound (λ (rows : Bag). Unit {0}) at (meaning answer.query (rows_in c.rows) []) (answered c answer)
      (any_value (meaning answer.query (rows_in c.rows) [])) (λ rows h. sound)
  keeps-sound at (r.Explain answer) ready adds = sound
  keeps-sound at (r.ShowFresh name) ready adds = sound
  keeps-sound at (r.Impact name condition answer) ready adds =
      let id : ℕ = identity_of c name in
      leaves-good IsSound (λ (rows : Bag). Unit {0}) at (rows_before id condition answer.query (rows_in c.rows))
      (λ rows. answered c answer (rows_lost id condition answer.query (rows_in c.rows) rows))
      (any_value (rows_before id condition answer.query (rows_in c.rows))) (λ rows h. sound)
