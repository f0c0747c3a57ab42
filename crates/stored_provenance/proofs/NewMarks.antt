-- What a new table that stores provenance remembers is sound, and it is fresh.
use Rattle.std.proofs.Common.{◌≡◌, ◌≢◌, ℕ, zero, suc, ◌<◌, Bool, true, false, not, cond, List, [], ◌∷◌, ◌++◌, length, filter, Option, Some, None, refl, sym, ap, subst, ◌∙◌, arith, nat_eq}
use Rattle.std.proofs.lemmas.List.Elements.{All-nil, All-cons, All-append, Contains-append_left, Contains-append_right}
use Rattle.std.proofs.lemmas.Option.{same_Some}
use Rattle.std.proofs.lemmas.Bool.{eqb-true, eq-eqb}
use Rattle.std.specs.Prelude.{All, Contains, slice_index_or}
use Rattle.std.specs.List.{flat_map}
use Rattle.std.specs.Option.{option_map_or}
use Rattle.perm_values.specs.Rows.{PlacesWithin}
use Rattle.perm_values.specs.declared.kind.Kind.{Kind}
use Rattle.bag_algebra.proofs.TablesRead.{each_table-both, each_table-kept, reads_among-itself}
use Rattle.bag_algebra.specs.Bags.{Bag}
use Rattle.bag_algebra.specs.Kinds.{kinds_of}
use Rattle.bag_algebra.specs.Meaning.{meaning}
use Rattle.bag_algebra.specs.Outcome.{Good}
use Rattle.bag_algebra.specs.Rewriting.{SameRows}
use Rattle.bag_algebra.specs.TableRows.{rows_in}
use Rattle.bag_algebra.specs.TablesRead.{TableRead, tables_read, EachTable}
use Rattle.bag_algebra.specs.WellFormed.{WellFormed}
use Rattle.bag_algebra.specs.built.Patterns.{ProvOf}
use Rattle.bag_algebra.specs.declared.query.Query.{Query}
use Rattle.perm_catalog.specs.Changes.{table_named}
use Rattle.perm_catalog.specs.Columns.{column_kinds}
use Rattle.perm_catalog.specs.Contents.{Contents}
use Rattle.perm_catalog.specs.Lookups.{entry_of_id}
use Rattle.perm_catalog.specs.Sound.{IsSound}
use Rattle.perm_catalog.specs.Stored.{is_unchanged, IsFresh, IsKeptTable, IsDrawn, IsSoundStored, each_once, kept_read, kept_of, stored_of}
use Rattle.perm_catalog.specs.declared.column.Column.{Column}
use Rattle.perm_catalog.specs.declared.entries.SourceVersion.{SourceVersion}
use Rattle.perm_catalog.specs.declared.entries.TableEntry.{TableEntry}
use Rattle.stored_provenance.proofs.Found.{found-named}
use Rattle.stored_provenance.proofs.Marks.{has-entry, all-pass}
use Rattle.stored_provenance.proofs.Soundness.{are-apart}
use Rattle.query_laws.specs.replaced.OverQueries.{ReadsAs}
use Rattle.perm_catalog.specs.Held.{IsHeldTable}
use Rattle.stored_provenance.proofs.KeptOnce.{entry-id}

-- ---- lists

all-flat : {X Y : Type 0} (P : Y → Type 0) (f : X → List Y) (xs : List X) → ((x : X) → All P (f x)) → All P (flat_map f xs)
all-flat P f [] h = All-nil P
all-flat P f (x ∷ xs) h = All-append P (f x) (flat_map f xs) (h x) (all-flat P f xs h)

in-flat : {X Y : Type 0} (f : X → List Y) (xs : List X) (x : X) (y : Y) → Contains xs x → Contains (f x) y → Contains (flat_map f xs) y
in-flat f [] x y there inside = absurd (let low = there.1 in omega (arith, low))
in-flat f (first ∷ xs) x y there inside = by (λ more. in-flat f xs x y more inside) there.0 there.1 there.2 where
  by : (Contains xs x → Contains (flat_map f xs) y) → (k : ℕ) → k < length (first ∷ xs) → slice_index_or (first ∷ xs) k x ≡ x → Contains (flat_map f (first ∷ xs)) y
  by onward zero low is = Contains-append_left (f first) (flat_map f xs) y (subst (λ z. Contains (f z) y) (sym is) inside)
  by onward (suc k) low is = Contains-append_right (f first) (flat_map f xs) y (onward (k, omega (arith, low), is))

in-one : {X : Type 0} (x : X) → Contains (x ∷ []) x
in-one x = (0, omega arith, refl)

in-filter : {X : Type 0} (test : X → Bool) (xs : List X) (x : X) → test x ≡ true → Contains xs x → Contains (filter test xs) x
in-filter test [] x passing there = absurd (let low = there.1 in omega (arith, low))
in-filter test (first ∷ xs) x passing there = by (in-filter test xs x passing) there.0 there.1 there.2 where
  onward : (b : Bool) → Contains (filter test xs) x → Contains (cond b (first ∷ filter test xs) (filter test xs)) x
  onward true inside = Contains-append_right (first ∷ []) (filter test xs) x inside
  onward false inside = inside

  by : (Contains xs x → Contains (filter test xs) x) → (k : ℕ) → k < length (first ∷ xs) → slice_index_or (first ∷ xs) k x ≡ x → Contains (filter test (first ∷ xs)) x
  by more zero low is =
      subst (λ b. Contains (cond b (first ∷ filter test xs) (filter test xs)) x) (sym (ap test is ∙ passing))
      (0, omega arith, is)
  by more (suc k) low is = onward (test first) (more (k, omega (arith, low), is))

-- ---- each table once

record IsOnce (reads : List TableRead) (id : ℕ) : Type 0 where
  read : TableRead
  there : Contains reads read
  same : read.id ≡ id

abbrev apart_from : TableRead → TableRead → Bool
apart_from first r = not (nat_eq r.id first.id)

in-once : (reads : List TableRead) (read : TableRead) → Contains reads read → IsOnce (each_once reads) read.id
in-once [] read there = absurd (let low = there.1 in omega (arith, low))
in-once (first ∷ reads) read there = by (in-once reads read) there.0 there.1 there.2 where
  onward : (once : IsOnce (each_once reads) read.id) (b : Bool) → nat_eq once.read.id first.id ≡ b → IsOnce (first ∷ filter (apart_from first) (each_once reads)) read.id
  onward once true is = record { read = first; there = (0, omega arith, refl); same = sym (eqb-true once.read.id first.id is) ∙ once.same }
  onward once false is = record {
    read = once.read;
    there = Contains-append_right (first ∷ []) (filter (apart_from first) (each_once reads)) once.read (in-filter (apart_from first) (each_once reads) once.read (ap not is) once.there);
    same = once.same;
  }

  by : (Contains reads read → IsOnce (each_once reads) read.id) → (k : ℕ) → k < length (first ∷ reads) → slice_index_or (first ∷ reads) k read ≡ read → IsOnce (each_once (first ∷ reads)) read.id
  by more zero low is = record { read = first; there = (0, omega arith, refl); same = ap (λ (r : TableRead). r.id) is }
  by more (suc k) low is =
      let once = more (k, omega (arith, low), is) in onward once (nat_eq once.read.id first.id) refl

-- ---- what is kept of a table

abbrev as_kept : List ℕ × TableEntry → SourceVersion
as_kept e = record { table = e.0; id = e.1.id; version = e.1.version }

module _ (c : Contents) (sound : IsSound c) where
  drawn-by : (read : TableRead) (o : Option (List ℕ × TableEntry)) → entry_of_id c read.id ≡ o →
      All (IsDrawn c) (option_map_or (λ (e : List ℕ × TableEntry). as_kept e ∷ []) o [])
  drawn-by read None is = All-nil (IsDrawn c)
  drawn-by read (Some e) is =
      let held = found-named (λ (t : TableEntry). nat_eq t.id read.id) c.tables e sound.table_names is in
      let table = sound.tables e.0 e.1 held in
      All-cons (IsDrawn c) (as_kept e) [] (record { id = table.id; version = table.version }) (All-nil (IsDrawn c))

  unchanged-by : (read : TableRead) (o : Option (List ℕ × TableEntry)) → entry_of_id c read.id ≡ o →
      All (λ kept. is_unchanged c kept ≡ true) (option_map_or (λ (e : List ℕ × TableEntry). as_kept e ∷ []) o [])
  unchanged-by read None is = All-nil (λ kept. is_unchanged c kept ≡ true)
  unchanged-by read (Some e) is =
      All-cons (λ kept. is_unchanged c kept ≡ true) (as_kept e) []
      (ap (λ o. option_map_or (λ (f : List ℕ × TableEntry). nat_eq f.1.version e.1.version) o false) (ap (entry_of_id c) (entry-id c read.id e is) ∙ is)
      ∙ eq-eqb e.1.version e.1.version refl)
      (All-nil (λ kept. is_unchanged c kept ≡ true))

  same-table : (id : ℕ) (kinds : List Kind) (held : IsHeldTable c id kinds) (name : List ℕ) (table : TableEntry) → table_named c name ≡ Some table →
      table.id ≡ id → held.table ≡ table
  same-table id kinds held name table named same =
      let name_is : held.name ≡ name = sound.identities held.name name held.table table held.named named (held.id_is ∙ sym same) in
      same_Some held.table table (sym held.named ∙ ap (table_named c) name_is ∙ named)

  kept-table : (reads : List TableRead) (id : ℕ) (kinds : List Kind) → Contains reads (record { id = id; kinds = kinds }) → IsHeldTable c id kinds →
      IsKeptTable c (flat_map (kept_read c) (each_once reads)) id kinds
  kept-table reads id kinds there held =
      let once = in-once reads (record { id = id; kinds = kinds }) there in
      let found : entry_of_id c once.read.id ≡ Some (held.name, held.table) =
      has-entry c (are-apart c sound) once.read.id (record { name = held.name; table = held.table; is = held.named; id_is = held.id_is ∙ sym once.same }) in
      let kept : kept_read c once.read ≡ as_kept (held.name, held.table) ∷ [] =
      ap (λ o. option_map_or (λ (e : List ℕ × TableEntry). as_kept e ∷ []) o []) found in
      record {
        is_kept = record {
          table = as_kept (held.name, held.table);
          there = in-flat (kept_read c) (each_once reads) once.read (as_kept (held.name, held.table)) once.there
              (subst (λ l. Contains l (as_kept (held.name, held.table))) (sym kept) (in-one (as_kept (held.name, held.table))));
          same = held.id_is;
        };
        kinds_are = λ name table named same.
            ap (λ (t : TableEntry). column_kinds t.columns) (sym (same-table id kinds held name table named same)) ∙ held.kinds_are;
      }

  -- wherever a query reads the table it has the kinds that it has
  pub reads-as : (name : List ℕ) (table : TableEntry) (kinds : List Kind) (q : Query) → table_named c name ≡ Some table → kinds ≡ column_kinds table.columns →
      EachTable (IsHeldTable c) q → ReadsAs table.id kinds q
  reads-as name table kinds q named are held =
      each_table-kept (IsHeldTable c) (λ other own. other ≡ table.id → own ≡ kinds)
      (λ id own h same. sym h.kinds_are ∙ ap (λ (t : TableEntry). column_kinds t.columns) (same-table id own h name table named (sym same)) ∙ sym are) q held

  pub kept-fresh : (query : Query) (places : List ℕ) → IsFresh c (stored_of c query places)
  kept-fresh query places =
      all-pass (is_unchanged c) (kept_of c query)
      (all-flat (λ kept. is_unchanged c kept ≡ true) (kept_read c) (each_once (tables_read query)) (λ read. unchanged-by read (entry_of_id c read.id) refl))

  pub new-sound : (columns : List Column) (rows : Bag) (input : Query) (places : List ℕ) → WellFormed [] (ProvOf input) →
      EachTable (IsHeldTable c) (ProvOf input) → kinds_of (ProvOf input) ≡ column_kinds columns → PlacesWithin (length columns) places →
      SameRows (meaning (ProvOf input) (rows_in c.rows) []) (Good rows) → IsSoundStored c columns rows (stored_of c (ProvOf input) places)
  new-sound columns rows input places closed held kinds within same = record {
    input = input;
    asks = refl;
    closed = closed;
    kinds = kinds;
    places = within;
    drawn = all-flat (IsDrawn c) (kept_read c) (each_once (tables_read (ProvOf input))) (λ read. drawn-by read (entry_of_id c read.id) refl);
    reads =
        each_table-both _ (IsHeldTable c) (IsKeptTable c (kept_of c (ProvOf input))) (kept-table (tables_read (ProvOf input))) (ProvOf input)
        (reads_among-itself (ProvOf input)) held;
    holds = λ fresh. same;
  }
