-- What a change of the catalog leaves of the table or the view that it speaks of, and of all others.
use Rattle.std.proofs.Common.{◌≡◌, ◌≢◌, ◌∙◌, ℕ, Bool, true, cond, List, [], ◌++◌, Option, Some, None, is_some, refl, sym, ap, arith, nat_eq}
use Rattle.std.specs.Cmp.Lexicographic.{pointwise}
use Rattle.std.specs.FinMap as map
use Rattle.std.specs.FinMap.{FinMap}
use Rattle.std.specs.Option.{option_map, option_map_or, unwrap_or}
use Rattle.std.specs.Ordering.{nat_cmp}
use Rattle.perm_values.specs.Marked.{unmarked}
use Rattle.bag_algebra.specs.Bags.{Bag}
use Rattle.perm_catalog.proofs.Named.{found-apart, found-here, named-changed, named-last, named-without}
use Rattle.perm_catalog.specs.Changes.{is_free, renewed, rows_at, rows_with, rows_without, table_named, view_named, with_fewer_rows, with_rows_of, with_table, with_view, without_table, without_view}
use Rattle.perm_catalog.specs.Contents.{Contents}
use Rattle.perm_catalog.specs.Sound.{IsSound}
use Rattle.perm_catalog.specs.declared.column.Column.{Column}
use Rattle.perm_catalog.specs.declared.entries.TableEntry.{TableEntry}
use Rattle.perm_catalog.specs.declared.entries.ViewEntry.{ViewEntry}
use Rattle.stored_provenance.proofs.HeldRows.{get-put, get-put_apart, get-removed_apart}
use Rattle.stored_provenance.proofs.Soundness.{free-table, free-view}
use Rattle.statement_meaning.specs.Turns.{identity_of, with_added}
use Rattle.statement_meaning.specs.laws.Freshened.{StoresNothing}
use Rattle.perm_engine.specs.meaning.headline.Changes.{HasRowsThen, KeepsTables, KeepsViews, columns_at, rows_of}

-- ---- rows by name

-- the rows of a table that is there
rows-there : (c : Contents) (name : List ℕ) (entry : TableEntry) → table_named c name ≡ Some entry → rows_of c name ≡ rows_at c entry.id
rows-there c name entry is = ap (λ (o : Option TableEntry). option_map_or (λ (e : TableEntry). rows_at c e.id) o []) is

identity-is : (c : Contents) (name : List ℕ) (entry : TableEntry) → table_named c name ≡ Some entry → identity_of c name ≡ entry.id
identity-is c name entry is = ap (λ (o : Option TableEntry). option_map_or (λ (e : TableEntry). e.id) o 0) is

-- by the identity that the name finds
pub rows-named : (c : Contents) (name : List ℕ) (entry : TableEntry) → table_named c name ≡ Some entry → rows_at c (identity_of c name) ≡ rows_of c name
rows-named c name entry is = ap (rows_at c) (identity-is c name entry is) ∙ sym (rows-there c name entry is)

-- a table that stays has its rows where its identity has
rows-kept : (c after : Contents) (name : List ℕ) → table_named after name ≡ table_named c name
    → ((entry : TableEntry) → table_named c name ≡ Some entry → rows_at after entry.id ≡ rows_at c entry.id) → rows_of after name ≡ rows_of c name
rows-kept c after name same held =
    ap (λ (o : Option TableEntry). option_map_or (λ (e : TableEntry). rows_at after e.id) o []) same ∙ by (table_named c name) refl where
      by : (o : Option TableEntry) → table_named c name ≡ o
          → option_map_or (λ (e : TableEntry). rows_at after e.id) o [] ≡ option_map_or (λ (e : TableEntry). rows_at c e.id) o []
      by None is = refl
      by (Some entry) is = held entry is

-- where the tables of other names stay, and the rows of all identities but this one
keeps-tables : (name : List ℕ) (c after : Contents) (put : Option TableEntry) (id : ℕ)
    → ((other : List ℕ) → table_named after other ≡ cond (pointwise nat_eq name other) put (table_named c other))
    → ((other : List ℕ) (entry : TableEntry) → other ≢ name → table_named c other ≡ Some entry → entry.id ≢ id)
    → ((other : ℕ) → other ≢ id → map.get after.rows other ≡ map.get c.rows other) → KeepsTables name c after
keeps-tables name c after put id change apart rows =
    let stays : (other : List ℕ) → other ≢ name → table_named after other ≡ table_named c other =
    (λ other elsewhere. found-apart put (table_named c other) (table_named after other) name other (change other) (λ same. elsewhere (sym same))) in
    record {
      tables = stays;
      rows = λ other elsewhere. rows-kept c after other (stays other elsewhere)
          (λ entry is. ap (λ (o : Option Bag). unwrap_or o []) (rows entry.id (apart other entry elsewhere is)));
    }

module _ (c : Contents) (sound : IsSound c) (name : List ℕ) where
  -- ---- a new table

  module _ (columns : List Column) (free : is_free c name ≡ true) where
    abbrev made : TableEntry
    made = record { id = c.next; version = c.next; columns = columns; stored = None }

    abbrev with_new : Contents
    with_new = with_table c name columns [] None

    change-new : (other : List ℕ) → table_named with_new other ≡ cond (pointwise nat_eq name other) (Some made) (table_named c other)
    change-new other = named-last name other made c.tables (free-table (table_named c name) (view_named c name) free)

    new-there : table_named with_new name ≡ Some made
    new-there = found-here (Some made) (table_named c name) (table_named with_new name) name name (change-new name) refl

    pub new-nothing : StoresNothing name with_new
    new-nothing = record { table = made; named = new-there; nothing = refl }

    pub new-columns : columns_at with_new name ≡ Some columns
    new-columns = ap (λ (o : Option TableEntry). option_map (λ (e : TableEntry). e.columns) o) new-there

    pub new-rows : rows_of with_new name ≡ []
    new-rows = rows-there with_new name made new-there ∙ ap (λ (o : Option Bag). unwrap_or o []) (get-put c.rows c.next [])

    pub new-others : KeepsTables name c with_new
    new-others =
        keeps-tables name c with_new (Some made) c.next change-new
        (λ other entry elsewhere is e. let below = (sound.tables other entry is).id in absurd (omega (arith, below, e)))
        (λ other elsewhere. get-put_apart c.rows c.next [] other elsewhere)

  -- ---- a table that is there

  module _ (entry : TableEntry) (is : table_named c name ≡ Some entry) where
    apart-from : (other : List ℕ) (beside : TableEntry) → other ≢ name → table_named c other ≡ Some beside → beside.id ≢ entry.id
    apart-from other beside elsewhere there e = elsewhere (sound.identities other name beside entry there is e)

    -- it has other rows
    module _ (rows : FinMap nat_cmp Bag) (bag : Bag) (put : rows ≡ map.insert c.rows entry.id bag) where
      abbrev newer : TableEntry
      newer = renewed c.next entry

      abbrev later : Contents
      later = with_rows_of c name rows

      change-rows : (other : List ℕ) → table_named later other ≡ cond (pointwise nat_eq name other) (Some newer) (table_named c other)
      change-rows other = named-changed (renewed c.next) name other entry c.tables is

      newer-there : table_named later name ≡ Some newer
      newer-there = found-here (Some newer) (table_named c name) (table_named later name) name name (change-rows name) refl

      has-rows : HasRowsThen name bag c later
      has-rows = record {
        known = ap is_some is;
        rows_are = rows-there later name newer newer-there
            ∙ ap (λ (m : FinMap nat_cmp Bag). unwrap_or (map.get m entry.id) []) put ∙ ap (λ (o : Option Bag). unwrap_or o []) (get-put c.rows entry.id bag);
        columns = ap (λ (o : Option TableEntry). option_map (λ (e : TableEntry). e.columns) o) newer-there
            ∙ sym (ap (λ (o : Option TableEntry). option_map (λ (e : TableEntry). e.columns) o) is);
        nothing = record { table = newer; named = newer-there; nothing = refl };
        others = keeps-tables name c later (Some newer) entry.id change-rows apart-from
            (λ other elsewhere. ap (λ (m : FinMap nat_cmp Bag). map.get m other) put ∙ get-put_apart c.rows entry.id bag other elsewhere);
        views = refl;
      }

    -- more of them
    pub has-added : (added : Bag) → HasRowsThen name (rows_of c name ++ added) c (with_added c name added)
    has-added added =
        has-rows (rows_with c.rows (identity_of c name) added) (rows_of c name ++ added)
        (ap (λ (id : ℕ). rows_with c.rows id added) (identity-is c name entry is)
        ∙ ap (λ (rows : Bag). map.insert c.rows entry.id (rows ++ added)) (sym (rows-there c name entry is)))

    -- fewer of them
    pub has-left : (doomed : List Bool) → HasRowsThen name (unmarked doomed (rows_of c name)) c (with_fewer_rows c name (identity_of c name) doomed)
    has-left doomed =
        let held = sound.tables name entry is in
        has-rows (rows_without c.rows (identity_of c name) doomed) (unmarked doomed (rows_of c name))
        (ap (λ (id : ℕ). rows_without c.rows id doomed) (identity-is c name entry is)
        ∙ ap (λ (o : Option Bag). option_map_or (λ (rows : Bag). map.insert c.rows entry.id (unmarked doomed rows)) o c.rows) held.held
        ∙ ap (λ (rows : Bag). map.insert c.rows entry.id (unmarked doomed rows))
        (sym (rows-there c name entry is ∙ ap (λ (o : Option Bag). unwrap_or o []) held.held)))

    -- it is taken away
    abbrev fewer : Contents
    fewer = without_table c name (identity_of c name)

    change-fewer : (other : List ℕ) → table_named fewer other ≡ cond (pointwise nat_eq name other) None (table_named c other)
    change-fewer other = named-without name other c.tables sound.table_names

    pub table-gone : table_named fewer name ≡ None
    table-gone = found-here None (table_named c name) (table_named fewer name) name name (change-fewer name) refl

    pub table-others : KeepsTables name c fewer
    table-others =
        keeps-tables name c fewer None entry.id change-fewer apart-from
        (λ other elsewhere. get-removed_apart c.rows (identity_of c name) other (λ e. elsewhere (e ∙ identity-is c name entry is)))

  -- ---- views

  module _ (entry : ViewEntry) (free : is_free c name ≡ true) where
    change-view : (other : List ℕ) → view_named (with_view c name entry) other ≡ cond (pointwise nat_eq name other) (Some entry) (view_named c other)
    change-view other = named-last name other entry c.views (free-view (table_named c name) (view_named c name) free)

    pub view-there : view_named (with_view c name entry) name ≡ Some entry
    view-there = found-here (Some entry) (view_named c name) (view_named (with_view c name entry) name) name name (change-view name) refl

    pub views-beside : KeepsViews name c (with_view c name entry)
    views-beside other elsewhere =
        found-apart (Some entry) (view_named c other) (view_named (with_view c name entry) other) name other (change-view other) (λ same. elsewhere (sym same))

  change-gone : (other : List ℕ) → view_named (without_view c name) other ≡ cond (pointwise nat_eq name other) None (view_named c other)
  change-gone other = named-without name other c.views sound.view_names

  pub view-gone : view_named (without_view c name) name ≡ None
  view-gone = found-here None (view_named c name) (view_named (without_view c name) name) name name (change-gone name) refl

  pub views-left : KeepsViews name c (without_view c name)
  views-left other elsewhere =
      found-apart None (view_named c other) (view_named (without_view c name) other) name other (change-gone other) (λ same. elsewhere (sym same))
