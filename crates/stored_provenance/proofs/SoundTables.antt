-- A sound catalog stays sound where a table is created, gets other rows, or is dropped.
use mathlib.Core.Bool.{true≢false}
use Rattle.std.proofs.Common.{◌≡◌, ◌≢◌, ◌⊎◌, inl, inr, ℕ, ◌<◌, Bool, true, false, cond, List, [], ◌++◌, Option, Some, None, refl, sym, ap, subst, ◌∙◌, arith, nat_eq}
use Rattle.std.proofs.lemmas.Option.{same_Some}
use Rattle.std.specs.Prelude.{IfSome}
use Rattle.std.specs.Cmp.Lexicographic.{pointwise}
use Rattle.std.specs.FinMap as map
use Rattle.std.specs.FinMap.{FinMap}
use Rattle.std.specs.List.{IsDistinct}
use Rattle.std.specs.Option.{option_map_or, unwrap_or}
use Rattle.std.specs.Ordering.{nat_cmp}
use Rattle.perm_values.specs.Marked.{unmarked}
use Rattle.perm_values.proofs.Steps.{none_is_some}
use Rattle.bag_algebra.specs.Bags.{Bag}
use Rattle.bag_algebra.specs.Fits.{bag_fits}
use Rattle.bag_algebra.specs.TableRows.{rows_in}
use Rattle.perm_catalog.specs.Changes.{named, table_named, view_named, is_free, renewed, with_table, with_rows_of, with_more_rows, with_fewer_rows, without_table}
use Rattle.perm_catalog.specs.Columns.{column_kinds}
use Rattle.perm_catalog.specs.Contents.{Contents}
use Rattle.perm_catalog.specs.Lookups.{uses_name, first_user}
use Rattle.perm_catalog.specs.Sound.{IsSound, IsSoundTable, IsNewTable}
use Rattle.perm_catalog.specs.Stored.{IsSoundStored}
use Rattle.perm_catalog.specs.declared.column.Column.{Column}
use Rattle.perm_catalog.specs.declared.entries.StoredQuery.{StoredQuery}
use Rattle.perm_catalog.specs.declared.entries.TableEntry.{TableEntry}
use Rattle.perm_catalog.specs.declared.entries.ViewEntry.{ViewEntry}
use Rattle.stored_provenance.proofs.HeldRows.{get-put, get-put_apart, get-removed_apart, fits-append, fits-unmarked}
use Rattle.perm_catalog.proofs.Named.{AtName, Elsewhere, found, found-apart, found-here, same-or-not, named-changed, named-last, named-without, keys-changed, distinct-last, distinct-without}
use Rattle.stored_provenance.proofs.Marks.{AreApart, IsHere, Was, Goes, stored-goes}
use Rattle.stored_provenance.proofs.Soundness.{are-apart, kept-table, kept-view, Kept, stays, free-table, free-view, unused}

-- ---- a new table

module _ (c : Contents) (name : List ℕ) (columns : List Column) (rows : Bag) (stored : Option StoredQuery) (s : IsSound c)
    (free : is_free c name ≡ true) (new : IsNewTable columns rows) (marked : IfSome stored (IsSoundStored c columns rows)) where
  abbrev made : TableEntry
  made = record { id = c.next; version = c.next; columns = columns; stored = stored }

  abbrev after : Contents
  after = with_table c name columns rows stored

  none : table_named c name ≡ None
  none = free-table (table_named c name) (view_named c name) free

  change : (q : List ℕ) → table_named after q ≡ cond (pointwise nat_eq name q) (Some made) (table_named c q)
  change q = named-last name q made c.tables none

  abbrev Place : List ℕ → TableEntry → Type 0
  Place q t = AtName (Some made) name q t ⊎ Elsewhere (table_named c q) name q t

  place : (q : List ℕ) (t : TableEntry) → table_named after q ≡ Some t → Place q t
  place q t h = found (Some made) (table_named c q) (table_named after q) name q t (change q) h

  old-below : (q : List ℕ) (t : TableEntry) → table_named c q ≡ Some t → t.id < c.next
  old-below q t h = (s.tables q t h).id

  apart : (n : List ℕ) (t u : TableEntry) → made ≡ t → table_named c n ≡ Some u → t.id ≡ u.id → ⊥
  apart n t u is was e =
      let below = old-below n u was in
      let new_id : c.next ≡ t.id = ap (λ (x : TableEntry). x.id) is in
      omega (arith, below, new_id, e)

  ids-differ : (n m : List ℕ) (t u : TableEntry) → Place n t → Place m u → t.id ≡ u.id → n ≡ m
  ids-differ n m t u (inl p) (inl q) e = sym p.here ∙ q.here
  ids-differ n m t u (inl p) (inr q) e = absurd (apart m t u (same_Some made t p.is) q.was e)
  ids-differ n m t u (inr p) (inl q) e = absurd (apart n u t (same_Some made u q.is) p.was (sym e))
  ids-differ n m t u (inr p) (inr q) e = s.identities n m t u p.was q.was e

  after-apart : AreApart after
  after-apart = record {
    names = distinct-last name made c.tables none s.table_names;
    identities = λ n m t u h k e. ids-differ n m t u (place n t h) (place m u k) e;
  }

  rows-apart : (id : ℕ) → id < c.next → rows_in after.rows id ≡ rows_in c.rows id
  rows-apart id low = ap (λ o. unwrap_or o []) (get-put_apart c.rows c.next rows id (λ e. absurd (omega (arith, e, low))))

  was-here : (id : ℕ) → id < c.next → (name' : List ℕ) (t : TableEntry) → Place name' t → t.id ≡ id → table_named c name' ≡ Some t
  was-here id low q t (inl here) e =
      let new_id : c.next ≡ t.id = ap (λ (x : TableEntry). x.id) (same_Some made t here.is) in absurd (omega (arith, low, new_id, e))
  was-here id low q t (inr else) e = else.was

  goes-on : Goes c after
  goes-on = record {
    later = omega arith;
    here = λ id version low _ h.
        let t = h.held in (
          record {
            held = record { name = t.name; table = t.table; is = was-here id low t.name t.table (place t.name t.table t.is) t.id_is; id_is = t.id_is };
            version_is = h.version_is;
          },
          rows-apart id low,
        );
    was = λ q t h low. record {
      held = record { name = q; table = t; is = was-here t.id low q t (place q t h) refl; id_is = refl };
      kinds = refl;
    };
  }

  made-sound : IsSoundTable after made
  made-sound = record {
    id = omega arith;
    version = omega arith;
    columns = new.columns_are;
    rows = rows;
    held = get-put c.rows c.next rows;
    fitting = new.fitting;
    stored = stored-goes c after (are-apart c s) after-apart goes-on columns rows stored marked;
  }

  table-sound : (q : List ℕ) (t : TableEntry) → Place q t → IsSoundTable after t
  table-sound q t (inl here) = subst (IsSoundTable after) (same_Some made t here.is) made-sound
  table-sound q t (inr else) =
      let below = old-below q t else.was in
      kept-table c after t (are-apart c s) after-apart goes-on (get-put_apart c.rows c.next rows t.id (λ e. absurd (omega (arith, e, below))))
      (s.tables q t else.was)

  names-apart : (q : List ℕ) (t : TableEntry) → Place q t → view_named c q ≡ None
  names-apart q t (inl here) = sym (ap (view_named c) here.here) ∙ free-view (table_named c name) (view_named c name) free
  names-apart q t (inr else) = s.apart q t else.was

  other-name : (q : List ℕ) (t : TableEntry) → table_named c q ≡ Some t → name ≢ q
  other-name q t h e = none_is_some (sym none ∙ ap (table_named c) e ∙ h)

  keeps : (q : List ℕ) (t : TableEntry) → table_named c q ≡ Some t → Kept after q t
  keeps q t h = stays after q t (found-apart (Some made) (table_named c q) (table_named after q) name q (change q) (other-name q t h) ∙ h)

  pub sound-created : IsSound after
  sound-created = record {
    table_names = after-apart.names;
    view_names = s.view_names;
    apart = λ q t h. names-apart q t (place q t h);
    identities = after-apart.identities;
    tables = λ q t h. table-sound q t (place q t h);
    views = λ q v h. kept-view c after v (λ n t used is. keeps n t is) (s.views q v h);
  }

-- ---- other rows of a table

module _ (c : Contents) (name : List ℕ) (table : TableEntry) (rows : FinMap nat_cmp Bag) (bag : Bag) (s : IsSound c)
    (is : table_named c name ≡ Some table) (put : rows ≡ map.insert c.rows table.id bag)
    (fit : bag_fits bag (column_kinds table.columns) ≡ true) where
  abbrev newer : TableEntry
  newer = renewed c.next table

  abbrev later : Contents
  later = with_rows_of c name rows

  turn : (q : List ℕ) → table_named later q ≡ cond (pointwise nat_eq name q) (Some newer) (table_named c q)
  turn q = named-changed (renewed c.next) name q table c.tables is

  abbrev Spot : List ℕ → TableEntry → Type 0
  Spot q t = AtName (Some newer) name q t ⊎ Elsewhere (table_named c q) name q t

  spot : (q : List ℕ) (t : TableEntry) → table_named later q ≡ Some t → Spot q t
  spot q t h = found (Some newer) (table_named c q) (table_named later q) name q t (turn q) h

  newer-sound : IsSoundTable later newer
  newer-sound =
      let below = (s.tables name table is).id in
      record {
        id = omega (arith, below);
        version = omega arith;
        columns = (s.tables name table is).columns;
        rows = bag;
        held = ap (λ (m : FinMap nat_cmp Bag). map.get m table.id) put ∙ get-put c.rows table.id bag;
        fitting = fit;
        stored = tt;
      }

  other-id : (q : List ℕ) (t : TableEntry) → name ≢ q → table_named c q ≡ Some t → t.id ≢ table.id
  other-id q t elsewhere h e = elsewhere (s.identities name q table t is h (sym e))

  -- the identities are those of before
  same-ids : (n m : List ℕ) (t u : TableEntry) → Spot n t → Spot m u → t.id ≡ u.id → n ≡ m
  same-ids n m t u (inl p) (inl q) e = sym p.here ∙ q.here
  same-ids n m t u (inl p) (inr q) e =
      sym p.here ∙ s.identities name m table u is q.was (ap (λ (x : TableEntry). x.id) (same_Some newer t p.is) ∙ e)
  same-ids n m t u (inr p) (inl q) e =
      s.identities n name t table p.was is (e ∙ sym (ap (λ (x : TableEntry). x.id) (same_Some newer u q.is))) ∙ q.here
  same-ids n m t u (inr p) (inr q) e = s.identities n m t u p.was q.was e

  later-apart : AreApart later
  later-apart = record {
    names = subst (IsDistinct (pointwise nat_eq)) (sym (keys-changed (renewed c.next) name table c.tables is)) s.table_names;
    identities = λ n m t u h k e. same-ids n m t u (spot n t h) (spot m u k) e;
  }

  elsewhere-rows : (id : ℕ) → id ≢ table.id → rows_in later.rows id ≡ rows_in c.rows id
  elsewhere-rows id apart =
      ap (λ o. unwrap_or o []) (ap (λ (m : FinMap nat_cmp Bag). map.get m id) put ∙ get-put_apart c.rows table.id bag id apart)

  still-here : (id version : ℕ) → version < c.next → (h : IsHere later id version) → Spot h.held.name h.held.table →
      IsHere c id version × (rows_in later.rows id ≡ rows_in c.rows id)
  still-here id version low h (inl here) =
      let new : c.next ≡ h.held.table.version = ap (λ (x : TableEntry). x.version) (same_Some newer h.held.table here.is) in
      let e = h.version_is in
      absurd (omega (arith, low, new, e))
  still-here id version low h (inr else) = (
    record { held = record { name = h.held.name; table = h.held.table; is = else.was; id_is = h.held.id_is }; version_is = h.version_is },
    elsewhere-rows id (λ e. other-id h.held.name h.held.table else.apart else.was (h.held.id_is ∙ e)),
  )

  was-there : (q : List ℕ) (t : TableEntry) → Spot q t → Was c t
  was-there q t (inl here) =
      let same = same_Some newer t here.is in
      record {
        held = record { name = name; table = table; is = is; id_is = ap (λ (x : TableEntry). x.id) same };
        kinds = ap (λ (x : TableEntry). column_kinds x.columns) same;
      }
  was-there q t (inr else) = record { held = record { name = q; table = t; is = else.was; id_is = refl }; kinds = refl }

  goes-later : Goes c later
  goes-later = record {
    later = omega arith;
    here = λ id version _ low h. still-here id version low h (spot h.held.name h.held.table h.held.is);
    was = λ q t h _. was-there q t (spot q t h);
  }

  spot-sound : (q : List ℕ) (t : TableEntry) → Spot q t → IsSoundTable later t
  spot-sound q t (inl here) = subst (IsSoundTable later) (same_Some newer t here.is) newer-sound
  spot-sound q t (inr else) =
      kept-table c later t (are-apart c s) later-apart goes-later
      (ap (λ (m : FinMap nat_cmp Bag). map.get m t.id) put ∙ get-put_apart c.rows table.id bag t.id (other-id q t else.apart else.was))
      (s.tables q t else.was)

  still-apart : (q : List ℕ) (t : TableEntry) → Spot q t → view_named c q ≡ None
  still-apart q t (inl here) = sym (ap (view_named c) here.here) ∙ s.apart name table is
  still-apart q t (inr else) = s.apart q t else.was

  still : (q : List ℕ) (t : TableEntry) → table_named c q ≡ Some t → (name ≡ q) ⊎ (name ≢ q) → Kept later q t
  still q t h (inl here) =
      let old : table ≡ t = same_Some table t (sym is ∙ ap (table_named c) here ∙ h) in
      record {
        now = newer;
        is = found-here (Some newer) (table_named c q) (table_named later q) name q (turn q) here;
        id = ap (λ (x : TableEntry). x.id) old;
        columns = ap (λ (x : TableEntry). x.columns) old;
      }
  still q t h (inr elsewhere) =
      stays later q t (found-apart (Some newer) (table_named c q) (table_named later q) name q (turn q) elsewhere ∙ h)

  pub sound-other_rows : IsSound later
  sound-other_rows = record {
    table_names = later-apart.names;
    view_names = s.view_names;
    apart = λ q t h. still-apart q t (spot q t h);
    identities = later-apart.identities;
    tables = λ q t h. spot-sound q t (spot q t h);
    views = λ q v h. kept-view c later v (λ n t used named. still n t named (same-or-not name n)) (s.views q v h);
  }

pub sound-more_rows : (c : Contents) (name : List ℕ) (table : TableEntry) (rows : Bag) → IsSound c → table_named c name ≡ Some table →
    bag_fits rows (column_kinds table.columns) ≡ true → IsSound (with_more_rows c name table.id rows)
sound-more_rows c name table rows s is fit =
    let t = s.tables name table is in
    let held : rows_in c.rows table.id ≡ t.rows = ap (λ o. unwrap_or o []) t.held in
    sound-other_rows c name table _ (t.rows ++ rows) s is
    (ap (λ bag. map.insert c.rows table.id (bag ++ rows)) held) (fits-append t.rows rows (column_kinds table.columns) t.fitting fit)

pub sound-fewer_rows : (c : Contents) (name : List ℕ) (table : TableEntry) (doomed : List Bool) → IsSound c →
    table_named c name ≡ Some table → IsSound (with_fewer_rows c name table.id doomed)
sound-fewer_rows c name table doomed s is =
    let t = s.tables name table is in
    sound-other_rows c name table _ (unmarked doomed t.rows) s is
    (ap (λ o. option_map_or (λ rows. map.insert c.rows table.id (unmarked doomed rows)) o c.rows) t.held)
    (fits-unmarked doomed t.rows (column_kinds table.columns) t.fitting)

-- ---- a table dropped

module _ (c : Contents) (name : List ℕ) (table : TableEntry) (s : IsSound c) (is : table_named c name ≡ Some table)
    (none : first_user c name ≡ None) where
  abbrev fewer : Contents
  fewer = without_table c name table.id

  lack : (q : List ℕ) → table_named fewer q ≡ cond (pointwise nat_eq name q) None (table_named c q)
  lack q = named-without name q c.tables s.table_names

  left-by : (q : List ℕ) (t : TableEntry) → AtName None name q t ⊎ Elsewhere (table_named c q) name q t → Elsewhere (table_named c q) name q t
  left-by q t (inl here) = none_is_some here.is
  left-by q t (inr else) = else

  left : (q : List ℕ) (t : TableEntry) → table_named fewer q ≡ Some t → Elsewhere (table_named c q) name q t
  left q t h = left-by q t (found None (table_named c q) (table_named fewer q) name q t (lack q) h)

  left-apart : AreApart fewer
  left-apart = record {
    names = distinct-without name c.tables s.table_names;
    identities = λ n m t u h k e. s.identities n m t u (left n t h).was (left m u k).was e;
  }

  left-here : (id version : ℕ) → IsHere fewer id version → IsHere c id version × (rows_in fewer.rows id ≡ rows_in c.rows id)
  left-here id version h =
      let else = left h.held.name h.held.table h.held.is in (
        record { held = record { name = h.held.name; table = h.held.table; is = else.was; id_is = h.held.id_is }; version_is = h.version_is },
        ap (λ o. unwrap_or o [])
            (get-removed_apart c.rows table.id id (λ e. else.apart (s.identities name h.held.name table h.held.table is else.was (sym (h.held.id_is ∙ e))))),
      )

  goes-left : Goes c fewer
  goes-left = record {
    later = omega arith;
    here = λ id version _ _ h. left-here id version h;
    was = λ q t h _. record { held = record { name = q; table = t; is = (left q t h).was; id_is = refl }; kinds = refl };
  }

  left-sound : (q : List ℕ) (t : TableEntry) → Elsewhere (table_named c q) name q t → IsSoundTable fewer t
  left-sound q t else =
      kept-table c fewer t (are-apart c s) left-apart goes-left
      (get-removed_apart c.rows table.id t.id (λ e. else.apart (s.identities name q table t is else.was (sym e))))
      (s.tables q t else.was)

  used-apart : (view : ViewEntry) (q : List ℕ) → uses_name view name ≡ false → uses_name view q ≡ true → name ≢ q
  used-apart view q unnamed used e = absurd (true≢false (sym used ∙ ap (uses_name view) (sym e) ∙ unnamed))

  reads-left : (n : List ℕ) (view : ViewEntry) (q : List ℕ) (t : TableEntry) → view_named c n ≡ Some view → uses_name view q ≡ true →
      table_named c q ≡ Some t → Kept fewer q t
  reads-left n view q t h used named =
      stays fewer q t
      (found-apart None (table_named c q) (table_named fewer q) name q (lack q) (used-apart view q (unused c name n view none h) used) ∙ named)

  pub sound-dropped_table : IsSound fewer
  sound-dropped_table = record {
    table_names = left-apart.names;
    view_names = s.view_names;
    apart = λ q t h. s.apart q t (left q t h).was;
    identities = left-apart.identities;
    tables = λ q t h. left-sound q t (left q t h);
    views = λ n v h. kept-view c fewer v (λ q t used named. reads-left n v q t h used named) (s.views n v h);
  }
