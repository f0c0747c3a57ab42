-- A sound catalog stays sound where a view is added or dropped.
use Rattle.std.proofs.Common.{◌≡◌, ◌⊎◌, inl, inr, ℕ, Bool, cond, true, false, List, Option, Some, None, sym, ap, subst, ◌∙◌, arith, nat_eq, refl}
use Rattle.std.proofs.lemmas.Option.{same_Some}
use Rattle.std.specs.FinMap as map
use Rattle.std.specs.Cmp.Lexicographic.{pointwise}
use Rattle.perm_values.proofs.Steps.{none_is_some}
use Rattle.perm_catalog.specs.Changes.{table_named, view_named, is_free, with_view, without_view}
use Rattle.perm_catalog.specs.Contents.{Contents}
use Rattle.perm_catalog.specs.Sound.{IsSound, IsSoundTable, IsSoundView}
use Rattle.perm_catalog.specs.declared.entries.TableEntry.{TableEntry}
use Rattle.perm_catalog.specs.declared.entries.ViewEntry.{ViewEntry}
use Rattle.perm_catalog.proofs.Named.{AtName, Elsewhere, found, found-apart, named-last, named-without, distinct-last, distinct-without}
use Rattle.bag_algebra.specs.TableRows.{rows_in}
use Rattle.stored_provenance.proofs.Marks.{AreApart, Goes}
use Rattle.stored_provenance.proofs.Soundness.{are-apart, kept-table, kept-view, stays, free-table, free-view}

-- a table and a view of a catalog whose views alone change
same-goes : (c d : Contents) → d.next ≡ c.next → d.rows ≡ c.rows → ((q : List ℕ) → table_named d q ≡ table_named c q) → Goes c d
same-goes c d next rows tables = record {
  later = omega (arith, next);
  here = λ id version _ _ h. (
    record {
      held = record { name = h.held.name; table = h.held.table; is = sym (tables h.held.name) ∙ h.held.is; id_is = h.held.id_is };
      version_is = h.version_is;
    },
    λ i. rows_in (rows i) id,
  );
  was = λ q t h _. record { held = record { name = q; table = t; is = sym (tables q) ∙ h; id_is = refl }; kinds = refl };
}

same-table : (c d : Contents) (t : TableEntry) → AreApart c → AreApart d → d.next ≡ c.next → d.rows ≡ c.rows →
    ((q : List ℕ) → table_named d q ≡ table_named c q) → IsSoundTable c t → IsSoundTable d t
same-table c d t before after next rows tables =
    kept-table c d t before after (same-goes c d next rows tables) (λ i. map.get (rows i) t.id)

same-view : (c d : Contents) (v : ViewEntry) → ((q : List ℕ) → table_named d q ≡ table_named c q) → IsSoundView c v → IsSoundView d v
same-view c d v tables = kept-view c d v (λ q t used named. stays d q t (tables q ∙ named))

-- ---- a view added

module _ (c : Contents) (name : List ℕ) (view : ViewEntry) (s : IsSound c) (free : is_free c name ≡ true)
    (new : IsSoundView c view) where
  abbrev more : Contents
  more = with_view c name view

  abbrev Place : List ℕ → ViewEntry → Type 0
  Place q v = AtName (Some view) name q v ⊎ Elsewhere (view_named c q) name q v

  none : view_named c name ≡ None
  none = free-view (table_named c name) (view_named c name) free

  change : (q : List ℕ) → view_named more q ≡ cond (pointwise nat_eq name q) (Some view) (view_named c q)
  change q = named-last name q view c.views none

  place : (q : List ℕ) (v : ViewEntry) → view_named more q ≡ Some v → Place q v
  place q v h = found (Some view) (view_named c q) (view_named more q) name q v (change q) h

  view-sound : (q : List ℕ) (v : ViewEntry) → Place q v → IsSoundView more v
  view-sound q v (inl here) = subst (IsSoundView more) (same_Some view v here.is) (same-view c more view (λ n. refl) new)
  view-sound q v (inr else) = same-view c more v (λ n. refl) (s.views q v else.was)

  no-table : table_named c name ≡ None
  no-table = free-table (table_named c name) (view_named c name) free

  still-none : (q : List ℕ) (t : TableEntry) → table_named c q ≡ Some t → view_named more q ≡ None
  still-none q t h =
      found-apart (Some view) (view_named c q) (view_named more q) name q (change q)
      (λ e. none_is_some (sym no-table ∙ ap (table_named c) e ∙ h))
      ∙ s.apart q t h

  pub sound-more_views : IsSound more
  sound-more_views = record {
    table_names = s.table_names;
    view_names = distinct-last name view c.views none s.view_names;
    apart = still-none;
    identities = s.identities;
    tables = λ q t h. same-table c more t (are-apart c s) (record { names = s.table_names; identities = s.identities }) refl refl (λ n. refl) (s.tables q t h);
    views = λ q v h. view-sound q v (place q v h);
  }

-- ---- a view dropped

none-both : (b : Bool) (before : Option ViewEntry) → before ≡ None → cond b None before ≡ None
none-both true before h = refl
none-both false before h = h

module _ (c : Contents) (name : List ℕ) (s : IsSound c) where
  abbrev fewer : Contents
  fewer = without_view c name

  lack : (q : List ℕ) → view_named fewer q ≡ cond (pointwise nat_eq name q) None (view_named c q)
  lack q = named-without name q c.views s.view_names

  left-by : (q : List ℕ) (v : ViewEntry) → AtName None name q v ⊎ Elsewhere (view_named c q) name q v → view_named c q ≡ Some v
  left-by q v (inl here) = none_is_some here.is
  left-by q v (inr else) = else.was

  left : (q : List ℕ) (v : ViewEntry) → view_named fewer q ≡ Some v → view_named c q ≡ Some v
  left q v h = left-by q v (found None (view_named c q) (view_named fewer q) name q v (lack q) h)

  pub sound-dropped_view : IsSound fewer
  sound-dropped_view = record {
    table_names = s.table_names;
    view_names = distinct-without name c.views s.view_names;
    apart = λ q t h. lack q ∙ none-both (pointwise nat_eq name q) (view_named c q) (s.apart q t h);
    identities = s.identities;
    tables = λ q t h. same-table c fewer t (are-apart c s) (record { names = s.table_names; identities = s.identities }) refl refl (λ n. refl) (s.tables q t h);
    views = λ q v h. same-view c fewer v (λ n. refl) (s.views q v (left q v h));
  }
