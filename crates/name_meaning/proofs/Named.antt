-- The tables that a query of a view reads are held under names that the view notes.
use Rattle.std.proofs.Common.{◌≡◌, ℕ, Bool, true, false, ◌||◌, nat_eq, List, [], ◌∷◌, ◌++◌, Some, refl, subst}
use Rattle.std.proofs.lemmas.Bool.{or_left, or_right}
use Rattle.std.proofs.lemmas.List.Elements.{All-contains, All-weaker, All-contains_itself}
use Rattle.std.specs.Cmp.Lexicographic.{pointwise, slice_cmp, nat_list_eq_equiv}
use Rattle.std.specs.FinMap.{nat_cmp-IsAntisymmetric, slice_cmp-IsAntisymmetric}
use Rattle.std.specs.List.{All, Contains, list_any}
use Rattle.std.specs.Ordering.{nat_cmp}
use Rattle.std.specs.declared.cmp.Ordering.{Ordering}
use Rattle.std.specs.declared.cmp.Ordering.TheVariants.{Less, Equal, Greater}
use Rattle.perm_values.specs.declared.kind.Kind.{Kind}
use Rattle.bag_algebra.proofs.TablesRead.{each_table-told, each_table-from_told}
use Rattle.bag_algebra.specs.TablesRead.{tables_read, EachTable}
use Rattle.perm_catalog.specs.Changes.{table_named}
use Rattle.perm_catalog.specs.Columns.{column_kinds}
use Rattle.perm_catalog.specs.Contents.{Contents}
use Rattle.perm_catalog.specs.Sound.{IsSound, IsSoundView, IsHeldRead}
use Rattle.perm_catalog.specs.declared.entries.TableEntry.{TableEntry}
use Rattle.perm_catalog.specs.declared.entries.ViewEntry.{ViewEntry}
use Rattle.sql_tree.specs.declared.query.QueryTree.{QueryTree}
use Rattle.name_meaning.specs.Meanings.{QueryMeant, query_means_at}
use Rattle.name_meaning.specs.Statements.{alone, all_noted, noted, query_meant, view_entry}
use Rattle.name_meaning.proofs.ReadFroms.{IsHeld}
use Rattle.name_meaning.proofs.ReadNodes.{Grows}
use Rattle.name_meaning.proofs.ReadTrees.{reads-query_tree}

-- ---- names, each noted once

or-kept : (b x y : Bool) → (x ≡ true → y ≡ true) → (b || x) ≡ true → (b || y) ≡ true
or-kept true x y keeps h = refl
or-kept false x y keeps h = keeps h

module _ (name : List ℕ) where
  abbrev Among : List (List ℕ) → Type 0
  Among names = list_any (pointwise nat_eq name) names ≡ true

  among-append-left : (a b : List (List ℕ)) → Among a → Among (a ++ b)
  among-append-left [] b h = absurd (cc h)
  among-append-left (x ∷ a) b h =
      or-kept (pointwise nat_eq name x) (list_any (pointwise nat_eq name) a) (list_any (pointwise nat_eq name) (a ++ b)) (among-append-left a b) h

  among-append-right : (a b : List (List ℕ)) → Among b → Among (a ++ b)
  among-append-right [] b h = h
  among-append-right (x ∷ a) b h = or_right (pointwise nat_eq name x) (list_any (pointwise nat_eq name) (a ++ b)) (among-append-right a b h)

  noted-new : (other : List ℕ) (names : List (List ℕ)) → pointwise nat_eq name other ≡ true → Among (noted other names)
  noted-new other [] h = or_left (pointwise nat_eq name other) false h
  noted-new other (first ∷ names) h = by (slice_cmp nat_cmp other first) (noted-new other names h) refl where
    by : (o : Ordering) → Among (noted other names) → slice_cmp nat_cmp other first ≡ o
        → Among (elim o [ Less ↦ other ∷ first ∷ names | Equal ↦ first ∷ names | Greater ↦ first ∷ noted other names ])
    by Less later e = or_left (pointwise nat_eq name other) (list_any (pointwise nat_eq name) (first ∷ names)) h
    by Equal later e = or_left (pointwise nat_eq name first) (list_any (pointwise nat_eq name) names)
        (subst (λ (n : List ℕ). pointwise nat_eq name n ≡ true) (slice_cmp-IsAntisymmetric nat_cmp-IsAntisymmetric other first e) h)
    by Greater later e = or_right (pointwise nat_eq name first) (list_any (pointwise nat_eq name) (noted other names)) later

  noted-old : (other : List ℕ) (names : List (List ℕ)) → Among names → Among (noted other names)
  noted-old other [] h = absurd (cc h)
  noted-old other (first ∷ names) h = by (slice_cmp nat_cmp other first) (noted-old other names) where
    by : (o : Ordering) → (Among names → Among (noted other names))
        → Among (elim o [ Less ↦ other ∷ first ∷ names | Equal ↦ first ∷ names | Greater ↦ first ∷ noted other names ])
    by Less later = or_right (pointwise nat_eq name other) (list_any (pointwise nat_eq name) (first ∷ names)) h
    by Equal later = h
    by Greater later = or-kept (pointwise nat_eq name first) (list_any (pointwise nat_eq name) names) (list_any (pointwise nat_eq name) (noted other names)) later h

  all_noted-among : (names : List (List ℕ)) → Among names → Among (all_noted names)
  all_noted-among [] h = h
  all_noted-among (first ∷ names) h = split (pointwise nat_eq name first) (all_noted-among names) refl h where
    split : (b : Bool) → (Among names → Among (all_noted names)) → pointwise nat_eq name first ≡ b → (b || list_any (pointwise nat_eq name) names) ≡ true
        → Among (noted first (all_noted names))
    split true later e found = noted-new first (all_noted names) e
    split false later e found = noted-old first (all_noted names) (later found)

-- ---- tables that are held under one of the names

record IsNamedRead (c : Contents) (names : List (List ℕ)) (id : ℕ) (kinds : List Kind) : Type 0 where
  name : List ℕ
  table : TableEntry
  named : table_named c name ≡ Some table
  same : table.id ≡ id
  of_kinds : column_kinds table.columns ≡ kinds
  used : list_any (pointwise nat_eq name) names ≡ true

named-grows : (c : Contents) → Grows (IsNamedRead c)
named-grows c = record {
  left = λ a b id kinds h. record { name = h.name; table = h.table; named = h.named; same = h.same; of_kinds = h.of_kinds; used = among-append-left h.name a b h.used };
  right = λ a b id kinds h. record { name = h.name; table = h.table; named = h.named; same = h.same; of_kinds = h.of_kinds; used = among-append-right h.name a b h.used };
}

module _ (c : Contents) (sound : IsSound c) where
  named-held : IsHeld (IsNamedRead c) (named-grows c) c
  named-held = record {
    tables = λ name table e. record {
      name = name;
      table = table;
      named = e;
      same = refl;
      of_kinds = refl;
      used = or_left (pointwise nat_eq name name) false (nat_list_eq_equiv.refl name);
    };
    views = λ name view e.
        let v : IsSoundView c view = sound.views name view e in
        each_table-from_told (IsNamedRead c (name ∷ view.names_used)) view.answer.query
        (λ r among.
        let h : IsHeldRead c view r = All-contains (IsHeldRead c view) (tables_read view.answer.query) r v.reads among in
        record {
          name = h.name;
          table = h.table;
          named = h.named;
          same = h.id;
          of_kinds = h.kinds;
          used = or_right (pointwise nat_eq h.name name) (list_any (pointwise nat_eq h.name) view.names_used) h.used;
        });
  }

  -- what a view is made to reads tables that it names
  pub view-reads : (tree : QueryTree) → All (IsHeldRead c (view_entry (query_meant c tree))) (tables_read (view_entry (query_meant c tree)).answer.query)
  unfolding query_means_at
  view-reads tree =
      let m : QueryMeant = query_meant c tree in
      let view : ViewEntry = view_entry m in
      let reads : EachTable (IsNamedRead c m.inside.names) (m.make []) = reads-query_tree (IsNamedRead c) (named-grows c) c named-held tree alone [] in
      All-weaker (Contains (tables_read (m.make []))) (IsHeldRead c view)
      (λ r among.
      let h : IsNamedRead c m.inside.names r.id r.kinds = each_table-told (IsNamedRead c m.inside.names) (m.make []) reads r among in
      record {
        name = h.name;
        table = h.table;
        named = h.named;
        id = h.same;
        kinds = h.of_kinds;
        used = all_noted-among h.name m.inside.names h.used;
      })
      (tables_read (m.make [])) (All-contains_itself (tables_read (m.make [])))
