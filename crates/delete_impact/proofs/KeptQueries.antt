-- What a monotone query keeps after a deletion: the rows that have a witness list without a doomed row.
use Rattle.std.proofs.Common.{◌≡◌, ℕ, inl, inr, Bool, true, false, cond, not, ◌==◌, ◌&&◌, List, [], ◌∷◌, ◌++◌, filter, length, Option, refl, sym, ap, ◌∙◌, subst, subst₂, append-nil}
use mathlib.Core.Bool.{true≢false}
use Rattle.std.proofs.lemmas.List.FromFn.{fill_by_all}
use Rattle.perm_values.specs.Rows.{picked, value_at, bag_fits, row_fits}
use Rattle.perm_values.specs.declared.kind.Kind.{Kind}
use Rattle.perm_values.specs.declared.value.Value.TheVariants.{Null}
use Rattle.bag_algebra.proofs.Members.{IsIn, from-filter, in-filter}
use Rattle.bag_algebra.proofs.Outcomes.{same_good}
use Rattle.bag_algebra.proofs.Truths.{left-true, right-true, or_false}
use Rattle.bag_algebra.specs.Bags.{Row, Bag}
use Rattle.bag_algebra.specs.Fits.{TablesFit}
use Rattle.bag_algebra.specs.Kinds.{shape, width_of}
use Rattle.bag_algebra.specs.Meaning.{Database, denote, sub_denote, meaning, condition_on, items_on}
use Rattle.bag_algebra.specs.Means.{Means, SubMeans, Held, Witness, all_empty, no_subs, good_rows, filter_means, project_means, join_means}
use Rattle.bag_algebra.specs.Outcome.{Outcome, Good}
use Rattle.bag_algebra.specs.Scoped.{no_subs as without_sublinks}
use Rattle.bag_algebra.specs.built.Patterns.{BaseOf, FilterOf, ProjectOf, JoinOf, ApplyOf, UnionOf, IntersectOf, ExceptOf, DistinctOf, AggregateOf, LimitOf, ProvOf}
use Rattle.bag_algebra.specs.declared.expr.Expr.{Expr}
use Rattle.bag_algebra.specs.declared.expr.Item.{Item}
use Rattle.bag_algebra.specs.declared.query.JoinKind.TheVariants.{Inner, Left, Right, Full}
use Rattle.bag_algebra.specs.declared.query.Label.{Label}
use Rattle.bag_algebra.specs.declared.query.Query.{Query, Row_of-Sublink, more_of-Sublink, end_of-Sublink}
use Rattle.bag_algebra.specs.declared.query.Query.TheVariants.{Table, Single}
use Rattle.contribution.proofs.RowKinds.{row_fits-length}
use Rattle.contribution.proofs.SetsOfRows.{below_good}
use Rattle.query_facts.specs.monotone.Monotone.{are_all_places, is_monotone, is_relation, is_whole_table}
use Rattle.query_facts.proofs.AllPlaces.{all_places-decides}
use Rattle.query_facts.proofs.Nodes.{whole_table-is}
use Rattle.delete_impact.specs.vanishing.Doomed.{is_doomed, after_deletion, is_over, places_over, sub_places_over, has_doomed}
use Rattle.delete_impact.proofs.KeptNodes.{Kept, Sparing, made_lists, inner_lists, kept_good, kept_bad, kept-node, kept-filter, kept-project, kept-join, kept-union, kept-distinct}
use Rattle.delete_impact.proofs.Spared.{empty-spared, length-empty, as_many_places}

module _ (id : ℕ) (condition : Option Expr) (db : Database) (env : List Row) where
  abbrev later : Database
  later = after_deletion id condition db

  -- ---- a table

  pub all_of_row : (t : Row) (kinds : List Kind) (places : List ℕ) → are_all_places (length kinds) places ≡ true → row_fits t kinds ≡ true → picked places t ≡ t
  all_of_row t kinds places all fits =
      ap (λ ps. picked ps t) ((all_places-decides (length kinds) places).0 all)
      ∙ sym (fill_by_all (value_at t) t (length kinds) Null (row_fits-length t kinds fits) (λ k h. refl))

  fits-in : (us : Bag) (kinds : List Kind) (t : Row) → bag_fits us kinds ≡ true → IsIn t us → row_fits t kinds ≡ true
  fits-in [] kinds t fits h = absurd h
  fits-in (u ∷ us) kinds t fits (inl same) = subst (λ r. row_fits r kinds ≡ true) same (left-true (row_fits u kinds) (bag_fits us kinds) fits)
  fits-in (u ∷ us) kinds t fits (inr h) = fits-in us kinds t (right-true (row_fits u kinds) (bag_fits us kinds) fits) h

  not-true : (b : Bool) → not b ≡ true → b ≡ false
  not-true true e = absurd (true≢false (sym e))
  not-true false e = refl

  not-false : (b : Bool) → b ≡ false → not b ≡ true
  not-false true e = absurd (true≢false e)
  not-false false e = refl

  -- a row is left where it isn't doomed
  left-over : (over : Bool) (us : Bag) (t : Row) → IsIn t (cond over (filter (λ u. not (is_doomed condition u)) us) us) → IsIn t us × ((over && is_doomed condition t) ≡ false)
  left-over true us t h = let found = from-filter (λ u. not (is_doomed condition u)) t us h in (found.0, not-true (is_doomed condition t) found.1)
  left-over false us t h = (h, refl)

  stays-over : (over : Bool) (us : Bag) (t : Row) → IsIn t us → (over && is_doomed condition t) ≡ false → IsIn t (cond over (filter (λ u. not (is_doomed condition u)) us) us)
  stays-over true us t h e = in-filter (λ u. not (is_doomed condition u)) t us h (not-false (is_doomed condition t) e)
  stays-over false us t h e = h

  kept-source : (other : ℕ) (kinds : List Kind) (places : List ℕ) (label : Label) → are_all_places (length kinds) places ≡ true → bag_fits (db other) kinds ≡ true →
      Kept condition ((other == id) ∷ []) (denote (BaseOf (Table other kinds) places label) db env).lists (meaning (BaseOf (Table other kinds) places label) db env)
      (meaning (BaseOf (Table other kinds) places label) later env)
  kept-source other kinds places label all fits =
      let held : Row → Witness = λ t. Held (picked places t) ∷ [] in
      let same : (t : Row) → IsIn t (db other) → picked places t ≡ t = λ t h. all_of_row t kinds places all (fits-in (db other) kinds t fits h) in
      kept-node condition ((other == id) ∷ []) (Good (db other)) (Good (later other)) (λ t. held t ∷ []) (λ t. held t ∷ [])
      (below_good (record { within = λ t h. (left-over (other == id) (db other) t h).0 })) (λ us vs e f. record {
        there = λ t h.
            let found = left-over (other == id) (db other) t (subst (IsIn t) (sym (same_good _ _ f)) h) in
            (held t, inl refl, or_false _ ∙ ap (λ r. (other == id) && is_doomed condition r) (same t found.0) ∙ found.1);
        back = λ t w h i clean.
            let here = subst (IsIn t) (sym (same_good _ _ e)) h in
            let w-is : held t ≡ w = elim i [ inl is ↦ is | inr none ↦ absurd none ] in
            subst (IsIn t) (same_good _ _ f) (stays-over (other == id) (db other) t here
            (ap (λ r. (other == id) && is_doomed condition r) (sym (same t here)) ∙ sym (or_false _) ∙ ap (has_doomed condition ((other == id) ∷ [])) w-is ∙ clean));
        long = λ t w h i. elim i [ inl is ↦ ap length (sym is) | inr none ↦ absurd none ];
      })

  -- ---- queries

  -- ---- nodes, which have no sublinks

  none-denoted : {m : _} (subs : Row_of-Sublink m) (rows : Database) → without_sublinks subs ≡ true → no_subs ≡ sub_denote subs rows env
  none-denoted end_of-Sublink rows e = refl
  none-denoted (more_of-Sublink kind tested query subs) rows e = absurd (true≢false (sym e))

  places-alone : {m : _} (ps : List Bool) (subs : Row_of-Sublink m) → without_sublinks subs ≡ true → ps ≡ ps ++ sub_places_over id subs
  places-alone ps end_of-Sublink e = sym (append-nil ps)
  places-alone ps (more_of-Sublink kind tested query subs) e = absurd (true≢false (sym e))

  abbrev KeptOf : List Bool → Means → Means → Type 0
  KeptOf places m n = Kept condition places m.lists m.rows n.rows

  kept-over : (input : Query) (places : List ℕ) (label : Label) → ((other : ℕ) × (kinds : List Kind) × (input ≡ Table other kinds)) → is_whole_table input places ≡ true →
      TablesFit db input → KeptOf (is_over id input ∷ []) (denote (BaseOf input places label) db env) (denote (BaseOf input places label) later env)
  kept-over input places label table =
      subst (λ source. is_whole_table source places ≡ true → TablesFit db source → KeptOf (is_over id source ∷ []) (denote (BaseOf source places label) db env) (denote (BaseOf source places label) later env))
      (sym table.2) (kept-source table.0 table.1 places label)

  filter-case : {m : _} (input : Query) (test : Expr) (subs : Row_of-Sublink m) → without_sublinks subs ≡ true → KeptOf (places_over id input) (denote input db env) (denote input later env) →
      KeptOf (places_over id input ++ sub_places_over id subs)
      (filter_means (condition_on test env (sub_denote subs db env)) (sub_denote subs db env).contributions (denote input db env))
      (filter_means (condition_on test env (sub_denote subs later env)) (sub_denote subs later env).contributions (denote input later env))
  filter-case input test subs none k =
      let of : SubMeans → Database → Means = λ s rows. filter_means (condition_on test env s) s.contributions (denote input rows env) in
      subst (λ places. KeptOf places (of (sub_denote subs db env) db) (of (sub_denote subs later env) later)) (places-alone (places_over id input) subs none)
      (subst₂ (λ s r. KeptOf (places_over id input) (of s db) (of r later)) (none-denoted subs db none) (none-denoted subs later none)
      (kept-filter condition (condition_on test env no_subs) (places_over id input) (denote input db env).lists (denote input later env).lists
      (meaning input db env) (meaning input later env) k))

  project-case : {m : _} (input : Query) (items : List Item) (subs : Row_of-Sublink m) → without_sublinks subs ≡ true → KeptOf (places_over id input) (denote input db env) (denote input later env) →
      KeptOf (places_over id input ++ sub_places_over id subs)
      (project_means (items_on items env (sub_denote subs db env)) (sub_denote subs db env).contributions (denote input db env))
      (project_means (items_on items env (sub_denote subs later env)) (sub_denote subs later env).contributions (denote input later env))
  project-case input items subs none k =
      let of : SubMeans → Database → Means = λ s rows. project_means (items_on items env s) s.contributions (denote input rows env) in
      subst (λ places. KeptOf places (of (sub_denote subs db env) db) (of (sub_denote subs later env) later)) (places-alone (places_over id input) subs none)
      (subst₂ (λ s r. KeptOf (places_over id input) (of s db) (of r later)) (none-denoted subs db none) (none-denoted subs later none)
      (kept-project condition (items_on items env no_subs) (places_over id input) (denote input db env).lists
      (made_lists condition (items_on items env no_subs) (denote input later env).lists (good_rows (meaning input later env)))
      (meaning input db env) (meaning input later env) k))

  join-case : {m : _} (left right : Query) (test : Expr) (subs : Row_of-Sublink m) → without_sublinks subs ≡ true → KeptOf (places_over id left) (denote left db env) (denote left later env) →
      KeptOf (places_over id right) (denote right db env) (denote right later env) →
      KeptOf (places_over id left ++ places_over id right ++ sub_places_over id subs)
      (join_means Inner (condition_on test env (sub_denote subs db env)) (sub_denote subs db env).contributions
      (record { left = all_empty (shape left); right = all_empty (shape right); subs = (sub_denote subs db env).blank }) (width_of left) (width_of right) (denote left db env) (denote right db env))
      (join_means Inner (condition_on test env (sub_denote subs later env)) (sub_denote subs later env).contributions
      (record { left = all_empty (shape left); right = all_empty (shape right); subs = (sub_denote subs later env).blank }) (width_of left) (width_of right) (denote left later env) (denote right later env))
  join-case left right test subs none k j =
      let of : SubMeans → Database → Means = λ s rows.
      join_means Inner (condition_on test env s) s.contributions (record { left = all_empty (shape left); right = all_empty (shape right); subs = s.blank })
      (width_of left) (width_of right) (denote left rows env) (denote right rows env) in
      let on = condition_on test env no_subs in
      let ps = places_over id left in
      let qs = places_over id right in
      subst (λ places. KeptOf places (of (sub_denote subs db env) db) (of (sub_denote subs later env) later)) (places-alone (ps ++ qs) subs none)
      (subst₂ (λ s r. KeptOf (ps ++ qs) (of s db) (of r later)) (none-denoted subs db none) (none-denoted subs later none)
      (kept-join condition on ps qs (denote left db env).lists (denote right db env).lists (width_of left) (width_of right)
      (inner_lists condition on ps qs (denote left later env).lists (denote right later env).lists (good_rows (meaning left later env)) (good_rows (meaning right later env)))
      (meaning left db env) (meaning left later env) (meaning right db env) (meaning right later env) k j))

  empty-long : (q : Query) → length (all_empty (shape q)) ≡ length (places_over id q)
  empty-long q = length-empty (shape q) ∙ as_many_places id q

  pub kept-query : (q : Query) → is_monotone q ≡ true → TablesFit db q → Kept condition (places_over id q) (denote q db env).lists (meaning q db env) (meaning q later env)
  kept-query (Table other kinds) m fits = absurd (true≢false (sym m))
  kept-query Single m fits =
      kept-node condition [] (Good ([] ∷ [])) (Good ([] ∷ [])) (λ t. [] ∷ []) (λ t. [] ∷ []) (below_good (record { within = λ t h. h })) (λ us vs e f. record {
        there = λ t h. ([], inl refl, refl);
        back = λ t w h i clean. subst (IsIn t) (sym (same_good _ _ e) ∙ same_good _ _ f) h;
        long = λ t w h i. elim i [ inl is ↦ ap length (sym is) | inr none ↦ absurd none ];
      })
  kept-query (BaseOf input places label) m fits =
      let whole = right-true (is_relation label) (is_whole_table input places) m in
      kept-over input places label (whole_table-is input places whole) whole fits
  kept-query (FilterOf input test _ subs) m fits =
      let none = left-true (without_sublinks subs) (is_monotone input) m in
      filter-case input test subs none (kept-query input (right-true (without_sublinks subs) (is_monotone input) m) fits.0)
  kept-query (ProjectOf input items _ subs) m fits =
      let none = left-true (without_sublinks subs) (is_monotone input) m in
      project-case input items subs none (kept-query input (right-true (without_sublinks subs) (is_monotone input) m) fits.0)
  kept-query (JoinOf Inner left right test _ subs) m fits =
      let none = left-true (without_sublinks subs) (is_monotone left && is_monotone right) m in
      let sides = right-true (without_sublinks subs) (is_monotone left && is_monotone right) m in
      join-case left right test subs none (kept-query left (left-true (is_monotone left) (is_monotone right) sides) fits.0)
      (kept-query right (right-true (is_monotone left) (is_monotone right) sides) fits.1)
  kept-query (JoinOf Left left right test _ subs) m fits = absurd (true≢false (sym m))
  kept-query (JoinOf Right left right test _ subs) m fits = absurd (true≢false (sym m))
  kept-query (JoinOf Full left right test _ subs) m fits = absurd (true≢false (sym m))
  kept-query (ApplyOf kind left right) m fits = absurd (true≢false (sym m))
  kept-query (UnionOf all left right) m fits =
      kept-union condition all (places_over id left) (places_over id right) (all_empty (shape left)) (all_empty (shape right)) (empty-long left) (empty-long right)
      (empty-spared condition (places_over id left) (shape left)) (empty-spared condition (places_over id right) (shape right)) (denote left db env).lists (denote right db env).lists
      _ (meaning left db env) (meaning left later env) (meaning right db env) (meaning right later env)
      (kept-query left (left-true (is_monotone left) (is_monotone right) m) fits.0) (kept-query right (right-true (is_monotone left) (is_monotone right) m) fits.1)
  kept-query (IntersectOf all left right) m fits = absurd (true≢false (sym m))
  kept-query (ExceptOf all left right) m fits = absurd (true≢false (sym m))
  kept-query (DistinctOf input) m fits =
      kept-distinct condition (places_over id input) (denote input db env).lists _ (meaning input db env) (meaning input later env) (kept-query input m fits)
  kept-query (AggregateOf input groups aggregates) m fits = absurd (true≢false (sym m))
  kept-query (LimitOf input keys count) m fits = absurd (true≢false (sym m))
  kept-query (ProvOf input) m fits = absurd (true≢false (sym m))

-- ---- where the query is good

pub record KeptRows (condition : Option Expr) (places : List Bool) (lists : Row → List Witness) (us : Bag) (left : Outcome Bag) : Type 0 where
  pub rows : Bag
  pub good : left ≡ Good rows
  pub fewer : (t : Row) → IsIn t rows → IsIn t us
  pub sparing : Sparing condition places lists rows

pub kept-rows : (condition : Option Expr) (places : List Bool) (lists : Row → List Witness) (o left : Outcome Bag) (us : Bag) → o ≡ Good us → Kept condition places lists o left →
    KeptRows condition places lists us left
kept-rows condition places lists _ _ us e (kept_good {us = all} {vs} s k) =
    record { rows = vs; good = refl; fewer = λ t h. subst (IsIn t) (same_good _ _ e) (s.within t h); sparing = k }
kept-rows condition places lists _ _ us e (kept_bad f left) = absurd (cc e)
