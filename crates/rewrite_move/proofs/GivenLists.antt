-- The lists that a query gives, whatever its rows are: projections, DISTINCT and groups give those of their inputs.
use Rattle.std.proofs.Common.{◌≡◌, ℕ, inl, inr, List, [], ◌∷◌, ◌++◌, map, filter, take, length, refl, sym, ap, ◌∙◌, subst}
use Rattle.std.proofs.lemmas.List.{nil_from_length}
use Rattle.std.specs.List.{flat_map}
use Rattle.perm_values.specs.Rows.{same_row, picked}
use Rattle.perm_values.specs.ValueLaws.{row_decides}
use Rattle.bag_algebra.proofs.Columns.{in-with_lists, from-with_lists}
use Rattle.bag_algebra.proofs.Members.{IsIn, in-map, in-flat_map, from-flat_map, in-filter}
use Rattle.bag_algebra.proofs.Outcomes.{both-is, mapped-is, same_good, each-long}
use Rattle.bag_algebra.specs.Bags.{Row, Bag, once}
use Rattle.bag_algebra.specs.Means.{Means, Witness, with_lists, gives, good_row, good_rows, project_means, distinct_means, aggregate_means, aggregates_of, class_keys, class_of, class_row, class_lists, grouped}
use Rattle.bag_algebra.specs.Outcome.{Outcome, Good, Bad, and_then, mapped, each}
use Rattle.bag_algebra.specs.declared.query.AggFn.{AggFn}
use Rattle.contribution.proofs.BagMembers.{in-once}
use Rattle.contribution.proofs.Classes.{take-picked}
use Rattle.contribution.proofs.NoRowLost.{gives-good}
use Rattle.query_laws.proofs.Items.{each-in}

-- a list of some row, or the all-empty one where there is no row
pub data Given (m : Means) (blank c : Witness) : Type 0 where
  of_row : (v : Row) → IsIn c (m.lists v) → Given m blank c
  of_none : m.rows ≡ Good [] → blank ≡ c → Given m blank c

-- the one gives what the other gives
pub record GiveAlike (m n : Means) (blank : Witness) : Type 0 where
  pub there : (c : Witness) → Given m blank c → Given n blank c
  pub back : (c : Witness) → Given n blank c → Given m blank c

-- ---- lists

some-item : {X Y : Type 0} (f : X → Outcome Y) (xs : List X) (ys : List Y) (x : X) → each f xs ≡ Good ys → IsIn x xs → (y : Y) × (f x ≡ Good y)
some-item f [] ys x e h = absurd h
some-item f (z ∷ xs) ys x e h =
    let parts = both-is (λ y ys. y ∷ ys) (f z) (each f xs) ys e in
    elim h [
      | inl same ↦ (parts.0, ap f (sym same) ∙ parts.2)
      | inr later ↦ some-item f xs parts.1 x parts.3 later
    ]

empty-is : {X : Type 0} (xs : List X) → xs ≡ [] → (x : X) → IsIn x xs → ⊥
empty-is xs e x h = subst (IsIn x) e h

-- ---- nodes over an input that is good, where lists are those of its rows

module _ (m : Means) (blank : Witness) (us : Bag) (input : m.rows ≡ Good us) (within : (t : Row) (w : Witness) → IsIn w (m.lists t) → IsIn t us) where
  -- what is made of these lists has the rows of the bag
  module _ (n : Means) (bag : Bag) (lists : Row → List Witness) (is : n ≡ with_lists (Good bag) lists) where
    listed-in : (t : Row) (c : Witness) → IsIn t bag → IsIn c (lists t) → IsIn c (n.lists t)
    listed-in t c here h = subst (λ (p : Means). IsIn c (p.lists t)) (sym is) (in-with_lists bag lists t c here h)

    listed-from : (t : Row) (c : Witness) → IsIn c (n.lists t) → IsIn c (lists t)
    listed-from t c h = (from-with_lists bag lists t c (subst (λ (p : Means). IsIn c (p.lists t)) is h)).1

    rows-are : n.rows ≡ Good bag
    rows-are = ap (λ (p : Means). p.rows) is

    no-row : n.rows ≡ Good [] → bag ≡ []
    no-row e = same_good bag [] (sym rows-are ∙ e)

    none-there : bag ≡ [] → n.rows ≡ Good []
    none-there e = rows-are ∙ ap Good e

  -- ---- projections

  module _ (items : Row → Outcome Row) (bag : Bag) (good : each items us ≡ Good bag) where
    abbrev projected : Means
    projected = project_means items (λ u. []) m

    abbrev made_from : Row → List Witness
    made_from t = flat_map (λ u. m.lists u) (filter (λ u. gives t (items u)) us)

    projected-is : projected ≡ with_lists (Good bag) made_from
    projected-is =
        (λ i. with_lists (and_then (input i) (each items)) (λ t. flat_map (λ u. m.lists u) (filter (λ u. gives t (items u)) (good_rows (input i)))))
        ∙ ap (λ o. with_lists o made_from) good

    projected-there : (c : Witness) → Given projected blank c → Given m blank c
    projected-there c (of_row t h) =
        let origin = from-flat_map (λ u. m.lists u) c (filter (λ u. gives t (items u)) us) (listed-from projected bag made_from projected-is t c h) in
        of_row origin.0 origin.2
    projected-there c (of_none e b) =
        of_none (input ∙ ap Good (nil_from_length us (sym (each-long items us bag good) ∙ ap length (no-row projected bag made_from projected-is e)))) b

    projected-back : (c : Witness) → Given m blank c → Given projected blank c
    projected-back c (of_row u h) =
        let found = some-item items us bag u good (within u c h) in
        of_row found.0 (listed-in projected bag made_from projected-is found.0 c (each-in items us bag u found.0 good (within u c h) found.1)
        (in-flat_map (λ u. m.lists u) c u (filter (λ u. gives found.0 (items u)) us)
        (in-filter (λ u. gives found.0 (items u)) u us (within u c h) (gives-good found.0 (items u) found.1)) h))
    projected-back c (of_none e b) =
        of_none (none-there projected bag made_from projected-is (nil_from_length bag (each-long items us bag good ∙ ap length (same_good us [] (sym input ∙ e))))) b

    pub projection-gives : GiveAlike projected m blank
    projection-gives = record { there = projected-there; back = projected-back }

  -- ---- DISTINCT

  distinct-is : distinct_means m ≡ with_lists (Good (once us)) m.lists
  distinct-is = ap (λ o. with_lists (mapped once o) m.lists) input

  once-none : (rows : Bag) → once rows ≡ [] → rows ≡ []
  once-none [] e = refl
  once-none (u ∷ rows) e = absurd (empty-is (once (u ∷ rows)) e u (inl refl))

  distinct-there : (c : Witness) → Given (distinct_means m) blank c → Given m blank c
  distinct-there c (of_row t h) = of_row t (listed-from (distinct_means m) (once us) m.lists distinct-is t c h)
  distinct-there c (of_none e b) = of_none (input ∙ ap Good (once-none us (no-row (distinct_means m) (once us) m.lists distinct-is e))) b

  distinct-back : (c : Witness) → Given m blank c → Given (distinct_means m) blank c
  distinct-back c (of_row t h) = of_row t (listed-in (distinct_means m) (once us) m.lists distinct-is t c (in-once t us (within t c h)) h)
  distinct-back c (of_none e b) =
      of_none (none-there (distinct_means m) (once us) m.lists distinct-is (ap once (same_good us [] (sym input ∙ e)))) b

  pub distinct-gives : GiveAlike (distinct_means m) m blank
  distinct-gives = record { there = distinct-there; back = distinct-back }

  -- ---- groups

  module _ (groups : List ℕ) (functions : List AggFn) (arguments : Row → Outcome Row) (bag : Bag) (good : grouped groups functions arguments us ≡ Good bag) where
    abbrev groups_of : Means
    groups_of = aggregate_means groups functions arguments blank m

    groups-are : groups_of ≡ with_lists (Good bag) (class_lists groups blank m us)
    groups-are =
        (λ i. with_lists (and_then (input i) (grouped groups functions arguments)) (class_lists groups blank m (good_rows (input i))))
        ∙ ap (λ o. with_lists o (class_lists groups blank m us)) good

    classes-good : each (class_row groups functions arguments us) (class_keys groups us) ≡ Good bag
    classes-good = after (each arguments us) good where
      after : {X : Type 0} (o : Outcome X) → and_then o (λ _. each (class_row groups functions arguments us) (class_keys groups us)) ≡ Good bag →
          each (class_row groups functions arguments us) (class_keys groups us) ≡ Good bag
      after (Good x) e = e
      after (Bad faults) e = absurd (cc e)

    key-there : (keys : List ℕ) (u : Row) → IsIn u us → IsIn (picked keys u) (class_keys keys us)
    key-there [] u h = inl refl
    key-there (key ∷ keys) u h = in-once (picked (key ∷ keys) u) (map (picked (key ∷ keys)) us) (in-map (picked (key ∷ keys)) u us h)

    -- the row of a row's class
    class-there : (u : Row) → IsIn u us → (t : Row) × IsIn t bag × (picked groups u ≡ take (length groups) t)
    class-there u h =
        let key = key-there groups u h in
        let row = some-item (class_row groups functions arguments us) (class_keys groups us) bag (picked groups u) classes-good key in
        let made = mapped-is (λ vs. picked groups u ++ vs) (aggregates_of functions 0 (map (λ u. good_row (arguments u)) (class_of groups (picked groups u) us))) row.0 row.1 in (
          row.0,
          each-in (class_row groups functions arguments us) (class_keys groups us) bag (picked groups u) row.0 classes-good key row.1,
          sym (take-picked groups u made.0) ∙ ap (take (length groups)) made.2,
        )

    -- where the input has a row, so has the answer
    rows-where_rows : bag ≡ [] → us ≡ []
    rows-where_rows e = by_rows us refl where
      by_rows : (rows : Bag) → us ≡ rows → us ≡ []
      by_rows [] is = is
      by_rows (u ∷ rows) is = let row = class-there u (subst (IsIn u) (sym is) (inl refl)) in absurd (empty-is bag e row.0 row.1)

    from-class : (c : Witness) (t : Row) (rows : Bag) → us ≡ rows → IsIn c (class_lists groups blank m rows t) → Given m blank c
    from-class c t [] is (inl e) = of_none (input ∙ ap Good is) e
    from-class c t [] is (inr h) = absurd h
    from-class c t (u ∷ rows) is h = let origin = from-flat_map m.lists c (class_of groups (take (length groups) t) (u ∷ rows)) h in of_row origin.0 origin.2

    groups-there : (c : Witness) → Given groups_of blank c → Given m blank c
    groups-there c (of_row t h) = from-class c t us refl (listed-from groups_of bag (class_lists groups blank m us) groups-are t c h)
    groups-there c (of_none e b) = of_none (input ∙ ap Good (rows-where_rows (no-row groups_of bag (class_lists groups blank m us) groups-are e))) b

    in-class : (c : Witness) (t u : Row) (rows : Bag) → IsIn u rows → picked groups u ≡ take (length groups) t → IsIn c (m.lists u) → IsIn c (class_lists groups blank m rows t)
    in-class c t u [] h key i = absurd h
    in-class c t u (x ∷ rows) h key i =
        in-flat_map m.lists c u (class_of groups (take (length groups) t) (x ∷ rows))
        (in-filter (λ v. same_row (picked groups v) (take (length groups) t)) u (x ∷ rows) h ((row_decides _ _).1 key)) i

    -- without a row there is one class without groups, and none with them
    no-class : (c : Witness) → us ≡ [] → blank ≡ c → (keys : List ℕ) → groups ≡ keys → Given groups_of blank c
    no-class c none b [] is =
        let there : IsIn [] (class_keys groups us) = subst (λ keys. IsIn [] (class_keys keys us)) (sym is) (inl refl) in
        let row = some-item (class_row groups functions arguments us) (class_keys groups us) bag [] classes-good there in
        of_row row.0 (listed-in groups_of bag (class_lists groups blank m us) groups-are row.0 c
        (each-in (class_row groups functions arguments us) (class_keys groups us) bag [] row.0 classes-good there row.1)
        (subst (λ rows. IsIn c (class_lists groups blank m rows row.0)) (sym none) (inl b)))
    no-class c none b (key ∷ keys) is =
        of_none (none-there groups_of bag (class_lists groups blank m us) groups-are
        (nil_from_length bag (each-long (class_row groups functions arguments us) (class_keys groups us) bag classes-good ∙ (λ i. length (class_keys (is i) (none i)))))) b

    groups-back : (c : Witness) → Given m blank c → Given groups_of blank c
    groups-back c (of_row u h) =
        let row = class-there u (within u c h) in
        of_row row.0 (listed-in groups_of bag (class_lists groups blank m us) groups-are row.0 c row.1 (in-class c row.0 u us (within u c h) row.2 h))
    groups-back c (of_none e b) = no-class c (same_good us [] (sym input ∙ e)) b groups refl

    pub groups-give : GiveAlike groups_of m blank
    groups-give = record { there = groups-there; back = groups-back }
