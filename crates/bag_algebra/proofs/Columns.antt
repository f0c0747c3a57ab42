-- PROVENANCE of some columns of a source over a table is the distinct rows of these columns beside the source's.
use Rattle.std.proofs.Common.{◌≡◌, ℕ, inl, inr, Bool, true, false, cond, List, [], ◌∷◌, ◌++◌, map, filter, refl, sym, ap, ◌∙◌, subst, append-nil}
use Rattle.std.specs.List.{flat_map}
use mathlib.Core.Bool.{true≢false}
use Rattle.perm_values.specs.Rows.{picked, value_at}
use Rattle.perm_values.specs.ValueLaws.{row_decides}
use Rattle.perm_values.specs.declared.kind.Kind.{Kind}
use Rattle.bag_algebra.proofs.BagLaws.{once-same_members}
use Rattle.bag_algebra.proofs.Members.{IsIn, in-map, from-map, in-flat_map, from-flat_map, in-filter, from-filter, in-member, member-in, same_members}
use Rattle.bag_algebra.specs.ColumnItems.{column_items}
use Rattle.bag_algebra.specs.Bags.{Row, Bag, SameBag, once, member}
use Rattle.bag_algebra.specs.Meaning.{Database, denote, meaning, items_on}
use Rattle.bag_algebra.specs.Means.{Means, Held, Witness, flat, gives, with_lists, with_witnesses, no_subs, base_means, unlisted_means, project_means, provenance_means}
use Rattle.bag_algebra.specs.Outcome.{Outcome, Good, each, both, mapped}
use Rattle.bag_algebra.specs.built.Patterns.{BaseOf, ProjectOf, DistinctOf, ProvOf}
use Rattle.bag_algebra.specs.declared.query.Label.{Label}
use Rattle.bag_algebra.specs.declared.query.Query.{end_of-Sublink}
use Rattle.bag_algebra.specs.declared.query.Query.TheVariants.{Table}
use Rattle.bag_algebra.specs.built.Openings.{rows-with_lists}

-- column items are good on every row and give the row's values there
pub column_items-give : (kinds : List Kind) (places : List ℕ) (env : List Row) (u : Row) →
    items_on (column_items kinds places) env no_subs u ≡ Good (picked places u)
column_items-give kinds [] env u = refl
column_items-give kinds (place ∷ places) env u = ap (both (λ y ys. y ∷ ys) (Good (value_at u place))) (column_items-give kinds places env u)

pub each-good : {X Y : Type 0} (f : X → Y) (g : X → Outcome Y) → ((x : X) → g x ≡ Good (f x)) → (xs : List X) → each g xs ≡ Good (map f xs)
each-good f g good [] = refl
each-good f g good (x ∷ xs) = λ i. both (λ y ys. y ∷ ys) (good x i) (each-good f g good xs i)

listed-in : {X : Type 0} (w : X) (ws : List X) (b : Bool) → b ≡ true → IsIn w ws → IsIn w (cond b ws [])
listed-in w ws true e h = h
listed-in w ws false e h = absurd (true≢false (sym e))

listed-from : {X : Type 0} (w : X) (ws : List X) (b : Bool) → IsIn w (cond b ws []) → (b ≡ true) × IsIn w ws
listed-from w ws true h = (refl, h)
listed-from w ws false h = absurd h

-- a list of a row in a good bag, and only such a one
pub in-with_lists : (bag : Bag) (lists : Row → List Witness) (t : Row) (w : Witness) → IsIn t bag → IsIn w (lists t) →
    IsIn w ((with_lists (Good bag) lists).lists t)
in-with_lists bag lists t w here h = listed-in w (lists t) (member t bag) (in-member t bag here) h

pub from-with_lists : (bag : Bag) (lists : Row → List Witness) (t : Row) (w : Witness) → IsIn w ((with_lists (Good bag) lists).lists t) →
    IsIn t bag × IsIn w (lists t)
from-with_lists bag lists t w h = let found = listed-from w (lists t) (member t bag) h in (member-in t bag found.0, found.1)

-- the columns of a table
pub columns-meaning : (id : ℕ) (kinds : List Kind) (columns : List ℕ) (db : Database) (env : List Row) →
    meaning (ProjectOf (Table id kinds) (column_items kinds columns) [] end_of-Sublink) db env ≡ Good (map (picked columns) (db id))
columns-meaning id kinds columns db env =
    rows-with_lists (each (items_on (column_items kinds columns) env no_subs) (db id)) _
    ∙ each-good (picked columns) (items_on (column_items kinds columns) env no_subs) (column_items-give kinds columns env) (db id)

pub source_columns-meaning : (id : ℕ) (kinds : List Kind) (places columns : List ℕ) (label : Label) (db : Database) (env : List Row) →
    meaning (ProjectOf (BaseOf (Table id kinds) places label) (column_items kinds columns) [] end_of-Sublink) db env ≡ Good (map (picked columns) (db id))
source_columns-meaning id kinds places columns label db env =
    rows-with_lists (each (items_on (column_items kinds columns) env no_subs) (db id)) _
    ∙ each-good (picked columns) (items_on (column_items kinds columns) env no_subs) (column_items-give kinds columns env) (db id)

-- ---- the same for witness lists, over the rows of a table and any good items

module _ (rows : Bag) (places : List ℕ) (make : Row → Row) (items : Row → Outcome Row) (good : (u : Row) → items u ≡ Good (make u)) where
  abbrev source : Means
  source = base_means places (unlisted_means (Good rows))

  abbrev projected : Means
  projected = project_means items (λ u. []) source

  abbrev held : Row → Witness
  held u = Held (picked places u) ∷ []

  -- the lists of a row: those of the rows that the items make it from
  abbrev made_from : Row → List Witness
  made_from t = flat_map (λ u. source.lists u) (filter (λ u. gives t (items u)) rows)

  abbrev lists_of : Row → List Witness
  lists_of = (with_lists (Good (map make rows)) made_from).lists

  projected-is : projected ≡ with_lists (Good (map make rows)) made_from
  projected-is = ap (λ o. with_lists o made_from) (each-good make items good rows)

  given : (t u : Row) → gives t (items u) ≡ true → make u ≡ t
  given t u h = (row_decides (make u) t).0 (subst (λ o. gives t o ≡ true) (good u) h)

  gives_it : (u : Row) → gives (make u) (items u) ≡ true
  gives_it u = subst (λ o. gives (make u) o ≡ true) (sym (good u)) ((row_decides (make u) (make u)).1 refl)

  beside_source : Row → Row
  beside_source u = make u ++ picked places u

  only_held : (u : Row) (w : Witness) → IsIn w (source.lists u) → held u ≡ w
  only_held u w h = elim ((from-with_lists rows (λ t. (Held (picked places t) ∷ []) ∷ []) u w h).1) [ inl e ↦ e | inr n ↦ absurd n ]

  there : (x : Row) → IsIn x (flat_map (with_witnesses lists_of) (map make rows)) → IsIn x (map (λ u. make u ++ picked places u) rows)
  there x h =
      let row = from-flat_map (with_witnesses lists_of) x (map make rows) h in
      let list = from-map (λ w. row.0 ++ flat w) x (lists_of row.0) row.2 in
      let listed = (from-with_lists (map make rows) made_from row.0 list.0 list.1).1 in
      let origin = from-flat_map (λ u. source.lists u) list.0 (filter (λ u. gives row.0 (items u)) rows) listed in
      let kept = from-filter (λ u. gives row.0 (items u)) origin.0 rows origin.1 in
      let same_row_made : make origin.0 ≡ row.0 = given row.0 origin.0 kept.1 in
      let same_list : held origin.0 ≡ list.0 = only_held origin.0 list.0 origin.2 in
      let e : make origin.0 ++ picked places origin.0 ≡ x =
      ap (λ l. make origin.0 ++ l) (sym (append-nil (picked places origin.0))) ∙ (λ i. same_row_made i ++ flat (same_list i)) ∙ list.2 in
      subst (λ y. IsIn y (map (λ u. make u ++ picked places u) rows)) e (in-map (λ u. make u ++ picked places u) origin.0 rows kept.0)

  back : (x : Row) → IsIn x (map (λ u. make u ++ picked places u) rows) → IsIn x (flat_map (with_witnesses lists_of) (map make rows))
  back x h =
      let origin = from-map (λ u. make u ++ picked places u) x rows h in
      let u = origin.0 in
      let source_list : IsIn (held u) (source.lists u) = in-with_lists rows (λ t. (Held (picked places t) ∷ []) ∷ []) u (held u) origin.1 (inl refl) in
      let listed : IsIn (held u) (made_from (make u)) =
      in-flat_map (λ v. source.lists v) (held u) u (filter (λ v. gives (make u) (items v)) rows)
      (in-filter (λ v. gives (make u) (items v)) u rows origin.1 (gives_it u)) source_list in
      let list : IsIn (held u) (lists_of (make u)) = in-with_lists (map make rows) made_from (make u) (held u) (in-map make u rows origin.1) listed in
      let e : make u ++ flat (held u) ≡ x = ap (λ l. make u ++ l) (append-nil (picked places u)) ∙ origin.2 in
      in-flat_map (with_witnesses lists_of) x (make u) (map make rows) (in-map make u rows origin.1)
      (subst (λ y. IsIn y (with_witnesses lists_of (make u))) e (in-map (λ w. make u ++ flat w) (held u) (lists_of (make u)) list))

  -- each row of the items beside the source's values, once
  pub provenance-rows : (found : Bag) × ((provenance_means projected).rows ≡ Good found) × SameBag found (once (map (λ u. make u ++ picked places u) rows))
  provenance-rows = (
    once (flat_map (with_witnesses lists_of) (map make rows)),
    ap (λ m. (provenance_means m).rows) projected-is,
    once-same_members _ _ (same_members _ _ there back),
  )

pub picked-append : (columns places : List ℕ) (u : Row) → picked (columns ++ places) u ≡ picked columns u ++ picked places u
picked-append [] places u = refl
picked-append (column ∷ columns) places u = ap (λ l. value_at u column ∷ l) (picked-append columns places u)

map-same : {X Y : Type 0} (f g : X → Y) → ((x : X) → f x ≡ g x) → (xs : List X) → map f xs ≡ map g xs
map-same f g e [] = refl
map-same f g e (x ∷ xs) = λ i. e x i ∷ map-same f g e xs i

-- the distinct rows of these columns and those
pub distinct_columns-meaning : (id : ℕ) (kinds : List Kind) (columns places : List ℕ) (db : Database) (env : List Row) →
    meaning (DistinctOf (ProjectOf (Table id kinds) (column_items kinds (columns ++ places)) [] end_of-Sublink)) db env
    ≡ Good (once (map (λ u. picked columns u ++ picked places u) (db id)))
distinct_columns-meaning id kinds columns places db env =
    rows-with_lists (mapped once (denote (ProjectOf (Table id kinds) (column_items kinds (columns ++ places)) [] end_of-Sublink) db env).rows) _
    ∙ ap (mapped once) (columns-meaning id kinds (columns ++ places) db env)
    ∙ ap (λ rows. Good (once rows)) (map-same (picked (columns ++ places)) (λ u. picked columns u ++ picked places u) (picked-append columns places) (db id))

-- PROVENANCE of columns of a source has the rows of the columns beside the source's, each once
pub source_columns-provenance : (id : ℕ) (kinds : List Kind) (places columns : List ℕ) (label : Label) (db : Database) (env : List Row) →
    (found : Bag) × (meaning (ProvOf (ProjectOf (BaseOf (Table id kinds) places label) (column_items kinds columns) [] end_of-Sublink)) db env ≡ Good found)
    × SameBag found (once (map (λ u. picked columns u ++ picked places u) (db id)))
source_columns-provenance id kinds places columns label db env =
    provenance-rows (db id) places (picked columns) (items_on (column_items kinds columns) env no_subs) (column_items-give kinds columns env)
