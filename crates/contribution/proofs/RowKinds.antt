-- Every node keeps its rows of its kinds, and its witness lists of its places.
use Rattle.std.proofs.Common.{◌≡◌, ℕ, zero, suc, inl, inr, Bool, true, false, cond, List, [], ◌∷◌, ◌++◌, map, filter, take, length, Ordering, append_assoc, append-nil, refl, sym, ap, subst, true≢false}
use Rattle.std.specs.List.{flat_map}
use Rattle.perm_values.specs.Rows.{value_at, picked, row_fits}
use Rattle.perm_values.specs.Values.{fits}
use Rattle.perm_values.specs.declared.kind.Kind.{Kind}
use Rattle.perm_values.specs.declared.value.Value.TheVariants.{Null}
use Rattle.bag_algebra.proofs.Members.{IsIn, from-map, from-append, from-flat_map, from-filter}
use Rattle.bag_algebra.specs.Bags.{Row, Bag, others, once, union_of, intersect_of, except_of, sorted, nulls}
use Rattle.bag_algebra.specs.Kinds.{kind_in, kinds_in, place_kinds}
use Rattle.bag_algebra.specs.Means.{Witness, Means, flat, all_empty, paired, beside, good_rows}
use Rattle.bag_algebra.specs.Outcome.{Outcome, Good, Bad}
use Rattle.bag_algebra.specs.declared.place.Place.{Place}
use Rattle.contribution.proofs.BagMembers.{from-once, from-union, from-intersect, from-except, from-take, from-sorted}
use Rattle.contribution.proofs.ValueKinds.{Fits, null-fits}
use Rattle.contribution.proofs.WhereGood.{WhereGood, Every, each-in, each-of}
use Rattle.contribution.specs.FitsPlaces.{FitsPlaces, no_place, held, empty}
use Rattle.std.proofs.lemmas.Bool.{and_parts, and_from}

pub record RowFits (kinds : List Kind) (row : Row) : Type 0 where
  pub fit : row_fits row kinds ≡ true

abbrev pub BagFits : List Kind → Bag → Type 0
BagFits kinds bag = Every (RowFits kinds) bag

pub record ListsFit (places : List Place) (ws : List Witness) : Type 0 where
  pub list : (w : Witness) → IsIn w ws → FitsPlaces places w

-- rows of these kinds, and witness lists of these places
pub record MeansFit (kinds : List Kind) (places : List Place) (m : Means) : Type 0 where
  pub rows : WhereGood (BagFits kinds) m.rows
  pub lists : (t : Row) → ListsFit places (m.lists t)

-- ---- rows

pub row_fits-append : (u v : Row) (kinds more : List Kind) → RowFits kinds u → RowFits more v → RowFits (kinds ++ more) (u ++ v)
row_fits-append u v kinds more f g = record { fit = at u kinds f.fit } where
  at : (u : Row) (kinds : List Kind) → row_fits u kinds ≡ true → row_fits (u ++ v) (kinds ++ more) ≡ true
  at [] [] e = g.fit
  at [] (k ∷ kinds) e = absurd (true≢false (sym e))
  at (a ∷ u) [] e = absurd (true≢false (sym e))
  at (a ∷ u) (k ∷ kinds) e =
      let both_fit = and_parts (fits a k) (row_fits u kinds) e in
      and_from (fits a k) (row_fits (u ++ v) (kinds ++ more)) both_fit.0 (at u kinds both_fit.1)

pub nulls-fit : (kinds : List Kind) → RowFits kinds (nulls (length kinds))
nulls-fit kinds = record { fit = at kinds } where
  at : (kinds : List Kind) → row_fits (nulls (length kinds)) kinds ≡ true
  at [] = refl
  at (k ∷ kinds) = and_from (fits Null k) (row_fits (nulls (length kinds)) kinds) (null-fits k).fit (at kinds)

-- a value at any place fits the kind there; out of range it is NULL
pub value_at-fits : (row : Row) (kinds : List Kind) (place : ℕ) → row_fits row kinds ≡ true → Fits (kind_in kinds place) (value_at row place)
value_at-fits [] kinds place e = null-fits (kind_in kinds place)
value_at-fits (v ∷ row) [] place e = absurd (true≢false (sym e))
value_at-fits (v ∷ row) (k ∷ kinds) zero e = record { fit = (and_parts (fits v k) (row_fits row kinds) e).0 }
value_at-fits (v ∷ row) (k ∷ kinds) (suc place) e = value_at-fits row kinds place (and_parts (fits v k) (row_fits row kinds) e).1

pub picked-fits : (places : List ℕ) (row : Row) (kinds : List Kind) → RowFits kinds row → RowFits (kinds_in kinds places) (picked places row)
picked-fits places row kinds f = record { fit = at places } where
  at : (places : List ℕ) → row_fits (picked places row) (kinds_in kinds places) ≡ true
  at [] = refl
  at (place ∷ places) =
      and_from (fits (value_at row place) (kind_in kinds place)) (row_fits (picked places row) (kinds_in kinds places)) (value_at-fits row kinds place f.fit).fit (at places)

pub row_fits-length : (row : Row) (kinds : List Kind) → row_fits row kinds ≡ true → length row ≡ length kinds
row_fits-length [] [] e = refl
row_fits-length [] (k ∷ kinds) e = absurd (true≢false (sym e))
row_fits-length (v ∷ row) [] e = absurd (true≢false (sym e))
row_fits-length (v ∷ row) (k ∷ kinds) e = ap suc (row_fits-length row kinds (and_parts (fits v k) (row_fits row kinds) e).1)

-- ---- bags

module _ {X : Type 0} (P : X → Type 0) where
  pub each-filter : (test : X → Bool) (xs : List X) → Every P xs → Every P (filter test xs)
  each-filter test xs h = each-of P (filter test xs) (λ x i. each-in P x xs h (from-filter test x xs i).0)

  pub each-where : (b : Bool) (xs ys : List X) → Every P xs → Every P ys → Every P (cond b xs ys)
  each-where true xs ys h g = h
  each-where false xs ys h g = g

  pub each-take : (n : ℕ) (xs : List X) → Every P xs → Every P (take n xs)
  each-take n xs h = each-of P (take n xs) (λ x i. each-in P x xs h (from-take x n xs i))

  pub each-sorted : (cmp : X → X → Ordering) (xs : List X) → Every P xs → Every P (sorted cmp xs)
  each-sorted cmp xs h = each-of P (sorted cmp xs) (λ x i. each-in P x xs h (from-sorted cmp x xs i))

pub each-map : {X Y : Type 0} (P : X → Type 0) (Q : Y → Type 0) (f : X → Y) (xs : List X) → Every P xs → ((x : X) → P x → Q (f x)) → Every Q (map f xs)
each-map P Q f [] h next = tt
each-map P Q f (x ∷ xs) h next = (next x h.0, each-map P Q f xs h.1 next)

module _ (P : Row → Type 0) where
  pub each-once : (us : Bag) → Every P us → Every P (once us)
  each-once us h = each-of P (once us) (λ t i. each-in P t us h (from-once t us i))

  pub each-union_of : (all : Bool) (us vs : Bag) → Every P us → Every P vs → Every P (union_of all us vs)
  each-union_of all us vs h g = each-of P (union_of all us vs) (λ t i. elim (from-union all t us vs i) [ inl l ↦ each-in P t us h l | inr r ↦ each-in P t vs g r ])

  pub each-intersect_of : (all : Bool) (us vs : Bag) → Every P us → Every P (intersect_of all us vs)
  each-intersect_of all us vs h = each-of P (intersect_of all us vs) (λ t i. each-in P t us h (from-intersect all t us vs i).0)

  pub each-except_of : (all : Bool) (us vs : Bag) → Every P us → Every P (except_of all us vs)
  each-except_of all us vs h = each-of P (except_of all us vs) (λ t i. each-in P t us h (from-except all t us vs i))

pub good_rows-each : (P : Row → Type 0) (o : Outcome Bag) → WhereGood (Every P) o → Every P (good_rows o)
good_rows-each P (Good bag) h = h
good_rows-each P (Bad f) h = tt

-- ---- witness lists

pub fits_places-append : {places more : List Place} {v w : Witness} → FitsPlaces places v → FitsPlaces more w → FitsPlaces (places ++ more) (v ++ w)
fits_places-append no_place g = g
fits_places-append (held place row e f) g = held place row e (fits_places-append f g)
fits_places-append (empty place f) g = empty place (fits_places-append f g)

pub all_empty-fits : (places : List Place) → FitsPlaces places (all_empty places)
all_empty-fits [] = no_place
all_empty-fits (place ∷ places) = empty place (all_empty-fits places)

pub flat-fits : {places : List Place} {w : Witness} → FitsPlaces places w → RowFits (place_kinds places) (flat w)
flat-fits no_place = record { fit = refl }
flat-fits (held {places} {entries} place row e f) = row_fits-append row (flat entries) place.kinds (place_kinds places) (record { fit = e }) (flat-fits f)
flat-fits (empty {places} {entries} place f) = row_fits-append (nulls (length place.kinds)) (flat entries) place.kinds (place_kinds places) (nulls-fit place.kinds) (flat-fits f)

pub one-fits : (places : List Place) (w : Witness) → FitsPlaces places w → ListsFit places (w ∷ [])
one-fits places w f = record { list = λ v i. elim i [ inl e ↦ subst (FitsPlaces places) e f | inr n ↦ absurd n ] }

pub none-fit : (places : List Place) → ListsFit places []
none-fit places = record { list = λ w i. absurd i }

pub lists_fit-append : {places : List Place} (vs ws : List Witness) → ListsFit places vs → ListsFit places ws → ListsFit places (vs ++ ws)
lists_fit-append vs ws f g = record { list = λ w i. elim (from-append w vs ws i) [ inl l ↦ f.list w l | inr r ↦ g.list w r ] }

pub lists_fit-where : {places : List Place} (b : Bool) (vs ws : List Witness) → ListsFit places vs → ListsFit places ws →
    ListsFit places (cond b vs ws)
lists_fit-where true vs ws f g = f
lists_fit-where false vs ws f g = g

pub lists_fit-flat_map : {X : Type 0} {places : List Place} (f : X → List Witness) (xs : List X) → ((x : X) → IsIn x xs → ListsFit places (f x)) →
    ListsFit places (flat_map f xs)
lists_fit-flat_map f xs h = record { list = λ w i. let found = from-flat_map f w xs i in (h found.0 found.1).list w found.2 }

pub lists_fit-map : {places more : List Place} (f : Witness → Witness) (ws : List Witness) →
    ((w : Witness) → FitsPlaces places w → FitsPlaces more (f w)) → ListsFit places ws → ListsFit more (map f ws)
lists_fit-map {places} {more} f ws h g = record {
  list = λ w i. let found = from-map f w ws i in subst (FitsPlaces more) found.2 (h found.0 (g.list found.0 found.1));
}

pub lists_fit-paired : {places more : List Place} (vs ws : List Witness) → ListsFit places vs → ListsFit more ws →
    ListsFit (places ++ more) (paired vs ws)
lists_fit-paired vs ws f g = lists_fit-flat_map (λ v. map (λ w. v ++ w) ws) vs (λ v i. lists_fit-map (λ w. v ++ w) ws (λ w h. fits_places-append (f.list v i) h) g)

-- the contributions of sublinks, one after another, fit their places
pub data ContributionsFit : List Place → List (List Witness) → Type 0 where
  no_sublink : ContributionsFit [] []
  next_sublink : {places more : List Place} {ws : List Witness} {rest : List (List Witness)} → ListsFit places ws → ContributionsFit more rest →
      ContributionsFit (places ++ more) (ws ∷ rest)

pub lists_fit-beside : {places more : List Place} {ws : List Witness} {rest : List (List Witness)} → ListsFit places ws → ContributionsFit more rest →
    ListsFit (places ++ more) (beside ws rest)
lists_fit-beside {places} {ws = ws} f no_sublink = subst (λ l. ListsFit l ws) (sym (append-nil places)) f
lists_fit-beside {places} {ws = ws} f (next_sublink {places = first} {more = others} {ws = vs} {rest = rest} g more) =
    subst (λ l. ListsFit l (beside (paired ws vs) rest)) (append_assoc places first others) (lists_fit-beside (lists_fit-paired ws vs f g) more)
