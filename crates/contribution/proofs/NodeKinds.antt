-- What each node makes of means of some kinds and places has the node's kinds and places.
use Rattle.std.proofs.Common.{◌≡◌, ℕ, Bool, true, false, cond, ◌&&◌, List, [], ◌∷◌, ◌++◌, map, filter, take, length, refl, subst}
use Rattle.std.specs.Prelude.{⊤}
use Rattle.std.specs.List.{flat_map}
use Rattle.perm_values.specs.Rows.{same_row, picked, printed_cmp}
use Rattle.perm_values.specs.declared.key.Key.{Key}
use Rattle.perm_values.specs.declared.kind.Kind.{Kind}
use Rattle.perm_values.specs.declared.value.Value.{Value}
use Rattle.bag_algebra.proofs.Members.{IsIn, from-map, from-filter, member-in}
use Rattle.bag_algebra.specs.Bags.{Row, Bag, member, once, union_of, intersect_of, except_of, sorted, nulls}
use Rattle.bag_algebra.specs.Kinds.{kinds_in, place_kinds}
use Rattle.bag_algebra.specs.Means.{Held, Witness, Means, flat, with_lists, beside, unlisted_means, base_means, holds_of, kept, filter_means, gives, good_rows, project_means, keeps_left, keeps_right, is_met, unmatched_left, unmatched_right, met_pairs, joined_rows, Blanks, pair_lists, left_lists, right_lists, join_means, under, lists_under, apply_means, paired, union_means, intersect_means, differing_lists, except_means, distinct_means, limit_means, with_witnesses, provenance_means}
use Rattle.bag_algebra.specs.Outcome.{Outcome, Good, Bad, mapped, gather, each}
use Rattle.bag_algebra.specs.declared.place.Place.{Place}
use Rattle.bag_algebra.specs.declared.query.JoinKind.{JoinKind}
use Rattle.bag_algebra.specs.declared.query.Label.{Label}
use Rattle.contribution.proofs.RowKinds.{RowFits, BagFits, ListsFit, MeansFit, row_fits-append, nulls-fit, picked-fits, each-filter, each-where, each-take, each-sorted, each-map, each-once, each-union_of, each-intersect_of, each-except_of, good_rows-each, fits_places-append, flat-fits, one-fits, none-fit, lists_fit-append, lists_fit-where, lists_fit-flat_map, lists_fit-map, lists_fit-paired, ContributionsFit, lists_fit-beside}
use Rattle.contribution.proofs.WhereGood.{WhereGood, Every, every-append, each-in, each-of, good-mapped, good-and_then, good-both, good-both_then, good-gather, good-each, any_value}
use Rattle.contribution.specs.FitsPlaces.{FitsPlaces, no_place, held}

module _ {kinds : List Kind} {places : List Place} where
  -- rows that fit, and lists that fit for each of them
  pub with_lists-fit : (o : Outcome Bag) (f : Row → List Witness) → WhereGood (BagFits kinds) o →
      ((t : Row) → RowFits kinds t → ListsFit places (f t)) →
      MeansFit kinds places (with_lists o f)
  with_lists-fit (Good bag) f h g = record { rows = h; lists = λ t. at t (member t bag) refl } where
    at : (t : Row) (b : Bool) → member t bag ≡ b → ListsFit places (cond b (f t) [])
    at t true e = g t (each-in (RowFits kinds) t bag h (member-in t bag e))
    at t false e = none-fit places
  with_lists-fit (Bad faults) f h g = record { rows = tt; lists = λ t. none-fit places }

-- ---- sources

pub unlisted_means-fit : {kinds : List Kind} (o : Outcome Bag) → WhereGood (BagFits kinds) o → MeansFit kinds [] (unlisted_means o)
unlisted_means-fit o h = with_lists-fit o (λ t. [] ∷ []) h (λ t f. one-fits [] [] no_place)

pub base_means-fit : {kinds : List Kind} {before : List Place} (places : List ℕ) (label : Label) (m : Means) → MeansFit kinds before m →
    MeansFit kinds (record { label = label; kinds = kinds_in kinds places } ∷ []) (base_means places m)
base_means-fit {kinds} places label m f =
    with_lists-fit m.rows (λ t. (Held (picked places t) ∷ []) ∷ []) f.rows
    (λ t g. one-fits _ _ (held (record { label = label; kinds = kinds_in kinds places }) (picked places t) (picked-fits places t kinds g).fit no_place))

-- ---- Filter and Project

-- on each row of these kinds the contributions fit the sublinks' places
pub record ContributionsOn (kinds : List Kind) (places : List Place) (contributions : Row → List (List Witness)) : Type 0 where
  pub on : (u : Row) → RowFits kinds u → ContributionsFit places (contributions u)

kept-fits : (kinds : List Kind) (condition : Row → Outcome Value) (u : Row) → RowFits kinds u → WhereGood (BagFits kinds) (kept condition u)
kept-fits kinds condition u f =
    good-mapped (λ v. ⊤) (BagFits kinds) (λ v. cond (holds_of v) (u ∷ []) []) (condition u) (any_value (condition u))
    (λ v _. each-where (RowFits kinds) (holds_of v) (u ∷ []) [] (f, tt) tt)

pub filter_means-fit : {kinds : List Kind} {places more : List Place} (condition : Row → Outcome Value) (contributions : Row → List (List Witness)) (m : Means) →
    ContributionsOn kinds more contributions → MeansFit kinds places m → MeansFit kinds (places ++ more) (filter_means condition contributions m)
filter_means-fit {kinds} condition contributions m c f =
    with_lists-fit _ _
    (good-and_then (BagFits kinds) (BagFits kinds) m.rows (gather (kept condition)) f.rows (λ bag g. good-gather (RowFits kinds) (RowFits kinds) (kept condition) bag g (kept-fits kinds condition)))
    (λ t g. lists_fit-beside (f.lists t) (c.on t g))

pub project_means-fit : {before kinds : List Kind} {places more : List Place} (items : Row → Outcome Row) (contributions : Row → List (List Witness)) (m : Means) →
    ((u : Row) → RowFits before u → WhereGood (RowFits kinds) (items u)) → ContributionsOn before more contributions → MeansFit before places m →
    MeansFit kinds (places ++ more) (project_means items contributions m)
project_means-fit {before} {kinds} items contributions m i c f =
    with_lists-fit _ _
    (good-and_then (BagFits before) (BagFits kinds) m.rows (each items) f.rows (λ bag g. good-each (RowFits before) (RowFits kinds) items bag g i))
    (λ t g. lists_fit-flat_map (λ u. beside (m.lists u) (contributions u)) (filter (λ u. gives t (items u)) (good_rows m.rows)) (λ u here.
    lists_fit-beside (f.lists u)
    (c.on u (each-in (RowFits before) u (good_rows m.rows) (good_rows-each (RowFits before) m.rows f.rows) (from-filter (λ v. gives t (items v)) u (good_rows m.rows) here).0))))

-- ---- joins

module _ (left_kinds right_kinds : List Kind) (condition : Row → Outcome Value) where
  met_pairs-fit : (us vs : Bag) → BagFits left_kinds us → BagFits right_kinds vs →
      WhereGood (BagFits (left_kinds ++ right_kinds)) (met_pairs condition us vs)
  met_pairs-fit us vs f g =
      good-gather (RowFits left_kinds) (RowFits (left_kinds ++ right_kinds)) (λ u. gather (λ v. kept condition (u ++ v)) vs) us f (λ u h.
      good-gather (RowFits right_kinds) (RowFits (left_kinds ++ right_kinds)) (λ v. kept condition (u ++ v)) vs g (λ v i.
      kept-fits (left_kinds ++ right_kinds) condition (u ++ v) (row_fits-append u v left_kinds right_kinds h i)))

  joined_rows-fit : (kind : JoinKind) (us vs : Bag) → BagFits left_kinds us → BagFits right_kinds vs →
      WhereGood (BagFits (left_kinds ++ right_kinds)) (joined_rows kind condition (length left_kinds) (length right_kinds) us vs)
  joined_rows-fit kind us vs f g =
      let P : Row → Type 0 = RowFits (left_kinds ++ right_kinds) in
      let lefts : Bag = map (λ u. u ++ nulls (length right_kinds)) (unmatched_left condition us vs) in
      let rights : Bag = map (λ v. nulls (length left_kinds) ++ v) (unmatched_right condition us vs) in
      let left_fit : Every P lefts =
      each-map (RowFits left_kinds) P (λ u. u ++ nulls (length right_kinds)) (unmatched_left condition us vs) (each-filter (RowFits left_kinds) _ us f)
      (λ u h. row_fits-append u (nulls (length right_kinds)) left_kinds right_kinds h (nulls-fit right_kinds)) in
      let right_fit : Every P rights =
      each-map (RowFits right_kinds) P (λ v. nulls (length left_kinds) ++ v) (unmatched_right condition us vs) (each-filter (RowFits right_kinds) _ vs g)
      (λ v h. row_fits-append (nulls (length left_kinds)) v left_kinds right_kinds (nulls-fit left_kinds) h) in
      good-mapped (Every P) (Every P) (λ pairs. pairs ++ cond (keeps_left kind) lefts [] ++ cond (keeps_right kind) rights []) (met_pairs condition us vs) (met_pairs-fit us vs f g)
      (λ pairs h. every-append P (pairs ++ cond (keeps_left kind) lefts []) _
      (every-append P pairs _ h (each-where P (keeps_left kind) lefts [] left_fit tt)) (each-where P (keeps_right kind) rights [] right_fit tt))

  pub join_means-fit : {left_places right_places sub_places : List Place} (kind : JoinKind) (contributions : Row → List (List Witness)) (blanks : Blanks) (l r : Means) →
      ContributionsOn (left_kinds ++ right_kinds) sub_places contributions →
      FitsPlaces left_places blanks.left → FitsPlaces right_places blanks.right → FitsPlaces sub_places blanks.subs →
      MeansFit left_kinds left_places l → MeansFit right_kinds right_places r →
      MeansFit (left_kinds ++ right_kinds) ((left_places ++ right_places) ++ sub_places)
      (join_means kind condition contributions blanks (length left_kinds) (length right_kinds) l r)
  join_means-fit {left_places} {right_places} {sub_places} kind contributions blanks l r c left_blank right_blank sub_blank f g =
      with_lists-fit _ _
      (good-both_then (BagFits left_kinds) (BagFits right_kinds) (BagFits (left_kinds ++ right_kinds)) l.rows r.rows _ f.rows g.rows (joined_rows-fit kind))
      (λ t h. lists_fit-append _ _ (lists_fit-append _ _ (pairs t)
      (lists_fit-where (keeps_left kind) (lefts_of t) [] (left_sides t) (none-fit _)))
      (lists_fit-where (keeps_right kind) (rights_of t) [] (right_sides t) (none-fit _)))
    where
      lefts_of : Row → List Witness
      lefts_of t = left_lists condition l blanks (length right_kinds) (good_rows l.rows) (good_rows r.rows) t

      rights_of : Row → List Witness
      rights_of t = right_lists condition r blanks (length left_kinds) (good_rows l.rows) (good_rows r.rows) t

      pairs : (t : Row) → ListsFit ((left_places ++ right_places) ++ sub_places) (pair_lists condition contributions l r (good_rows l.rows) (good_rows r.rows) t)
      pairs t =
          lists_fit-flat_map _ (good_rows l.rows) (λ u i. lists_fit-flat_map _ (good_rows r.rows) (λ v j.
          lists_fit-where (same_row (u ++ v) t && is_met (condition (u ++ v))) _ []
          (lists_fit-beside (lists_fit-paired (l.lists u) (r.lists v) (f.lists u) (g.lists v))
          (c.on (u ++ v) (row_fits-append u v left_kinds right_kinds
          (each-in (RowFits left_kinds) u (good_rows l.rows) (good_rows-each (RowFits left_kinds) l.rows f.rows) i)
          (each-in (RowFits right_kinds) v (good_rows r.rows) (good_rows-each (RowFits right_kinds) r.rows g.rows) j))))
          (none-fit _)))

      left_sides : (t : Row) → ListsFit ((left_places ++ right_places) ++ sub_places) (left_lists condition l blanks (length right_kinds) (good_rows l.rows) (good_rows r.rows) t)
      left_sides t =
          lists_fit-flat_map _ _ (λ u i. lists_fit-map (λ w. w ++ blanks.right ++ blanks.subs) (l.lists u)
          (λ w h. fits_places-append (fits_places-append h right_blank) sub_blank) (f.lists u))

      right_sides : (t : Row) → ListsFit ((left_places ++ right_places) ++ sub_places) (right_lists condition r blanks (length left_kinds) (good_rows l.rows) (good_rows r.rows) t)
      right_sides t =
          lists_fit-flat_map _ _ (λ v i. lists_fit-map (λ w. blanks.left ++ w ++ blanks.subs) (r.lists v)
          (λ w h. fits_places-append (fits_places-append left_blank h) sub_blank) (g.lists v))

-- ---- dependent joins

module _ (left_kinds right_kinds : List Kind) where
  under-fits : (kind : JoinKind) (u : Row) (vs : Bag) → RowFits left_kinds u → BagFits right_kinds vs →
      BagFits (left_kinds ++ right_kinds) (under kind (length right_kinds) u vs)
  under-fits kind u [] f g =
      each-where (RowFits (left_kinds ++ right_kinds)) (keeps_left kind) ((u ++ nulls (length right_kinds)) ∷ []) []
      (row_fits-append u (nulls (length right_kinds)) left_kinds right_kinds f (nulls-fit right_kinds), tt) tt
  under-fits kind u (v ∷ vs) f g =
      each-map (RowFits right_kinds) (RowFits (left_kinds ++ right_kinds)) (λ w. u ++ w) (v ∷ vs) g
      (λ w h. row_fits-append u w left_kinds right_kinds f h)

  module _ {left_places right_places : List Place} (kind : JoinKind) (blank : Witness) (blank_fits : FitsPlaces right_places blank) where
    lists_under-fit : (ws : List Witness) (lists : Row → List Witness) (t u : Row) (vs : Bag) → ListsFit left_places ws →
        ((x : Row) → ListsFit right_places (lists x)) →
        ListsFit (left_places ++ right_places) (lists_under kind (length right_kinds) blank ws lists t u vs)
    lists_under-fit ws lists t u [] f g =
        lists_fit-where (keeps_left kind && same_row (u ++ nulls (length right_kinds)) t) (map (λ w. w ++ blank) ws) []
        (lists_fit-map (λ w. w ++ blank) ws (λ w h. fits_places-append h blank_fits) f) (none-fit _)
    lists_under-fit ws lists t u (v ∷ vs) f g =
        lists_fit-flat_map (λ x. cond (same_row (u ++ x) t) (paired ws (lists x)) []) (v ∷ vs) (λ x i.
        lists_fit-where (same_row (u ++ x) t) (paired ws (lists x)) [] (lists_fit-paired ws (lists x) f (g x)) (none-fit _))

    pub apply_means-fit : (l : Means) (r : Row → Means) → MeansFit left_kinds left_places l →
        ((u : Row) → RowFits left_kinds u → MeansFit right_kinds right_places (r u)) →
        MeansFit (left_kinds ++ right_kinds) (left_places ++ right_places) (apply_means kind (length right_kinds) blank l r)
    apply_means-fit l r f g =
        let Whole : Row → Type 0 = RowFits (left_kinds ++ right_kinds) in
        let beside_left : Row → Outcome Bag = λ u. mapped (under kind (length right_kinds) u) (r u).rows in
        with_lists-fit _ _
        (good-and_then (BagFits left_kinds) (Every Whole) l.rows (gather beside_left) f.rows (λ us h.
        good-gather (RowFits left_kinds) Whole beside_left us h (λ u i.
        good-mapped (BagFits right_kinds) (Every Whole) (under kind (length right_kinds) u) (r u).rows (g u i).rows (λ vs j. under-fits kind u vs i j))))
        (λ t h. lists_fit-flat_map _ (good_rows l.rows) (λ u i.
        lists_under-fit (l.lists u) (r u).lists t u (good_rows (r u).rows) (f.lists u)
        (g u (each-in (RowFits left_kinds) u (good_rows l.rows) (good_rows-each (RowFits left_kinds) l.rows f.rows) i)).lists))

-- ---- set operations, of equal kinds on both sides

module _ {kinds : List Kind} {left_places right_places : List Place} (all : Bool) (l r : Means) (f : MeansFit kinds left_places l) (g : MeansFit kinds right_places r) where
  pub union_means-fit : (left_blank right_blank : Witness) → FitsPlaces left_places left_blank → FitsPlaces right_places right_blank →
      MeansFit kinds (left_places ++ right_places) (union_means all left_blank right_blank l r)
  union_means-fit left_blank right_blank left_fits right_fits =
      with_lists-fit _ _
      (good-both (BagFits kinds) (BagFits kinds) (BagFits kinds) (union_of all) l.rows r.rows f.rows g.rows (each-union_of (RowFits kinds) all))
      (λ t h. lists_fit-append _ _ (lists_fit-map (λ w. w ++ right_blank) (l.lists t) (λ w i. fits_places-append i right_fits) (f.lists t))
      (lists_fit-map (λ w. left_blank ++ w) (r.lists t) (λ w i. fits_places-append left_fits i) (g.lists t)))

  pub intersect_means-fit : MeansFit kinds (left_places ++ right_places) (intersect_means all l r)
  intersect_means-fit =
      with_lists-fit _ _
      (good-both (BagFits kinds) (BagFits kinds) (BagFits kinds) (intersect_of all) l.rows r.rows f.rows g.rows (λ us vs h i. each-intersect_of (RowFits kinds) all us vs h))
      (λ t h. lists_fit-paired (l.lists t) (r.lists t) (f.lists t) (g.lists t))

  pub except_means-fit : (right_blank : Witness) → FitsPlaces right_places right_blank →
      MeansFit kinds (left_places ++ right_places) (except_means all right_blank l r)
  except_means-fit right_blank right_fits =
      with_lists-fit _ _
      (good-both (BagFits kinds) (BagFits kinds) (BagFits kinds) (except_of all) l.rows r.rows f.rows g.rows (λ us vs h i. each-except_of (RowFits kinds) all us vs h))
      (λ t h. lists_fit-paired (l.lists t) (differing_lists right_blank r t) (f.lists t)
      (lists_fit-where _ _ (right_blank ∷ []) (lists_fit-flat_map r.lists _ (λ v i. g.lists v)) (one-fits right_places right_blank right_fits)))

-- ---- Distinct, Limit and PROVENANCE

module _ {kinds : List Kind} {places : List Place} (m : Means) (f : MeansFit kinds places m) where
  pub distinct_means-fit : MeansFit kinds places (distinct_means m)
  distinct_means-fit = with_lists-fit _ _ (good-mapped (BagFits kinds) (BagFits kinds) once m.rows f.rows (each-once (RowFits kinds))) (λ t h. f.lists t)

  pub limit_means-fit : (keys : List Key) (count : ℕ) → MeansFit kinds places (limit_means keys count m)
  limit_means-fit keys count =
      with_lists-fit _ _
      (good-mapped (BagFits kinds) (BagFits kinds) (λ bag. take count (sorted (printed_cmp keys) bag)) m.rows f.rows
      (λ bag h. each-take (RowFits kinds) count (sorted (printed_cmp keys) bag) (each-sorted (RowFits kinds) (printed_cmp keys) bag h)))
      (λ t h. f.lists t)

  beside_lists-fit : (bag : Bag) → BagFits kinds bag → BagFits (kinds ++ place_kinds places) (flat_map (with_witnesses m.lists) bag)
  beside_lists-fit [] h = tt
  beside_lists-fit (t ∷ bag) h =
      every-append (RowFits (kinds ++ place_kinds places)) (with_witnesses m.lists t) (flat_map (with_witnesses m.lists) bag)
      (each-of (RowFits (kinds ++ place_kinds places)) (with_witnesses m.lists t) (λ row i. made row (from-map (λ w. t ++ flat w) row (m.lists t) i)))
      (beside_lists-fit bag h.1)
    where
      made : (row : Row) → (w : Witness) × IsIn w (m.lists t) × (t ++ flat w ≡ row) → RowFits (kinds ++ place_kinds places) row
      made row found =
          subst (RowFits (kinds ++ place_kinds places)) found.2 (row_fits-append t (flat found.0) kinds (place_kinds places) h.0 (flat-fits ((f.lists t).list found.0 found.1)))

  pub provenance_means-fit : MeansFit (kinds ++ place_kinds places) [] (provenance_means m)
  provenance_means-fit =
      unlisted_means-fit _
      (good-mapped (BagFits kinds) (BagFits (kinds ++ place_kinds places)) (λ bag. once (flat_map (with_witnesses m.lists) bag)) m.rows f.rows
      (λ bag h. each-once (RowFits (kinds ++ place_kinds places)) (flat_map (with_witnesses m.lists) bag) (beside_lists-fit bag h)))
