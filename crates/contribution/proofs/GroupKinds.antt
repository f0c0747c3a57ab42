-- A grouping has the kinds of its groups, then those of its aggregates.
use Rattle.std.proofs.Common.{◌≡◌, ℕ, suc, Bool, true, false, cond, not, List, [], ◌∷◌, ◌++◌, map, refl, sym, subst}
use Rattle.std.specs.Prelude.{⊤, ℤ}
use Rattle.std.specs.Ordering.{ordering_reverse}
use Rattle.null_logic.specs.Arithmetic.{fits_64}
use Rattle.null_logic.specs.declared.run_fault.RunFault.TheVariants.{OutOfRange}
use Rattle.perm_values.specs.Rows.{value_at, picked}
use Rattle.perm_values.specs.Values.{value_cmp, is_null}
use Rattle.perm_values.specs.declared.kind.Kind.{Kind}
use Rattle.perm_values.specs.declared.kind.Kind.TheVariants as kind
use Rattle.perm_values.specs.declared.value.Value.{Value}
use Rattle.perm_values.specs.declared.value.Value.TheVariants.{Null, Integer}
use Rattle.bag_algebra.specs.Bags.{Row, Bag}
use Rattle.bag_algebra.specs.Kinds.{kinds_in, aggregate_kinds}
use Rattle.bag_algebra.specs.Meaning.{functions_of}
use Rattle.bag_algebra.specs.Means.{Means, Witness, present, total, sum_of, first_or_null, aggregated, class_keys, class_of, good_row, good_rows, aggregates_of, class_row, grouped, class_lists, aggregate_means}
use Rattle.bag_algebra.specs.Outcome.{Outcome, Good, Bad, only, each}
use Rattle.bag_algebra.specs.declared.place.Place.{Place}
use Rattle.bag_algebra.specs.declared.query.AggFn.{AggFn}
use Rattle.bag_algebra.specs.declared.query.AggFn.TheVariants.{CountRows, Count, CountDistinct, Sum, Min, Max}
use Rattle.bag_algebra.specs.declared.query.Aggr.{Aggr}
use Rattle.contribution.proofs.NodeKinds.{with_lists-fit}
use Rattle.contribution.proofs.RowKinds.{RowFits, BagFits, ListsFit, MeansFit, row_fits-append, picked-fits, each-filter, each-sorted, each-map, each-once, one-fits, lists_fit-flat_map}
use Rattle.contribution.proofs.ValueKinds.{Fits, GoodFits, null-fits, integer-fits}
use Rattle.contribution.proofs.WhereGood.{WhereGood, Every, any_value, each-in, each-of, good-mapped, good-and_then, good-both, good-each}
use Rattle.contribution.specs.FitsPlaces.{FitsPlaces}
use Rattle.std.proofs.lemmas.Bool.{and_from}

-- what counts or adds gives integers
abbrev pub GivesNumber : AggFn → Kind → Type 0
GivesNumber CountRows k = k ≡ kind.Integer
GivesNumber Count k = k ≡ kind.Integer
GivesNumber CountDistinct k = k ≡ kind.Integer
GivesNumber Sum k = k ≡ kind.Integer
GivesNumber Min k = ⊤
GivesNumber Max k = ⊤

-- what chooses among its argument's values has their kind
abbrev pub ArgumentFits : AggFn → Kind → Value → Type 0
ArgumentFits CountRows k v = ⊤
ArgumentFits Count k v = ⊤
ArgumentFits CountDistinct k v = ⊤
ArgumentFits Sum k v = ⊤
ArgumentFits Min k v = Fits k v
ArgumentFits Max k v = Fits k v

null-argument : (function : AggFn) (k : Kind) → ArgumentFits function k Null
null-argument CountRows k = tt
null-argument Count k = tt
null-argument CountDistinct k = tt
null-argument Sum k = tt
null-argument Min k = null-fits k
null-argument Max k = null-fits k

number-fits : (k : Kind) (z : ℤ) → k ≡ kind.Integer → Fits k (Integer z)
number-fits k z e = subst (λ l. Fits l (Integer z)) (sym e) (integer-fits z)

first-fits : (k : Kind) (vs : List Value) → Every (Fits k) vs → Fits k (first_or_null vs)
first-fits k [] h = null-fits k
first-fits k (v ∷ vs) h = h.0

sum-fits : (k : Kind) (vs : List Value) → k ≡ kind.Integer → GoodFits k (sum_of vs)
sum-fits k [] e = null-fits k
sum-fits k (v ∷ vs) e = at (fits_64 (total (v ∷ vs))) where
  at : (b : Bool) → GoodFits k (cond b (Good (Integer (total (v ∷ vs)))) (Bad (only OutOfRange)))
  at true = number-fits k (total (v ∷ vs)) e
  at false = tt

pub aggregated-fits : (function : AggFn) (k : Kind) (vs : List Value) → GivesNumber function k → Every (ArgumentFits function k) vs →
    GoodFits k (aggregated function vs)
aggregated-fits CountRows k vs e h = number-fits k _ e
aggregated-fits Count k vs e h = number-fits k _ e
aggregated-fits CountDistinct k vs e h = number-fits k _ e
aggregated-fits Sum k vs e h = sum-fits k (present vs) e
aggregated-fits Min k vs e h = first-fits k _ (each-sorted (Fits k) value_cmp (present vs) (each-filter (Fits k) (λ v. not (is_null v)) vs h))
aggregated-fits Max k vs e h =
    first-fits k _ (each-sorted (Fits k) (λ a b. ordering_reverse (value_cmp a b)) (present vs) (each-filter (Fits k) (λ v. not (is_null v)) vs h))

-- ---- the aggregates of a row, one after another

-- the values from a place on are arguments of the aggregates
abbrev pub ArgumentsFrom : List Aggr → ℕ → Row → Type 0
ArgumentsFrom [] place row = ⊤
ArgumentsFrom (aggregate ∷ aggregates) place row =
    ArgumentFits aggregate.function aggregate.kind (value_at row place) × ArgumentsFrom aggregates (suc place) row

no-arguments : (aggregates : List Aggr) (place : ℕ) → ArgumentsFrom aggregates place []
no-arguments [] place = tt
no-arguments (aggregate ∷ aggregates) place = (null-argument aggregate.function aggregate.kind, no-arguments aggregates (suc place))

pub arguments-behind : (aggregates : List Aggr) (place : ℕ) (v : Value) (row : Row) → ArgumentsFrom aggregates place row →
    ArgumentsFrom aggregates (suc place) (v ∷ row)
arguments-behind [] place v row h = tt
arguments-behind (aggregate ∷ aggregates) place v row h = (h.0, arguments-behind aggregates (suc place) v row h.1)

pub record NumbersGiven (aggregates : List Aggr) : Type 0 where
  pub given : Every (λ (aggregate : Aggr). GivesNumber aggregate.function aggregate.kind) aggregates

aggregates_of-fits : (aggregates : List Aggr) (place : ℕ) (rows : List Row) →
    Every (λ (aggregate : Aggr). GivesNumber aggregate.function aggregate.kind) aggregates →
    Every (ArgumentsFrom aggregates place) rows → WhereGood (RowFits (aggregate_kinds aggregates)) (aggregates_of (functions_of aggregates) place rows)
aggregates_of-fits [] place rows e h = record { fit = refl }
aggregates_of-fits (aggregate ∷ aggregates) place rows e h =
    good-both (Fits aggregate.kind) (RowFits (aggregate_kinds aggregates)) (RowFits (aggregate_kinds (aggregate ∷ aggregates))) (λ v vs. v ∷ vs) _ _
    (aggregated-fits aggregate.function aggregate.kind (map (λ a. value_at a place) rows) e.0
    (each-map (ArgumentsFrom (aggregate ∷ aggregates) place) (ArgumentFits aggregate.function aggregate.kind) (λ a. value_at a place) rows h (λ row g. g.0)))
    (aggregates_of-fits aggregates (suc place) rows e.1 (each-of (ArgumentsFrom aggregates (suc place)) rows (λ row i. (each-in (ArgumentsFrom (aggregate ∷ aggregates) place) row rows h i).1)))
    (λ v vs f g. record { fit = and_from _ _ f.fit g.fit })

-- ---- classes

module _ (kinds : List Kind) (groups : List ℕ) (aggregates : List Aggr) (arguments : Row → Outcome Row) (numbers : NumbersGiven aggregates) where
  class_keys-fit : (groups : List ℕ) (us : Bag) → BagFits kinds us → BagFits (kinds_in kinds groups) (class_keys groups us)
  class_keys-fit [] us h = (record { fit = refl }, tt)
  class_keys-fit (group ∷ groups) us h =
      each-once (RowFits (kinds_in kinds (group ∷ groups))) (map (picked (group ∷ groups)) us)
      (each-map (RowFits kinds) (RowFits (kinds_in kinds (group ∷ groups))) (picked (group ∷ groups)) us h (λ u f. picked-fits (group ∷ groups) u kinds f))

  -- the arguments on a row of these kinds
  abbrev pub ArgumentsFit : Type 0
  ArgumentsFit = (u : Row) → RowFits kinds u → WhereGood (ArgumentsFrom aggregates 0) (arguments u)

  good_row-fits : (o : Outcome Row) → WhereGood (ArgumentsFrom aggregates 0) o → ArgumentsFrom aggregates 0 (good_row o)
  good_row-fits (Good row) h = h
  good_row-fits (Bad f) h = no-arguments aggregates 0

  class_row-fits : ArgumentsFit → (us : Bag) → BagFits kinds us → (key : Row) → RowFits (kinds_in kinds groups) key →
      WhereGood (RowFits (kinds_in kinds groups ++ aggregate_kinds aggregates)) (class_row groups (functions_of aggregates) arguments us key)
  class_row-fits fit us h key f =
      good-mapped (RowFits (aggregate_kinds aggregates)) (RowFits (kinds_in kinds groups ++ aggregate_kinds aggregates)) (λ vs. key ++ vs) _
      (aggregates_of-fits aggregates 0 (map (λ u. good_row (arguments u)) (class_of groups key us)) numbers.given
      (each-map (RowFits kinds) (ArgumentsFrom aggregates 0) (λ u. good_row (arguments u)) (class_of groups key us) (each-filter (RowFits kinds) _ us h)
      (λ u g. good_row-fits (arguments u) (fit u g))))
      (λ vs g. row_fits-append key vs (kinds_in kinds groups) (aggregate_kinds aggregates) f g)

  grouped-fits : ArgumentsFit → (us : Bag) → BagFits kinds us →
      WhereGood (BagFits (kinds_in kinds groups ++ aggregate_kinds aggregates)) (grouped groups (functions_of aggregates) arguments us)
  grouped-fits fit us h =
      good-and_then (λ _. ⊤) (BagFits (kinds_in kinds groups ++ aggregate_kinds aggregates)) (each arguments us) (λ _. each (class_row groups (functions_of aggregates) arguments us) (class_keys groups us))
      (any_value (each arguments us)) (λ _ _.
      good-each (RowFits (kinds_in kinds groups)) (RowFits (kinds_in kinds groups ++ aggregate_kinds aggregates)) (class_row groups (functions_of aggregates) arguments us) (class_keys groups us)
      (class_keys-fit groups us h) (class_row-fits fit us h))

  class_lists-fit : {places : List Place} (blank : Witness) (m : Means) → FitsPlaces places blank → MeansFit kinds places m → (us : Bag) (t : Row) →
      ListsFit places (class_lists groups blank m us t)
  class_lists-fit {places} blank m b f [] t = one-fits places blank b
  class_lists-fit blank m b f (u ∷ us) t = lists_fit-flat_map m.lists _ (λ v i. f.lists v)

  pub aggregate_means-fit : {places : List Place} (blank : Witness) (m : Means) → ArgumentsFit → FitsPlaces places blank → MeansFit kinds places m →
      MeansFit (kinds_in kinds groups ++ aggregate_kinds aggregates) places (aggregate_means groups (functions_of aggregates) arguments blank m)
  aggregate_means-fit blank m fit b f =
      with_lists-fit _ _
      (good-and_then (BagFits kinds) (BagFits (kinds_in kinds groups ++ aggregate_kinds aggregates)) m.rows (grouped groups (functions_of aggregates) arguments) f.rows (grouped-fits fit))
      (λ t h. class_lists-fit blank m b f (good_rows m.rows) t)
