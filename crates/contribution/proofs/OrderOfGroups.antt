-- Groups and their aggregates don't depend on the order of rows.
use Rattle.std.proofs.Common.{◌≡◌, ℕ, suc, List, [], ◌∷◌, ◌++◌, take, length, refl, ap}
use Rattle.perm_values.specs.Rows.{same_row, value_at, picked}
use Rattle.bag_algebra.proofs.BagLaws.{Permuted, nothing, onward, turn, joined, permuted-refl, permuted-map, permuted-filter}
use Rattle.bag_algebra.specs.Bags.{Row, Bag}
use Rattle.bag_algebra.specs.Means.{Means, Witness, good_rows, class_keys, class_of, good_row, aggregates_of, class_row, grouped, class_lists, aggregate_means}
use Rattle.bag_algebra.specs.Outcome.{Outcome, mapped, both, each}
use Rattle.bag_algebra.specs.declared.query.AggFn.{AggFn}
use Rattle.contribution.proofs.Agreement.{Agree, agree-trans, agree-of_equal, each-permuted, and_then-agree}
use Rattle.contribution.proofs.OrderOfRows.{Alike, with_lists-alike, permuted-good_rows}
use Rattle.contribution.proofs.OrderOfSets.{permuted-once}
use Rattle.contribution.proofs.SharedMembers.{Shared, shared-refl, shared-trans, shared-permuted, shared-flat_map}
use Rattle.bag_algebra.proofs.AggregateOrder.{aggregated-permuted}

pub aggregates_of-permuted : (functions : List AggFn) (place : ℕ) {us vs : List Row} → Permuted us vs →
    aggregates_of functions place us ≡ aggregates_of functions place vs
aggregates_of-permuted [] place p = refl
aggregates_of-permuted (function ∷ functions) place p =
    λ i. both (λ v vs. v ∷ vs) (aggregated-permuted function (permuted-map (λ a. value_at a place) p) i) (aggregates_of-permuted functions (suc place) p i)

-- ---- classes

pub class_keys-permuted : (groups : List ℕ) {us vs : Bag} → Permuted us vs → Permuted (class_keys groups us) (class_keys groups vs)
class_keys-permuted [] p = permuted-refl ([] ∷ [])
class_keys-permuted (group ∷ groups) p = permuted-once (permuted-map (picked (group ∷ groups)) p)

pub class_of-permuted : (groups : List ℕ) (key : Row) {us vs : Bag} → Permuted us vs → Permuted (class_of groups key us) (class_of groups key vs)
class_of-permuted groups key p = permuted-filter (λ u. same_row (picked groups u) key) p

pub class_row-permuted : (groups : List ℕ) (functions : List AggFn) (arguments : Row → Outcome Row) {us vs : Bag} → Permuted us vs → (key : Row) →
    class_row groups functions arguments us key ≡ class_row groups functions arguments vs key
class_row-permuted groups functions arguments p key =
    ap (mapped (λ vs. key ++ vs)) (aggregates_of-permuted functions 0 (permuted-map (λ u. good_row (arguments u)) (class_of-permuted groups key p)))

pub grouped-agree : (groups : List ℕ) (functions : List AggFn) (arguments : Row → Outcome Row) (us vs : Bag) → Permuted us vs →
    Agree (grouped groups functions arguments us) (grouped groups functions arguments vs)
grouped-agree groups functions arguments us vs p =
    let e : class_row groups functions arguments us ≡ class_row groups functions arguments vs = λ i key. class_row-permuted groups functions arguments p key i in
    and_then-agree _ _ (each-permuted arguments p) (λ _ _ _.
    agree-trans (agree-of_equal (ap (λ f. each f (class_keys groups us)) e)) (each-permuted (class_row groups functions arguments vs) (class_keys-permuted groups p)))

class_lists-permuted : (groups : List ℕ) (blank : Witness) (m : Means) (t : Row) {us vs : Bag} → Permuted us vs →
    Shared (class_lists groups blank m us t) (class_lists groups blank m vs t)
class_lists-permuted groups blank m t nothing = shared-refl (blank ∷ [])
class_lists-permuted groups blank m t (onward u p) =
    shared-flat_map m.lists m.lists (shared-permuted (class_of-permuted groups (take (length groups) t) (onward u p))) (λ v. shared-refl (m.lists v))
class_lists-permuted groups blank m t (turn u v us) =
    shared-flat_map m.lists m.lists (shared-permuted (class_of-permuted groups (take (length groups) t) (turn u v us))) (λ w. shared-refl (m.lists w))
class_lists-permuted groups blank m t (joined p q) = shared-trans (class_lists-permuted groups blank m t p) (class_lists-permuted groups blank m t q)

class_lists-alike : (groups : List ℕ) (blank : Witness) {m n : Means} → Alike m n → (us : Bag) (t : Row) →
    Shared (class_lists groups blank m us t) (class_lists groups blank n us t)
class_lists-alike groups blank a [] t = shared-refl (blank ∷ [])
class_lists-alike groups blank {m} {n} a (u ∷ us) t = shared-flat_map m.lists n.lists (shared-refl _) a.lists

pub aggregate_means-alike : (groups : List ℕ) (functions : List AggFn) (arguments : Row → Outcome Row) (blank : Witness) {m n : Means} → Alike m n →
    Alike (aggregate_means groups functions arguments blank m) (aggregate_means groups functions arguments blank n)
aggregate_means-alike groups functions arguments blank {m} {n} a =
    with_lists-alike _ _
    (and_then-agree (grouped groups functions arguments) (grouped groups functions arguments) a.rows (grouped-agree groups functions arguments))
    (λ t. shared-trans (class_lists-permuted groups blank m t (permuted-good_rows a.rows)) (class_lists-alike groups blank a (good_rows n.rows) t))
