-- The rows of identities once those of one are put or taken out, and rows that fit.
use Rattle.std.proofs.Common.{◌≡◌, ◌≢◌, ℕ, Bool, true, false, cond, ◌&&◌, List, [], ◌∷◌, ◌++◌, Some, None, refl, ap, ◌∙◌}
use Rattle.std.proofs.lemmas.List.Folds.{list_all-append}
use Rattle.std.specs.Cmp.{nat_cmp_total, Equal-is, eq_by_cmp_equiv}
use Rattle.std.specs.FinMap as map
use Rattle.std.specs.FinMap.{FinMap, get-insert, get-remove, nat_cmp-IsAntisymmetric}
use Rattle.std.specs.Ordering.{nat_cmp, eq_by_cmp}
use Rattle.perm_values.specs.Marked.{unmarked}
use Rattle.perm_values.specs.Rows.{row_fits}
use Rattle.perm_values.specs.declared.kind.Kind.{Kind}
use Rattle.bag_algebra.specs.Bags.{Bag, Row}
use Rattle.bag_algebra.specs.Fits.{bag_fits}
use Rattle.bag_algebra.proofs.Truths.{left-true, right-true}

differ-by : (q k : ℕ) (b : Bool) → eq_by_cmp nat_cmp q k ≡ b → q ≢ k → b ≡ false
differ-by q k true e apart = absurd (apart (nat_cmp-IsAntisymmetric q k ((Equal-is (nat_cmp q k)).0 e)))
differ-by q k false e apart = refl

differ : (q k : ℕ) → q ≢ k → eq_by_cmp nat_cmp q k ≡ false
differ q k apart = differ-by q k (eq_by_cmp nat_cmp q k) refl apart

pub get-put : {X : Type 0} (m : FinMap nat_cmp X) (k : ℕ) (v : X) → map.get (map.insert m k v) k ≡ Some v
get-put m k v = get-insert nat_cmp_total m k v k ∙ ap (λ b. cond b (Some v) (map.get m k)) ((eq_by_cmp_equiv nat_cmp_total).refl k)

pub get-put_apart : {X : Type 0} (m : FinMap nat_cmp X) (k : ℕ) (v : X) (q : ℕ) → q ≢ k → map.get (map.insert m k v) q ≡ map.get m q
get-put_apart m k v q apart = get-insert nat_cmp_total m k v q ∙ ap (λ b. cond b (Some v) (map.get m q)) (differ q k apart)

pub get-removed_apart : {X : Type 0} (m : FinMap nat_cmp X) (k q : ℕ) → q ≢ k → map.get (map.remove m k) q ≡ map.get m q
get-removed_apart m k q apart = get-remove nat_cmp_total m k q ∙ ap (λ b. cond b None (map.get m q)) (differ q k apart)

-- ---- rows that fit

abbrev fitting : List Kind → Row → Bool
fitting kinds row = row_fits row kinds

pub fits-append : (us vs : Bag) (kinds : List Kind) → bag_fits us kinds ≡ true → bag_fits vs kinds ≡ true → bag_fits (us ++ vs) kinds ≡ true
fits-append us vs kinds f g = list_all-append (fitting kinds) us vs ∙ (λ i. f i && g i)

fits-pick : (flag : Bool) (us vs : Bag) (kinds : List Kind) → bag_fits us kinds ≡ true → bag_fits vs kinds ≡ true →
    bag_fits (cond flag us vs) kinds ≡ true
fits-pick true us vs kinds f g = f
fits-pick false us vs kinds f g = g

pub fits-unmarked : (flags : List Bool) (us : Bag) (kinds : List Kind) → bag_fits us kinds ≡ true → bag_fits (unmarked flags us) kinds ≡ true
fits-unmarked [] us kinds f = refl
fits-unmarked (flag ∷ flags) [] kinds f = refl
fits-unmarked (flag ∷ flags) (u ∷ us) kinds f =
    let first = left-true (row_fits u kinds) (bag_fits us kinds) f in
    let rest = fits-unmarked flags us kinds (right-true (row_fits u kinds) (bag_fits us kinds) f) in
    fits-pick flag (unmarked flags us) (u ∷ unmarked flags us) kinds rest (λ i. first i && rest i)
