-- Set operations, DISTINCT, LIMIT and PROVENANCE keep what their inputs mean the same, up to order.
use Rattle.std.proofs.Common.{◌≡◌, ℕ, ◌-◌, min, Bool, true, false, cond, not, List, [], ◌∷◌, ◌++◌, filter, take, sym, ap, ◌∙◌, subst}
use Rattle.perm_values.specs.Rows.{same_row, printed_cmp}
use Rattle.perm_values.specs.declared.key.Key.{Key}
use Rattle.bag_algebra.proofs.BagLaws.{Permuted, permuted-refl, permuted-filter, permuted-counts, once-same_bag, once-same_members, same_bag-from_permuted, permuted-from_same_bag}
use Rattle.bag_algebra.proofs.Members.{same_members}
use Rattle.bag_algebra.proofs.SortedBags.{printed_unique}
use Rattle.bag_algebra.specs.Bags.{Row, Bag, count, member, once, in_both, beyond, union_of, intersect_of, except_of, sorted}
use Rattle.bag_algebra.specs.Means.{Means, Witness, union_means, intersect_means, differing_lists, except_means, distinct_means, limit_means, with_witnesses, provenance_means, flat}
use Rattle.contribution.proofs.Agreement.{permuted-append, mapped-agree, both-agree}
use Rattle.contribution.proofs.OrderOfRows.{Alike, with_lists-alike, unlisted_means-alike, member-permuted, any-permuted, permuted-good_rows}
use Rattle.contribution.proofs.SharedMembers.{Shared, shared-refl, shared-permuted, shared-map, shared-flat_map, shared-append, shared-paired}
use Rattle.bag_algebra.proofs.SetCounts.{count-in_both, count-beyond}

-- ---- the rows

by_counts : (us vs : Bag) → ((t : Row) → count t us ≡ count t vs) → Permuted us vs
by_counts us vs e = permuted-from_same_bag us vs (record { counts = e })

pub permuted-once : {us vs : Bag} → Permuted us vs → Permuted (once us) (once vs)
permuted-once {us} {vs} p = permuted-from_same_bag (once us) (once vs) (once-same_bag us vs (same_bag-from_permuted p))

permuted-either : (all : Bool) {us vs xs ys : Bag} → Permuted us vs → Permuted xs ys → Permuted (cond all us (once xs)) (cond all vs (once ys))
permuted-either true p q = p
permuted-either false p q = permuted-once q

permuted-members : (test : Bool → Bool) {us vs xs ys : Bag} → Permuted us vs → Permuted xs ys →
    Permuted (filter (λ u. test (member u xs)) us) (filter (λ u. test (member u ys)) vs)
permuted-members test {us} {vs} {xs} {ys} p q =
    let e : (λ (u : Row). test (member u xs)) ≡ (λ (u : Row). test (member u ys)) = λ i u. test (member-permuted u q i) in
    subst (λ f. Permuted (filter (λ u. test (member u xs)) us) (filter f vs)) e (permuted-filter _ p)

pub union_of-permuted : (all : Bool) (us vs xs ys : Bag) → Permuted us vs → Permuted xs ys → Permuted (union_of all us xs) (union_of all vs ys)
union_of-permuted all us vs xs ys p q = permuted-either all (permuted-append p q) (permuted-append p q)

pub intersect_of-permuted : (all : Bool) (us vs xs ys : Bag) → Permuted us vs → Permuted xs ys →
    Permuted (intersect_of all us xs) (intersect_of all vs ys)
intersect_of-permuted all us vs xs ys p q =
    permuted-either all
    (by_counts (in_both us xs) (in_both vs ys) (λ t. count-in_both t us xs ∙ (λ i. min (permuted-counts p t i) (permuted-counts q t i)) ∙ sym (count-in_both t vs ys)))
    (permuted-members (λ b. b) p q)

pub except_of-permuted : (all : Bool) (us vs xs ys : Bag) → Permuted us vs → Permuted xs ys → Permuted (except_of all us xs) (except_of all vs ys)
except_of-permuted all us vs xs ys p q =
    permuted-either all
    (by_counts (beyond us xs) (beyond vs ys) (λ t. count-beyond t us xs ∙ (λ i. permuted-counts p t i - permuted-counts q t i) ∙ sym (count-beyond t vs ys)))
    (permuted-members not p q)

-- ---- set operations

pub union_means-alike : (all : Bool) (left_blank right_blank : Witness) {l r m n : Means} → Alike l m → Alike r n →
    Alike (union_means all left_blank right_blank l r) (union_means all left_blank right_blank m n)
union_means-alike all left_blank right_blank a b =
    with_lists-alike _ _ (both-agree (union_of all) (union_of all) a.rows b.rows (union_of-permuted all))
    (λ t. shared-append (shared-map (λ w. w ++ right_blank) (a.lists t)) (shared-map (λ w. left_blank ++ w) (b.lists t)))

pub intersect_means-alike : (all : Bool) {l r m n : Means} → Alike l m → Alike r n → Alike (intersect_means all l r) (intersect_means all m n)
intersect_means-alike all a b =
    with_lists-alike _ _ (both-agree (intersect_of all) (intersect_of all) a.rows b.rows (intersect_of-permuted all))
    (λ t. shared-paired (a.lists t) (b.lists t))

pub shared-either : {X : Type 0} (b d : Bool) {us vs xs ys : List X} → b ≡ d → Shared us vs → Shared xs ys → Shared (cond b us xs) (cond d vs ys)
shared-either {X} b d {us} {vs} {xs} {ys} e s r = subst (λ c. Shared (cond b us xs) (cond c vs ys)) e (alike b) where
  alike : (c : Bool) → Shared (cond c us xs) (cond c vs ys)
  alike true = s
  alike false = r

shared-differing_lists : (blank : Witness) {r n : Means} → Alike r n → (t : Row) → Shared (differing_lists blank r t) (differing_lists blank n t)
shared-differing_lists blank {r} {n} b t =
    let p = permuted-filter (λ v. not (same_row v t)) (permuted-good_rows b.rows) in
    shared-either _ _ (any-permuted (λ v. true) p) (shared-flat_map r.lists n.lists (shared-permuted p) b.lists) (shared-refl (blank ∷ []))

pub except_means-alike : (all : Bool) (right_blank : Witness) {l r m n : Means} → Alike l m → Alike r n →
    Alike (except_means all right_blank l r) (except_means all right_blank m n)
except_means-alike all right_blank a b =
    with_lists-alike _ _ (both-agree (except_of all) (except_of all) a.rows b.rows (except_of-permuted all))
    (λ t. shared-paired (a.lists t) (shared-differing_lists right_blank b t))

-- ---- Distinct, Limit and PROVENANCE

pub distinct_means-alike : {m n : Means} → Alike m n → Alike (distinct_means m) (distinct_means n)
distinct_means-alike a = with_lists-alike _ _ (mapped-agree once once a.rows (λ us vs p. permuted-once p)) a.lists

pub limit_means-alike : (keys : List Key) (limit : ℕ) {m n : Means} → Alike m n → Alike (limit_means keys limit m) (limit_means keys limit n)
limit_means-alike keys limit a =
    let first : Bag → Bag = λ bag. take limit (sorted (printed_cmp keys) bag) in
    with_lists-alike _ _
    (mapped-agree first first a.rows (λ us vs p.
    subst (Permuted (first us)) (ap (take limit) (printed_unique keys us vs (same_bag-from_permuted p))) (permuted-refl (first us))))
    a.lists

once_members : {us vs : Bag} → Shared us vs → Permuted (once us) (once vs)
once_members {us} {vs} s = permuted-from_same_bag (once us) (once vs) (once-same_members us vs (same_members us vs s.there.within s.back.within))

pub provenance_means-alike : {m n : Means} → Alike m n → Alike (provenance_means m) (provenance_means n)
provenance_means-alike {m} {n} a =
    unlisted_means-alike
    (mapped-agree _ _ a.rows (λ us vs p.
    once_members (shared-flat_map (with_witnesses m.lists) (with_witnesses n.lists) (shared-permuted p) (λ t. shared-map (λ w. t ++ flat w) (a.lists t)))))
