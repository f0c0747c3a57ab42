-- Each node of a query keeps what its inputs mean the same, up to the order of rows and of witness lists.
use Rattle.std.proofs.Common.{◌≡◌, ℕ, Bool, true, false, cond, not, ◌&&◌, ◌||◌, List, [], ◌∷◌, ◌++◌, filter, refl, ap, ◌∙◌, subst}
use Rattle.std.specs.List.{list_any}
use Rattle.perm_values.specs.Rows.{same_row, picked}
use Rattle.perm_values.specs.declared.value.Value.{Value}
use Rattle.bag_algebra.proofs.BagLaws.{Permuted, nothing, onward, turn, joined, permuted-refl, permuted-map, permuted-filter, same_bag-from_permuted, member-same_bag}
use Rattle.bag_algebra.specs.Bags.{Row, Bag, member, nulls}
use Rattle.bag_algebra.specs.Means.{Means, Witness, Held, with_lists, beside, unlisted_means, base_means, kept, filter_means, gives, good_rows, project_means, keeps_left, keeps_right, is_met, unmatched_left, unmatched_right, met_pairs, joined_rows, Blanks, pair_lists, left_lists, right_lists, join_means, under, lists_under, apply_means, paired}
use Rattle.bag_algebra.specs.Outcome.{Outcome, mapped, gather, each}
use Rattle.bag_algebra.specs.declared.query.JoinKind.{JoinKind}
use Rattle.contribution.proofs.Agreement.{Agree, agree_good, agree_bad, agree-trans, permuted-append, gather-permuted, gather-agree, each-permuted, and_then-agree, mapped-agree, both_then-agree}
use Rattle.contribution.proofs.SharedMembers.{Shared, shared-refl, shared-trans, shared-permuted, shared-map, shared-flat_map, shared-append, shared-where, shared-paired, SharedEach, shared-beside}
use Rattle.bag_algebra.proofs.Truths.{or_turn}

-- the same rows in some order, and the same lists of each row
pub record Alike (m n : Means) : Type 0 where
  pub rows : Agree m.rows n.rows
  pub lists : (t : Row) → Shared (m.lists t) (n.lists t)

pub member-permuted : (t : Row) {us vs : Bag} → Permuted us vs → member t us ≡ member t vs
member-permuted t {us} {vs} p = member-same_bag t us vs (same_bag-from_permuted p)

pub with_lists-alike : {o p : Outcome Bag} (f g : Row → List Witness) → Agree o p → ((t : Row) → Shared (f t) (g t)) →
    Alike (with_lists o f) (with_lists p g)
with_lists-alike f g (agree_good {xs = us} {ys = vs} p) s = record {
  rows = agree_good p;
  lists = λ t. shared-where (member t us) (member t vs) (member-permuted t p) (s t);
}
with_lists-alike f g (agree_bad faults) s = record { rows = agree_bad faults; lists = λ t. shared-refl [] }

pub permuted-good_rows : {o p : Outcome Bag} → Agree o p → Permuted (good_rows o) (good_rows p)
permuted-good_rows (agree_good p) = p
permuted-good_rows (agree_bad f) = nothing

-- ---- sources

pub unlisted_means-alike : {o p : Outcome Bag} → Agree o p → Alike (unlisted_means o) (unlisted_means p)
unlisted_means-alike a = with_lists-alike _ _ a (λ t. shared-refl ([] ∷ []))

pub base_means-alike : (places : List ℕ) {m n : Means} → Alike m n → Alike (base_means places m) (base_means places n)
base_means-alike places a = with_lists-alike _ _ a.rows (λ t. shared-refl ((Held (picked places t) ∷ []) ∷ []))

-- ---- Filter and Project, with any contributions that are the same

-- the contributions of a node's sublinks are the same on each row
pub record SameContributions (c d : Row → List (List Witness)) : Type 0 where
  pub on : (u : Row) → SharedEach (c u) (d u)

pub filter_means-alike : (condition : Row → Outcome Value) {c d : Row → List (List Witness)} {m n : Means} → SameContributions c d → Alike m n →
    Alike (filter_means condition c m) (filter_means condition d n)
filter_means-alike condition s a =
    with_lists-alike _ _
    (and_then-agree (gather (kept condition)) (gather (kept condition)) a.rows (λ us vs p. gather-permuted (kept condition) p))
    (λ t. shared-beside (a.lists t) (s.on t))

pub project_means-alike : (items : Row → Outcome Row) {c d : Row → List (List Witness)} {m n : Means} → SameContributions c d → Alike m n →
    Alike (project_means items c m) (project_means items d n)
project_means-alike items {c} {d} {m} {n} s a =
    with_lists-alike _ _
    (and_then-agree (each items) (each items) a.rows (λ us vs p. each-permuted items p))
    (λ t. shared-flat_map (λ u. beside (m.lists u) (c u)) (λ u. beside (n.lists u) (d u))
    (shared-permuted (permuted-filter (λ u. gives t (items u)) (permuted-good_rows a.rows)))
    (λ u. shared-beside (a.lists u) (s.on u)))

-- ---- joins

pub any-permuted : {X : Type 0} (test : X → Bool) {us vs : List X} → Permuted us vs → list_any test us ≡ list_any test vs
any-permuted test nothing = refl
any-permuted test (onward u p) = ap (λ b. test u || b) (any-permuted test p)
any-permuted test (turn u v us) = or_turn (test u) (test v) (list_any test us)
any-permuted test (joined p q) = any-permuted test p ∙ any-permuted test q

module _ (condition : Row → Outcome Value) where
  permuted-unmatched_left : {us vs xs ys : Bag} → Permuted us vs → Permuted xs ys →
      Permuted (unmatched_left condition us xs) (unmatched_left condition vs ys)
  permuted-unmatched_left {us} {vs} {xs} {ys} p q =
      let e : (λ (u : Row). not (list_any (λ v. is_met (condition (u ++ v))) xs)) ≡ (λ (u : Row). not (list_any (λ v. is_met (condition (u ++ v))) ys)) =
      λ i u. not (any-permuted (λ v. is_met (condition (u ++ v))) q i) in
      subst (λ test. Permuted (unmatched_left condition us xs) (filter test vs)) e (permuted-filter _ p)

  permuted-unmatched_right : {us vs xs ys : Bag} → Permuted us vs → Permuted xs ys →
      Permuted (unmatched_right condition us xs) (unmatched_right condition vs ys)
  permuted-unmatched_right {us} {vs} {xs} {ys} p q =
      let e : (λ (v : Row). not (list_any (λ u. is_met (condition (u ++ v))) us)) ≡ (λ (v : Row). not (list_any (λ u. is_met (condition (u ++ v))) vs)) =
      λ i v. not (any-permuted (λ u. is_met (condition (u ++ v))) p i) in
      subst (λ test. Permuted (unmatched_right condition us xs) (filter test ys)) e (permuted-filter _ q)

  met_pairs-agree : {us vs xs ys : Bag} → Permuted us vs → Permuted xs ys → Agree (met_pairs condition us xs) (met_pairs condition vs ys)
  met_pairs-agree {us} {vs} {xs} {ys} p q =
      agree-trans (gather-permuted (λ u. gather (λ v. kept condition (u ++ v)) xs) p)
      (gather-agree (λ u. gather (λ v. kept condition (u ++ v)) xs) (λ u. gather (λ v. kept condition (u ++ v)) ys)
      (λ u. gather-permuted (λ v. kept condition (u ++ v)) q) vs)

  permuted-where : {X : Type 0} (b : Bool) {us vs : List X} → Permuted us vs → Permuted (cond b us []) (cond b vs [])
  permuted-where true p = p
  permuted-where false p = nothing

  joined_rows-agree : (kind : JoinKind) (left_width right_width : ℕ) (us vs xs ys : Bag) → Permuted us vs → Permuted xs ys →
      Agree (joined_rows kind condition left_width right_width us xs) (joined_rows kind condition left_width right_width vs ys)
  joined_rows-agree kind left_width right_width us vs xs ys p q =
      mapped-agree _ _ (met_pairs-agree p q) (λ pairs others r.
      permuted-append (permuted-append r
      (permuted-where (keeps_left kind) (permuted-map (λ u. u ++ nulls right_width) (permuted-unmatched_left p q))))
      (permuted-where (keeps_right kind) (permuted-map (λ v. nulls left_width ++ v) (permuted-unmatched_right p q))))

  module _ {c d : Row → List (List Witness)} {l r m n : Means} (s : SameContributions c d) (a : Alike l m) (b : Alike r n)
      {us vs xs ys : Bag} (p : Permuted us vs) (q : Permuted xs ys) (t : Row) where
    shared-pair_lists : Shared (pair_lists condition c l r us xs t) (pair_lists condition d m n vs ys t)
    shared-pair_lists =
        shared-flat_map _ _ (shared-permuted p) (λ u. shared-flat_map _ _ (shared-permuted q) (λ v.
        shared-where (same_row (u ++ v) t && is_met (condition (u ++ v))) _ refl
        (shared-beside (shared-paired (a.lists u) (b.lists v)) (s.on (u ++ v)))))

    shared-left_lists : (blanks : Blanks) (width : ℕ) →
        Shared (left_lists condition l blanks width us xs t) (left_lists condition m blanks width vs ys t)
    shared-left_lists blanks width =
        shared-flat_map _ _ (shared-permuted (permuted-filter (λ u. same_row (u ++ nulls width) t) (permuted-unmatched_left p q)))
        (λ u. shared-map (λ w. w ++ blanks.right ++ blanks.subs) (a.lists u))

    shared-right_lists : (blanks : Blanks) (width : ℕ) →
        Shared (right_lists condition r blanks width us xs t) (right_lists condition n blanks width vs ys t)
    shared-right_lists blanks width =
        shared-flat_map _ _ (shared-permuted (permuted-filter (λ v. same_row (nulls width ++ v) t) (permuted-unmatched_right p q)))
        (λ v. shared-map (λ w. blanks.left ++ w ++ blanks.subs) (b.lists v))

  pub join_means-alike : (kind : JoinKind) {c d : Row → List (List Witness)} (blanks : Blanks) (left_width right_width : ℕ) {l r m n : Means} →
      SameContributions c d → Alike l m → Alike r n →
      Alike (join_means kind condition c blanks left_width right_width l r) (join_means kind condition d blanks left_width right_width m n)
  join_means-alike kind {c} {d} blanks left_width right_width {l} {r} {m} {n} s a b =
      let p = permuted-good_rows a.rows in
      let q = permuted-good_rows b.rows in
      with_lists-alike _ _
      (both_then-agree _ _ a.rows b.rows (joined_rows-agree kind left_width right_width))
      (λ t. shared-append (shared-append (shared-pair_lists s a b p q t)
      (shared-where (keeps_left kind) (keeps_left kind) refl (shared-left_lists s a b p q t blanks right_width)))
      (shared-where (keeps_right kind) (keeps_right kind) refl (shared-right_lists s a b p q t blanks left_width)))

-- ---- dependent joins

module _ (kind : JoinKind) (width : ℕ) (u : Row) where
  pub permuted-under : {vs xs : Bag} → Permuted vs xs → Permuted (under kind width u vs) (under kind width u xs)
  permuted-under nothing = permuted-refl (under kind width u [])
  permuted-under (onward v p) = permuted-map (λ w. u ++ w) (onward v p)
  permuted-under (turn v w us) = permuted-map (λ w. u ++ w) (turn v w us)
  permuted-under (joined p q) = joined (permuted-under p) (permuted-under q)

  module _ (blank : Witness) (t : Row) where
    shared-under_permuted : (ws : List Witness) (lists : Row → List Witness) {vs xs : Bag} → Permuted vs xs →
        Shared (lists_under kind width blank ws lists t u vs) (lists_under kind width blank ws lists t u xs)
    shared-under_permuted ws lists nothing = shared-refl (lists_under kind width blank ws lists t u [])
    shared-under_permuted ws lists (onward v p) = shared-flat_map _ _ (shared-permuted (onward v p)) (λ x. shared-refl (cond (same_row (u ++ x) t) (paired ws (lists x)) []))
    shared-under_permuted ws lists (turn v w us) = shared-flat_map _ _ (shared-permuted (turn v w us)) (λ x. shared-refl (cond (same_row (u ++ x) t) (paired ws (lists x)) []))
    shared-under_permuted ws lists (joined p q) = shared-trans (shared-under_permuted ws lists p) (shared-under_permuted ws lists q)

    shared-under_lists : {vs ws : List Witness} {lists others : Row → List Witness} → Shared vs ws → ((x : Row) → Shared (lists x) (others x)) → (xs : Bag) →
        Shared (lists_under kind width blank vs lists t u xs) (lists_under kind width blank ws others t u xs)
    shared-under_lists s e [] =
        let stays = keeps_left kind && same_row (u ++ nulls width) t in shared-where stays stays refl (shared-map (λ w. w ++ blank) s)
    shared-under_lists s e (x ∷ xs) =
        shared-flat_map _ _ (shared-refl (x ∷ xs)) (λ y. shared-where (same_row (u ++ y) t) (same_row (u ++ y) t) refl (shared-paired s (e y)))

pub apply_means-alike : (kind : JoinKind) (width : ℕ) (blank : Witness) {l m : Means} {r n : Row → Means} → Alike l m → ((u : Row) → Alike (r u) (n u)) →
    Alike (apply_means kind width blank l r) (apply_means kind width blank m n)
apply_means-alike kind width blank {l} {m} {r} {n} a b =
    let f : Row → Outcome Bag = λ u. mapped (under kind width u) (r u).rows in
    let g : Row → Outcome Bag = λ u. mapped (under kind width u) (n u).rows in
    with_lists-alike _ _
    (and_then-agree (gather f) (gather g) a.rows (λ us vs p. agree-trans (gather-permuted f p)
    (gather-agree f g (λ u. mapped-agree (under kind width u) (under kind width u) (b u).rows (λ xs ys q. permuted-under kind width u q)) vs)))
    (λ t. shared-flat_map _ _ (shared-permuted (permuted-good_rows a.rows)) (λ u. shared-trans
    (shared-under_lists kind width u blank t (a.lists u) (b u).lists (good_rows (r u).rows))
    (shared-under_permuted kind width u blank t (m.lists u) (n u).lists (permuted-good_rows (b u).rows))))
