-- Laws of bags: counts, membership, each row once, and bags that are permutations of one another.
use Rattle.std.proofs.Common.{◌≡◌, ℕ, zero, suc, ◌+◌, ◌<◌, ◌≤◌, Bool, true, false, cond, not, ◌&&◌, ◌||◌, List, [], ◌∷◌, ◌++◌, map, filter, flat_map, sum_by, Decides, IsPermutation, length, refl, sym, ap, ◌∙◌, subst, arith, true≢false}
use Rattle.std.proofs.lemmas.List.Sums.{sum_by-cons}
use Rattle.std.proofs.lemmas.List.Sorted.{IsPermutation-refl, IsPermutation-cons, IsPermutation-trans, IsPermutation-swap, sum_by-IsPermutation}
use Rattle.std.specs.Cmp.{decided}
use Rattle.std.specs.List.{list_any}
use Rattle.perm_values.specs.Rows.{same_row, picked}
use Rattle.perm_values.specs.ValueLaws.{row_decides}
use Rattle.bag_algebra.specs.Bags.{Row, Bag, count, member, SameBag, others, once, without_first}
use Rattle.bag_algebra.specs.Means.{class_keys}
use Rattle.bag_algebra.proofs.Truths.{or_associates}

pub same_row-refl : (t : Row) → same_row t t ≡ true
same_row-refl t = (row_decides t t).1 refl

pub same_row-is : (u v : Row) → same_row u v ≡ true → u ≡ v
same_row-is u v e = (row_decides u v).0 e

pub same_row-sym : (u v : Row) → same_row u v ≡ same_row v u
same_row-sym u v = (decided same_row row_decides).symm u v

-- ---- one bag

pub same_bag-refl : (us : Bag) → SameBag us us
same_bag-refl us = record { counts = λ t. refl }

pub same_bag-sym : (us vs : Bag) → SameBag us vs → SameBag vs us
same_bag-sym us vs s = record { counts = λ t. sym (s.counts t) }

pub same_bag-trans : (us vs ws : Bag) → SameBag us vs → SameBag vs ws → SameBag us ws
same_bag-trans us vs ws s r = record { counts = λ t. s.counts t ∙ r.counts t }

pub same_bag-of_equal : (us vs : Bag) → us ≡ vs → SameBag us vs
same_bag-of_equal us vs e = record { counts = λ t. ap (count t) e }

-- ---- counts

step_plus : (b : Bool) (n m k : ℕ) → n ≡ m + k → cond b (suc n) n ≡ cond b (suc m) m + k
step_plus true n m k e = omega arith
step_plus false n m k e = e

pub count-append : (t : Row) (us vs : Bag) → count t (us ++ vs) ≡ count t us + count t vs
count-append t [] vs = omega arith
count-append t (u ∷ us) vs = step_plus (same_row u t) _ _ _ (count-append t us vs)

step_filter : (b d : Bool) (t u : Row) (us : Bag) (n : ℕ) → count t us ≡ cond d n 0 → (same_row u t ≡ true → b ≡ d) →
    count t (cond b (u ∷ us) us) ≡ cond d (cond (same_row u t) (suc n) n) 0
step_filter b d t u us n e f = by_same (same_row u t) b d n refl e f where
  by_same : (s b d : Bool) (n : ℕ) → same_row u t ≡ s → count t us ≡ cond d n 0 → (same_row u t ≡ true → b ≡ d) →
      count t (cond b (u ∷ us) us) ≡ cond d (cond (same_row u t) (suc n) n) 0
  by_same true true true n s e f = rw s (ap suc e)
  by_same true true false n s e f = absurd (true≢false (f s))
  by_same true false true n s e f = absurd (true≢false (sym (f s)))
  by_same true false false n s e f = e
  by_same false true true n s e f = rw s e
  by_same false true false n s e f = rw s e
  by_same false false true n s e f = rw s e
  by_same false false false n s e f = e

none_of : (b : Bool) → zero ≡ cond b 0 0
none_of true = refl
none_of false = refl

pub count-filter : (t : Row) (test : Row → Bool) (us : Bag) → count t (filter test us) ≡ cond (test t) (count t us) 0
count-filter t test [] = none_of (test t)
count-filter t test (u ∷ us) =
    step_filter (test u) (test t) t u (filter test us) (count t us) (count-filter t test us) (λ e. ap test (same_row-is u t e))

-- ---- membership

or_step : (b m : Bool) (n : ℕ) → Decides m (0 < n) → Decides (b || m) (0 < cond b (suc n) n)
or_step true m n d = (λ e. omega arith, λ h. refl)
or_step false m n d = d

pub member_decides : (t : Row) (us : Bag) → Decides (member t us) (0 < count t us)
member_decides t [] = (λ e. absurd (true≢false (sym e)), λ h. absurd (omega arith))
member_decides t (u ∷ us) = or_step (same_row u t) (member t us) (count t us) (member_decides t us)

one_answer : (b d : Bool) (n : ℕ) → Decides b (0 < n) → Decides d (0 < n) → b ≡ d
one_answer true true n p q = refl
one_answer true false n p q = sym (q.1 (p.0 refl))
one_answer false true n p q = p.1 (q.0 refl)
one_answer false false n p q = refl

-- rows are in equal bags alike
pub member-same_bag : (t : Row) (us vs : Bag) → SameBag us vs → member t us ≡ member t vs
member-same_bag t us vs s =
    one_answer (member t us) (member t vs) (count t us) (member_decides t us)
    (subst (λ n. Decides (member t vs) (0 < n)) (sym (s.counts t)) (member_decides t vs))

none_counted : (m : Bool) (n : ℕ) → Decides m (0 < n) → m ≡ false → n ≡ 0
none_counted m zero d e = refl
none_counted m (suc n) d e = absurd (true≢false (sym (d.1 (omega arith)) ∙ e))

-- what isn't in a bag has no count there
pub count-of_none : (t : Row) (us : Bag) → member t us ≡ false → count t us ≡ 0
count-of_none t us e = none_counted (member t us) (count t us) (member_decides t us) e

pub member-head : (t : Row) (us : Bag) → member t (t ∷ us) ≡ true
member-head t us = rw (same_row-refl t)

pub any-append : {X : Type 0} (test : X → Bool) (us vs : List X) → list_any test (us ++ vs) ≡ (list_any test us || list_any test vs)
any-append test [] vs = refl
any-append test (u ∷ us) vs = ap (λ b. test u || b) (any-append test us vs) ∙ sym (or_associates (test u) (list_any test us) (list_any test vs))

pub member-append : (t : Row) (us vs : Bag) → member t (us ++ vs) ≡ (member t us || member t vs)
member-append t us vs = any-append (λ u. same_row u t) us vs

pub member-flat_map : {X : Type 0} (t : Row) (f : X → Bag) (xs : List X) → member t (flat_map f xs) ≡ list_any (λ x. member t (f x)) xs
member-flat_map t f [] = refl
member-flat_map t f (x ∷ xs) = member-append t (f x) (flat_map f xs) ∙ ap (λ b. member t (f x) || b) (member-flat_map t f xs)

pub member-map : {X : Type 0} (t : Row) (f : X → Row) (xs : List X) → member t (map f xs) ≡ list_any (λ x. same_row (f x) t) xs
member-map t f [] = refl
member-map t f (x ∷ xs) = ap (λ b. same_row (f x) t || b) (member-map t f xs)

and_true : (b : Bool) → b ≡ (b && true)
and_true true = refl
and_true false = refl

pub and_false : (b : Bool) → false ≡ (b && false)
and_false true = refl
and_false false = refl

step_member : (s b d m : Bool) (t u : Row) (us : Bag) → same_row u t ≡ s → member t us ≡ (m && d) → (same_row u t ≡ true → b ≡ d) →
    member t (cond b (u ∷ us) us) ≡ ((same_row u t || m) && d)
step_member true true true m t u us s e f = rw s
step_member true true false m t u us s e f = absurd (true≢false (f s))
step_member true false true m t u us s e f = absurd (true≢false (sym (f s)))
step_member true false false m t u us s e f = e ∙ sym (and_false m) ∙ and_false (same_row u t || m)
step_member false true d m t u us s e f = rw s e
step_member false false d m t u us s e f = rw s e

pub member-filter : (t : Row) (test : Row → Bool) (us : Bag) → member t (filter test us) ≡ (member t us && test t)
member-filter t test [] = refl
member-filter t test (u ∷ us) =
    step_member (same_row u t) (test u) (test t) (member t us) t u (filter test us) refl (member-filter t test us) (λ e. ap test (same_row-is u t e))

-- ---- each row once

turned_cond : (b : Bool) (n : ℕ) → cond (not b) n 0 ≡ cond b 0 n
turned_cond true n = refl
turned_cond false n = refl

pub count-others : (t u : Row) (us : Bag) → count t (others u us) ≡ cond (same_row u t) 0 (count t us)
count-others t u us = count-filter t (λ v. not (same_row u v)) us ∙ turned_cond (same_row u t) (count t us)

step_once : (b m : Bool) (n k : ℕ) → n ≡ cond b 0 k → k ≡ cond m 1 0 → cond b (suc n) n ≡ cond (b || m) 1 0
step_once true m n k e f = ap suc e
step_once false m n k e f = e ∙ f

pub at_most_one : (b : Bool) → cond b 1 0 ≤ 1
at_most_one true = omega arith
at_most_one false = omega arith

pub count-once : (t : Row) (us : Bag) → count t (once us) ≡ cond (member t us) 1 0
count-once t [] = refl
count-once t (u ∷ us) = step_once (same_row u t) (member t us) _ _ (count-others t u (once us)) (count-once t us)

pub once-same_members : (us vs : Bag) → ((t : Row) → member t us ≡ member t vs) → SameBag (once us) (once vs)
once-same_members us vs e = record { counts = λ t. count-once t us ∙ ap (λ b. cond b 1 0) (e t) ∙ sym (count-once t vs) }

pub once-same_bag : (us vs : Bag) → SameBag us vs → SameBag (once us) (once vs)
once-same_bag us vs s = once-same_members us vs (λ t. member-same_bag t us vs s)

once_member : (b : Bool) (n : ℕ) → n ≡ cond b 1 0 → Decides b (0 < n)
once_member true n e = (λ _. omega arith, λ h. refl)
once_member false n e = (λ f. absurd (true≢false (sym f)), λ h. absurd (omega arith))

pub keys-once : (groups : List ℕ) (us : Bag) (key : Row) → count key (class_keys groups us) ≤ 1
keys-once [] us key = at_most_one (same_row [] key)
keys-once (group ∷ groups) us key =
    let keys = map (picked (group ∷ groups)) us in
    subst (λ n. n ≤ 1) (sym (count-once key keys)) (at_most_one (member key keys))

pub member-once : (t : Row) (us : Bag) → member t (once us) ≡ member t us
member-once t us =
    one_answer (member t (once us)) (member t us) (count t (once us)) (member_decides t (once us))
    (once_member (member t us) (count t (once us)) (count-once t us))

-- ---- permutations

pub data Permuted {X : Type 0} : List X → List X → Type 0 where
  nothing : Permuted [] []
  onward : {us vs : List X} (u : X) → Permuted us vs → Permuted (u ∷ us) (u ∷ vs)
  turn : (u v : X) (us : List X) → Permuted (u ∷ v ∷ us) (v ∷ u ∷ us)
  joined : {us vs ws : List X} → Permuted us vs → Permuted vs ws → Permuted us ws

pub permuted-refl : {X : Type 0} (us : List X) → Permuted us us
permuted-refl [] = nothing
permuted-refl (u ∷ us) = onward u (permuted-refl us)

pub permuted-sym : {X : Type 0} {us vs : List X} → Permuted us vs → Permuted vs us
permuted-sym nothing = nothing
permuted-sym (onward u p) = onward u (permuted-sym p)
permuted-sym (turn u v us) = turn v u us
permuted-sym (joined p q) = joined (permuted-sym q) (permuted-sym p)

pub permuted-append_left : {X : Type 0} (ws : List X) {us vs : List X} → Permuted us vs → Permuted (ws ++ us) (ws ++ vs)
permuted-append_left [] p = p
permuted-append_left (w ∷ ws) p = onward w (permuted-append_left ws p)

pub permuted-append_right : {X : Type 0} {us vs : List X} (ws : List X) → Permuted us vs → Permuted (us ++ ws) (vs ++ ws)
permuted-append_right ws nothing = permuted-refl ws
permuted-append_right ws (onward u p) = onward u (permuted-append_right ws p)
permuted-append_right ws (turn u v us) = turn u v (us ++ ws)
permuted-append_right ws (joined p q) = joined (permuted-append_right ws p) (permuted-append_right ws q)

pub permuted-map : {X Y : Type 0} (f : X → Y) {us vs : List X} → Permuted us vs → Permuted (map f us) (map f vs)
permuted-map f nothing = nothing
permuted-map f (onward u p) = onward (f u) (permuted-map f p)
permuted-map f (turn u v us) = turn (f u) (f v) (map f us)
permuted-map f (joined p q) = joined (permuted-map f p) (permuted-map f q)

kept_onward : {X : Type 0} (b : Bool) (u : X) {us vs : List X} → Permuted us vs → Permuted (cond b (u ∷ us) us) (cond b (u ∷ vs) vs)
kept_onward true u p = onward u p
kept_onward false u p = p

kept_turn : {X : Type 0} (b c : Bool) (u v : X) (us : List X) →
    Permuted (cond b (u ∷ cond c (v ∷ us) us) (cond c (v ∷ us) us)) (cond c (v ∷ cond b (u ∷ us) us) (cond b (u ∷ us) us))
kept_turn true true u v us = turn u v us
kept_turn true false u v us = permuted-refl (u ∷ us)
kept_turn false true u v us = permuted-refl (v ∷ us)
kept_turn false false u v us = permuted-refl us

pub permuted-filter : {X : Type 0} (test : X → Bool) {us vs : List X} → Permuted us vs → Permuted (filter test us) (filter test vs)
permuted-filter test nothing = nothing
permuted-filter test (onward u p) = kept_onward (test u) u (permuted-filter test p)
permuted-filter test (turn u v us) = kept_turn (test u) (test v) u v (filter test us)
permuted-filter test (joined p q) = joined (permuted-filter test p) (permuted-filter test q)

pub permuted-length : {X : Type 0} {us vs : List X} → Permuted us vs → length us ≡ length vs
permuted-length nothing = refl
permuted-length (onward u p) = ap suc (permuted-length p)
permuted-length (turn u v us) = refl
permuted-length (joined p q) = permuted-length p ∙ permuted-length q

turned_counts : (b d : Bool) (n : ℕ) → cond b (suc (cond d (suc n) n)) (cond d (suc n) n) ≡ cond d (suc (cond b (suc n) n)) (cond b (suc n) n)
turned_counts true true n = refl
turned_counts true false n = refl
turned_counts false true n = refl
turned_counts false false n = refl

pub permuted-counts : {us vs : Bag} → Permuted us vs → (t : Row) → count t us ≡ count t vs
permuted-counts nothing t = refl
permuted-counts (onward u p) t = ap (λ n. cond (same_row u t) (suc n) n) (permuted-counts p t)
permuted-counts (turn u v us) t = turned_counts (same_row u t) (same_row v t) (count t us)
permuted-counts (joined p q) t = permuted-counts p t ∙ permuted-counts q t

pub same_bag-from_permuted : {us vs : Bag} → Permuted us vs → SameBag us vs
same_bag-from_permuted p = record { counts = permuted-counts p }

taken_out : (u v : Row) (vs : Bag) (b : Bool) → same_row v u ≡ b → (b || member u vs) ≡ true →
    (member u vs ≡ true → Permuted vs (u ∷ without_first u vs)) → Permuted (v ∷ vs) (u ∷ cond b vs (v ∷ without_first u vs))
taken_out u v vs true s e further = subst (λ w. Permuted (v ∷ vs) (w ∷ vs)) (same_row-is v u s) (permuted-refl (v ∷ vs))
taken_out u v vs false s e further = joined (onward v (further e)) (turn v u (without_first u vs))

-- a row of a bag may stand in front
pub permuted-to_front : (u : Row) (vs : Bag) → member u vs ≡ true → Permuted vs (u ∷ without_first u vs)
permuted-to_front u [] e = absurd (true≢false (sym e))
permuted-to_front u (v ∷ vs) e = taken_out u v vs (same_row v u) refl e (permuted-to_front u vs)

peeled : (b : Bool) (n m : ℕ) → cond b (suc n) n ≡ cond b (suc m) m → n ≡ m
peeled true n m e = omega arith
peeled false n m e = e

pub same_bag-tail : (u : Row) (us vs : Bag) → SameBag (u ∷ us) (u ∷ vs) → SameBag us vs
same_bag-tail u us vs s = record { counts = λ t. peeled (same_row u t) (count t us) (count t vs) (s.counts t) }

nothing_else : (v : Row) (vs : Bag) → SameBag [] (v ∷ vs) → [] ≡ v ∷ vs
nothing_else v vs s =
    let e : 0 ≡ suc (count v vs) = s.counts v ∙ ap (λ b. cond b (suc (count v vs)) (count v vs)) (same_row-refl v) in
    absurd (omega arith)

first_member : (u : Row) (us vs : Bag) → SameBag (u ∷ us) vs → member u vs ≡ true
first_member u us vs s = sym (member-same_bag u (u ∷ us) vs s) ∙ member-head u us

pub permuted-from_same_bag : (us vs : Bag) → SameBag us vs → Permuted us vs
permuted-from_same_bag [] [] s = nothing
permuted-from_same_bag [] (v ∷ vs) s = subst (λ l. Permuted [] l) (nothing_else v vs s) nothing
permuted-from_same_bag (u ∷ us) vs s =
    let p = permuted-to_front u vs (first_member u us vs s) in
    let rest = same_bag-tail u us (without_first u vs) (same_bag-trans (u ∷ us) vs (u ∷ without_first u vs) s (same_bag-from_permuted p)) in
    joined (onward u (permuted-from_same_bag us (without_first u vs) rest)) (permuted-sym p)

-- ---- std's permutations

counted : (t : Row) (us : Bag) → sum_by (λ u. cond (same_row u t) 1 0) us ≡ count t us
counted t [] = refl
counted t (u ∷ us) = sum_by-cons (λ v. cond (same_row v t) 1 0) u us ∙ ap (λ n. cond (same_row u t) 1 0 + n) (counted t us) ∙ one_more (same_row u t) (count t us)
  where
    one_more : (b : Bool) (n : ℕ) → cond b 1 0 + n ≡ cond b (suc n) n
    one_more true n = omega arith
    one_more false n = omega arith

pub same_bag-from_permutation : (us vs : Bag) → IsPermutation us vs → SameBag us vs
same_bag-from_permutation us vs p = record {
  counts = λ t. sym (counted t us) ∙ sym (sum_by-IsPermutation (λ u. cond (same_row u t) 1 0) us vs p) ∙ counted t vs;
}

pub permuted-from_permutation : (us vs : Bag) → IsPermutation us vs → Permuted us vs
permuted-from_permutation us vs p = permuted-from_same_bag us vs (same_bag-from_permutation us vs p)

pub permutation-from_permuted : {X : Type 0} {us vs : List X} → Permuted us vs → IsPermutation us vs
permutation-from_permuted nothing = IsPermutation-refl []
permutation-from_permuted (onward u p) = IsPermutation-cons u _ _ (permutation-from_permuted p)
permutation-from_permuted (turn u v us) = IsPermutation-swap (u ∷ v ∷ us) (v ∷ u ∷ us) 0 1 (omega arith) (omega arith) refl
permutation-from_permuted (joined p q) = IsPermutation-trans _ _ _ (permutation-from_permuted p) (permutation-from_permuted q)
