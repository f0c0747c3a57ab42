-- The law of Join.
use Rattle.std.proofs.Common.{◌≡◌, ℕ, zero, suc, ◌+◌, ◌*◌, Bool, true, false, cond, ◌&&◌, List, [], ◌∷◌, ◌++◌, map, filter, length, sum_by, refl, sym, ap, subst, ◌∙◌, arith, true≢false}
use Rattle.std.proofs.Math.Nat.{zero-mul, suc-mul, mul-zero, mul-one}
use Rattle.std.proofs.lemmas.List.Sums.{sum_by-cons}
use Rattle.perm_values.specs.Rows.{same_row}
use Rattle.perm_values.specs.Values.{same_value}
use Rattle.perm_values.specs.declared.value.Value.{Value}
use Rattle.bag_algebra.proofs.BagLaws.{same_row-is, same_row-refl, count-append}
use Rattle.bag_algebra.specs.Bags.{Row, Bag, count, nulls}
use Rattle.bag_algebra.specs.Means.{holds_of, is_met, kept, good_rows, keeps_left, keeps_right, unmatched_left, unmatched_right, met_pairs, joined_rows}
use Rattle.bag_algebra.specs.Outcome.{Outcome, Good, both_then, gather}
use Rattle.bag_algebra.specs.declared.query.JoinKind.{JoinKind}
use Rattle.query_laws.specs.Faults.{OverPairs}
use Rattle.query_laws.specs.Holding.{InBag, HasWidth, Lists}
use Rattle.query_laws.specs.Nodes.{IsJoinOf, makes, pairs_count, is_unmatched_left, is_unmatched_right, left_count, right_count}
use Rattle.query_laws.proofs.Filtered.{kept-rows}
use Rattle.query_laws.proofs.Once.{in_bag-behind, in_bag-front}
use Rattle.query_laws.proofs.Outcomes.{over-gather, over-part, over-mapped, over_pairs, gather-is, both_then-unites}
use Rattle.query_laws.proofs.Sums.{one_if, sum_by-same, sum_by-filter, sum_by-scaled, count-flat_map, count-map, sum_by-listed, sum_by-passing, unit-cond}
use Rattle.bag_algebra.proofs.Truths.{and_associates}
use Rattle.bag_algebra.proofs.Outcomes.{same_good, both-is, mapped-is}

-- ---- pairs as they come

kept_count : (m : Bool) (t x : Row) → count t (cond m (x ∷ []) []) ≡ one_if (same_row x t && m)
kept_count true t x = by (same_row x t) where
  by : (s : Bool) → one_if s ≡ one_if (s && true)
  by true = refl
  by false = refl
kept_count false t x = by (same_row x t) where
  by : (s : Bool) → zero ≡ one_if (s && false)
  by true = refl
  by false = refl

module _ (condition : Row → Outcome Value) (t : Row) where
  -- how often a left row makes the row with right ones
  abbrev partners : Bag → Row → ℕ
  partners vs u = sum_by (λ v. one_if (makes condition t u v)) vs

  of_one_left : (u : Row) (vs found : Bag) → gather (λ v. kept condition (u ++ v)) vs ≡ Good found → count t found ≡ partners vs u
  of_one_left u vs found e =
      ap (count t) (gather-is (λ v. kept condition (u ++ v)) vs found e)
      ∙ count-flat_map t (λ v. good_rows (kept condition (u ++ v))) vs
      ∙ sum_by-same (λ v. count t (good_rows (kept condition (u ++ v)))) (λ v. one_if (makes condition t u v)) vs
      (λ v. ap (count t) (kept-rows condition (u ++ v)) ∙ kept_count (is_met (condition (u ++ v))) t (u ++ v))

  count-met_pairs : (us vs pairs : Bag) → met_pairs condition us vs ≡ Good pairs → count t pairs ≡ sum_by (partners vs) us
  count-met_pairs [] vs pairs e = ap (count t) (sym (same_good [] pairs e))
  count-met_pairs (u ∷ us) vs pairs e =
      let parts = both-is (λ y ys. y ++ ys) (gather (λ v. kept condition (u ++ v)) vs) (met_pairs condition us vs) pairs e in
      ap (count t) (sym parts.4) ∙ count-append t parts.0 parts.1
      ∙ (λ i. of_one_left u vs parts.0 parts.2 i + count-met_pairs us vs parts.1 parts.3 i)
      ∙ sym (sum_by-cons (partners vs) u us)

  -- the same over each row once
  count-listed_pairs : (us vs : Bag) (lefts rights : List Row) → Lists lefts us → Lists rights vs →
      sum_by (partners vs) us ≡ pairs_count condition t us vs lefts rights
  count-listed_pairs us vs lefts rights l r =
      sum_by-listed (partners vs) lefts us l
      ∙ sum_by-same (λ u. count u us * partners vs u) (λ u. sum_by (λ v. count u us * count v vs) (filter (makes condition t u) rights)) lefts
      (λ u. ap (λ n. count u us * n) (sum_by-passing (makes condition t u) rights vs r)
      ∙ sum_by-scaled (count u us) (λ v. count v vs) (filter (makes condition t u) rights))

-- ---- unmatched rows

joined_tests : (a b : Bool) → cond b (one_if a) 0 ≡ one_if (a && b)
joined_tests true true = refl
joined_tests true false = refl
joined_tests false true = refl
joined_tests false false = refl

-- rows that pass, beside something, as they come
count-beside : (t : Row) (beside : Row → Row) (test : Row → Bool) (us : Bag) →
    count t (map beside (filter test us)) ≡ sum_by (λ u. one_if (same_row (beside u) t && test u)) us
count-beside t beside test us =
    count-map t beside (filter test us)
    ∙ sum_by-filter (λ u. one_if (same_row (beside u) t)) test us
    ∙ sum_by-same (λ u. cond (test u) (one_if (same_row (beside u) t)) 0) (λ u. one_if (same_row (beside u) t && test u)) us
    (λ u. joined_tests (same_row (beside u) t) (test u))

count-if : (b : Bool) (t : Row) (us : Bag) → count t (cond b us []) ≡ cond b (count t us) 0
count-if true t us = refl
count-if false t us = refl

-- ---- the parts of a join's rows

three : (n a ab b c s : ℕ) → n ≡ ab + c → ab ≡ a + b → a ≡ s → n ≡ s + b + c
three n a ab b c s e f g = omega arith

module _ (kind : JoinKind) (condition : Row → Outcome Value) (left_width right_width : ℕ) where
  abbrev of_left : Bag → Bag → Bag
  of_left us vs = cond (keeps_left kind) (map (λ u. u ++ nulls right_width) (unmatched_left condition us vs)) []

  abbrev of_right : Bag → Bag → Bag
  of_right us vs = cond (keeps_right kind) (map (λ v. nulls left_width ++ v) (unmatched_right condition us vs)) []

  count-parts : (us vs ts : Bag) → joined_rows kind condition left_width right_width us vs ≡ Good ts → (t : Row) →
      count t ts ≡ sum_by (partners condition t vs) us + count t (of_left us vs) + count t (of_right us vs)
  count-parts us vs ts whole t =
      let parts = mapped-is (λ pairs. pairs ++ of_left us vs ++ of_right us vs) (met_pairs condition us vs) ts whole in
      ap (count t) (sym parts.2)
      ∙ three (count t (parts.0 ++ of_left us vs ++ of_right us vs)) (count t parts.0) (count t (parts.0 ++ of_left us vs)) (count t (of_left us vs))
      (count t (of_right us vs)) (sum_by (partners condition t vs) us) (count-append t (parts.0 ++ of_left us vs) (of_right us vs))
      (count-append t parts.0 (of_left us vs)) (count-met_pairs condition t us vs parts.0 parts.1)

  count-of_left : (us vs : Bag) (t : Row) →
      count t (of_left us vs) ≡ cond (keeps_left kind) (sum_by (λ u. one_if (same_row (u ++ nulls right_width) t && is_unmatched_left condition vs u)) us) 0
  count-of_left us vs t =
      count-if (keeps_left kind) t (map (λ u. u ++ nulls right_width) (unmatched_left condition us vs))
      ∙ ap (λ n. cond (keeps_left kind) n 0) (count-beside t (λ u. u ++ nulls right_width) (is_unmatched_left condition vs) us)

  count-of_right : (us vs : Bag) (t : Row) →
      count t (of_right us vs) ≡ cond (keeps_right kind) (sum_by (λ v. one_if (same_row (nulls left_width ++ v) t && is_unmatched_right condition us v)) vs) 0
  count-of_right us vs t =
      count-if (keeps_right kind) t (map (λ v. nulls left_width ++ v) (unmatched_right condition us vs))
      ∙ ap (λ n. cond (keeps_right kind) n 0) (count-beside t (λ v. nulls left_width ++ v) (is_unmatched_right condition us) vs)

  count-joined : (us vs ts : Bag) → joined_rows kind condition left_width right_width us vs ≡ Good ts →
      (lefts rights : List Row) → Lists lefts us → Lists rights vs → (t : Row) →
      count t ts ≡ pairs_count condition t us vs lefts rights + left_count kind condition right_width t us vs lefts
      + right_count kind condition left_width t us vs rights
  count-joined us vs ts whole lefts rights l r t =
      count-parts us vs ts whole t
      ∙ (λ i. count-listed_pairs condition t us vs lefts rights l r i
      + (count-of_left us vs t ∙ ap (λ n. cond (keeps_left kind) n 0) (sum_by-passing (λ u. same_row (u ++ nulls right_width) t && is_unmatched_left condition vs u) lefts us l)) i
      + (count-of_right us vs t ∙ ap (λ n. cond (keeps_right kind) n 0) (sum_by-passing (λ v. same_row (nulls left_width ++ v) t && is_unmatched_right condition us v) rights vs r)) i)

-- ---- where the left rows have one width

pub same_parts : (u w v x : Row) → length u ≡ length w → same_row (u ++ v) (w ++ x) ≡ (same_row u w && same_row v x)
same_parts [] [] v x e = refl
same_parts [] (b ∷ w) v x e = absurd (omega arith)
same_parts (a ∷ u) [] v x e = absurd (omega arith)
same_parts (a ∷ u) (b ∷ w) v x e =
    ap (λ c. same_value a b && c) (same_parts u w v x (omega arith)) ∙ sym (and_associates (same_value a b) (same_row u w) (same_row v x))

by_row : (s : Bool) (u w : Row) (g : ℕ) (k : ℕ) (n : ℕ) → same_row w u ≡ s → (s ≡ true → g ≡ k) → (s ≡ false → g ≡ 0) →
    g + n * k ≡ cond (same_row w u) (suc n) n * k
by_row true u w g k n s e f = rw s (omega (arith, e refl, suc-mul n k))
by_row false u w g k n s e f = rw s (omega (arith, f refl))

-- a sum whose terms are k at the row u, and otherwise 0
pub sum_by-at : (u : Row) (g : Row → ℕ) (k : ℕ) (us : Bag) → ((w : Row) → InBag w us → same_row w u ≡ true → g w ≡ k) →
    ((w : Row) → InBag w us → same_row w u ≡ false → g w ≡ 0) → sum_by g us ≡ count u us * k
sum_by-at u g k [] here elsewhere = sym (zero-mul k)
sum_by-at u g k (w ∷ us) here elsewhere =
    sum_by-cons g w us
    ∙ ap (λ n. g w + n) (sum_by-at u g k us (λ x h. here x (in_bag-behind x w us h)) (λ x h. elsewhere x (in_bag-behind x w us h)))
    ∙ by_row (same_row w u) u w (g w) k (count u us) refl (here w (in_bag-front w us)) (elsewhere w (in_bag-front w us))

both_and : (a b m : Bool) → a ≡ true → b ≡ true → one_if ((a && b) && m) ≡ one_if m
both_and true true m e f = refl
both_and true false m e f = absurd (true≢false (sym f))
both_and false b m e f = absurd (true≢false (sym e))

second_false : (a b m : Bool) → b ≡ false → one_if ((a && b) && m) ≡ 0
second_false true true m e = absurd (true≢false e)
second_false true false m e = refl
second_false false b m e = refl

first_false : (a b m : Bool) → a ≡ false → one_if ((a && b) && m) ≡ 0
first_false true b m e = absurd (true≢false e)
first_false false b m e = refl

times-cond : (m : Bool) (n k : ℕ) → n * (k * one_if m) ≡ cond m (n * k) 0
times-cond true n k = ap (λ x. n * x) (mul-one k)
times-cond false n k = ap (λ x. n * x) (mul-zero k) ∙ mul-zero n

module _ (condition : Row → Outcome Value) (u v : Row) where
  -- the partners of a row that is u
  partners-own : (w : Row) (vs : Bag) → same_row w u ≡ true → partners condition (u ++ v) vs w ≡ count v vs * one_if (is_met (condition (u ++ v)))
  partners-own w vs same =
      subst (λ x. partners condition (u ++ v) vs x ≡ count v vs * one_if (is_met (condition (u ++ v)))) (sym (same_row-is w u same))
      (sum_by-at v (λ x. one_if (makes condition (u ++ v) u x)) (one_if (is_met (condition (u ++ v)))) vs
      (λ x h s. ap (λ b. one_if (b && is_met (condition (u ++ x)))) (same_parts u u x v refl)
      ∙ both_and (same_row u u) (same_row x v) (is_met (condition (u ++ x))) (same_row-refl u) s
      ∙ ap (λ y. one_if (is_met (condition (u ++ y)))) (same_row-is x v s))
      (λ x h s. ap (λ b. one_if (b && is_met (condition (u ++ x)))) (same_parts u u x v refl)
      ∙ second_false (same_row u u) (same_row x v) (is_met (condition (u ++ x))) s))

  partners-other : (w : Row) (vs : Bag) → length w ≡ length u → same_row w u ≡ false → partners condition (u ++ v) vs w ≡ 0
  partners-other w vs long differs =
      sum_by-at v (λ x. one_if (makes condition (u ++ v) w x)) 0 vs
      (λ x h s. none x) (λ x h s. none x)
      ∙ mul-zero (count v vs)
    where
      none : (x : Row) → one_if (makes condition (u ++ v) w x) ≡ 0
      none x =
          ap (λ b. one_if (b && is_met (condition (w ++ x)))) (same_parts w u x v long)
          ∙ first_false (same_row w u) (same_row x v) (is_met (condition (w ++ x))) differs

  pairs-product : (us vs : Bag) → HasWidth (length u) us →
      sum_by (partners condition (u ++ v) vs) us ≡ cond (is_met (condition (u ++ v))) (count u us * count v vs) 0
  pairs-product us vs wide =
      sum_by-at u (partners condition (u ++ v) vs) (count v vs * one_if (is_met (condition (u ++ v)))) us
      (λ w h s. partners-own w vs s) (λ w h s. partners-other w vs (wide w h) s)
      ∙ times-cond (is_met (condition (u ++ v))) (count u us) (count v vs)

  left-own : (width : ℕ) (test : Row → Bool) (us : Bag) → HasWidth (length u) us →
      sum_by (λ w. one_if (same_row (w ++ nulls width) (u ++ v) && test w)) us ≡ cond (same_row (nulls width) v && test u) (count u us) 0
  left-own width test us wide =
      sum_by-at u (λ w. one_if (same_row (w ++ nulls width) (u ++ v) && test w)) (one_if (same_row (nulls width) v && test u)) us
      (λ w h s. ap (λ b. one_if (b && test w)) (same_parts w u (nulls width) v (wide w h))
      ∙ ap (λ b. one_if ((b && same_row (nulls width) v) && test w)) s
      ∙ ap (λ x. one_if (same_row (nulls width) v && test x)) (same_row-is w u s))
      (λ w h s. ap (λ b. one_if (b && test w)) (same_parts w u (nulls width) v (wide w h))
      ∙ first_false (same_row w u) (same_row (nulls width) v) (test w) s)
      ∙ unit-cond (same_row (nulls width) v && test u) (count u us)

  right-own : (width : ℕ) (test : Row → Bool) (vs : Bag) → length (nulls width) ≡ length u →
      sum_by (λ x. one_if (same_row (nulls width ++ x) (u ++ v) && test x)) vs ≡ cond (same_row (nulls width) u && test v) (count v vs) 0
  right-own width test vs long =
      sum_by-at v (λ x. one_if (same_row (nulls width ++ x) (u ++ v) && test x)) (one_if (same_row (nulls width) u && test v)) vs
      (λ x h s. ap (λ b. one_if (b && test x)) (same_parts (nulls width) u x v long)
      ∙ both_true (same_row (nulls width) u) (same_row x v) (test x) s
      ∙ ap (λ y. one_if (same_row (nulls width) u && test y)) (same_row-is x v s))
      (λ x h s. ap (λ b. one_if (b && test x)) (same_parts (nulls width) u x v long)
      ∙ second_false (same_row (nulls width) u) (same_row x v) (test x) s)
      ∙ unit-cond (same_row (nulls width) u && test v) (count v vs)
    where
      both_true : (a b m : Bool) → b ≡ true → one_if ((a && b) && m) ≡ one_if (a && m)
      both_true true true m e = refl
      both_true true false m e = absurd (true≢false (sym e))
      both_true false b m e = refl

pub length-nulls : (n : ℕ) → length (nulls n) ≡ n
length-nulls zero = refl
length-nulls (suc n) = ap suc (length-nulls n)

with_kept : (a b c : Bool) (n : ℕ) → cond a (cond (b && c) n 0) 0 ≡ cond (a && b && c) n 0
with_kept true b c n = refl
with_kept false b c n = refl

module _ (kind : JoinKind) (condition : Row → Outcome Value) (left_width right_width : ℕ) where
  count-product : (us vs ts : Bag) → joined_rows kind condition left_width right_width us vs ≡ Good ts → HasWidth left_width us →
      (u v : Row) → length u ≡ left_width → count (u ++ v) ts ≡ cond (is_met (condition (u ++ v))) (count u us * count v vs) 0
      + cond (keeps_left kind && same_row (nulls right_width) v && is_unmatched_left condition vs u) (count u us) 0
      + cond (keeps_right kind && same_row (nulls left_width) u && is_unmatched_right condition us v) (count v vs) 0
  count-product us vs ts whole wide u v long =
      let as_wide : HasWidth (length u) us = λ w h. wide w h ∙ sym long in
      count-parts kind condition left_width right_width us vs ts whole (u ++ v)
      ∙ (λ i. pairs-product condition u v us vs as_wide i
      + (count-of_left kind condition left_width right_width us vs (u ++ v)
      ∙ ap (λ n. cond (keeps_left kind) n 0) (left-own condition u v right_width (is_unmatched_left condition vs) us as_wide)
      ∙ with_kept (keeps_left kind) (same_row (nulls right_width) v) (is_unmatched_left condition vs u) (count u us)) i
      + (count-of_right kind condition left_width right_width us vs (u ++ v)
      ∙ ap (λ n. cond (keeps_right kind) n 0) (right-own condition u v left_width (is_unmatched_right condition us) vs (length-nulls left_width ∙ sym long))
      ∙ with_kept (keeps_right kind) (same_row (nulls left_width) u) (is_unmatched_right condition us v) (count v vs)) i)

  pairs_evaluated : (us vs : Bag) → OverPairs condition us vs (joined_rows kind condition left_width right_width us vs)
  pairs_evaluated us vs =
      over_pairs condition us vs (λ u. gather (λ v. kept condition (u ++ v)) vs) (joined_rows kind condition left_width right_width us vs)
      (over-mapped (λ pairs. pairs ++ of_left kind condition left_width right_width us vs ++ of_right kind condition left_width right_width us vs)
      (λ u. gather (λ v. kept condition (u ++ v)) vs) us (met_pairs condition us vs) (over-gather (λ u. gather (λ v. kept condition (u ++ v)) vs) us))
      (λ u. over-part (λ v x. cond (holds_of x) ((u ++ v) ∷ []) []) (λ v. condition (u ++ v)) vs (gather (λ v. kept condition (u ++ v)) vs)
      (over-gather (λ v. kept condition (u ++ v)) vs))

  pub joined : (left right : Outcome Bag) →
      IsJoinOf kind condition left_width right_width left right (both_then left right (joined_rows kind condition left_width right_width))
  joined left right = record {
    bad = both_then-unites (joined_rows kind condition left_width right_width) left right;
    evaluated = λ us vs e k. subst (OverPairs condition us vs) (sym (inputs us vs e k)) (pairs_evaluated us vs);
    counts = λ us vs ts e k whole. count-joined kind condition left_width right_width us vs ts (sym (inputs us vs e k) ∙ whole);
    product = λ us vs ts e k whole. count-product us vs ts (sym (inputs us vs e k) ∙ whole);
  } where
    inputs : (us vs : Bag) → left ≡ Good us → right ≡ Good vs →
        both_then left right (joined_rows kind condition left_width right_width) ≡ joined_rows kind condition left_width right_width us vs
    inputs us vs e k = λ i. both_then (e i) (k i) (joined_rows kind condition left_width right_width)
