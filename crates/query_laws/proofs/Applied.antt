-- The law of Apply.
use Rattle.std.proofs.Common.{◌≡◌, ℕ, zero, suc, ◌+◌, ◌*◌, ◌<◌, Bool, true, false, cond, not, ◌&&◌, List, [], ◌∷◌, ◌++◌, map, length, sum_by, refl, sym, ap, subst, ◌∙◌, arith}
use Rattle.std.proofs.Math.Nat.{zero-mul}
use Rattle.perm_values.specs.Rows.{same_row}
use Rattle.bag_algebra.proofs.BagLaws.{same_row-is, same_row-refl, permuted-from_same_bag, same_bag-from_permuted}
use Rattle.bag_algebra.specs.Bags.{Row, Bag, count, nulls}
use Rattle.bag_algebra.specs.Means.{good_rows, keeps_left, under}
use Rattle.bag_algebra.specs.Outcome.{Outcome, Good, Bad, and_then, mapped, gather}
use Rattle.bag_algebra.specs.Rewriting.{SameRows}
use Rattle.bag_algebra.specs.declared.query.JoinKind.{JoinKind}
use Rattle.contribution.proofs.OrderOfQueries.{is_some_row-permuted}
use Rattle.contribution.proofs.OrderOfRows.{permuted-under}
use Rattle.query_laws.specs.Faults.{IsGood}
use Rattle.query_laws.specs.Holding.{InBag, HasWidth, Lists}
use Rattle.query_laws.specs.Nodes.{is_alone, beside_count, IsApplied}
use Rattle.query_laws.proofs.Joined.{sum_by-at, same_parts}
use Rattle.query_laws.proofs.Outcomes.{Over, over-gather, over-part, over_rows, gather-is, good-good, in_bag-in, and_then-passes}
use Rattle.query_laws.proofs.Sums.{one_if, sum_by-same, count-flat_map, sum_by-listed}

-- ---- numbers

nothing_first : (n m : ℕ) → n ≡ m → n ≡ 0 + m
nothing_first n m e = omega (arith, e)

nothing_second : (n m : ℕ) → m ≡ 0 → n ≡ n + m
nothing_second n m e = omega (arith, e)

nothing_both : (n m : ℕ) → n ≡ 0 → m ≡ 0 → n + m ≡ 0
nothing_both n m e f = omega (arith, e, f)

pub times-where : (n x y : ℕ) → (0 < n → x ≡ y) → n * x ≡ n * y
times-where zero x y e = zero-mul x ∙ sym (zero-mul y)
times-where (suc n) x y e = ap (λ z. suc n * z) (e (omega arith))

-- ---- what stands beside a left row

count-kept : (keeps : Bool) (t x : Row) → count t (cond keeps (x ∷ []) []) ≡ cond ((keeps && true) && same_row x t) 1 0
count-kept true t x = refl
count-kept false t x = refl

not_alone : (keeps same : Bool) → one_if ((keeps && false) && same) ≡ 0
not_alone true same = refl
not_alone false same = refl

other_nulls : (alone : Bool) → one_if (alone && false) ≡ 0
other_nulls true = refl
other_nulls false = refl

module _ (kind : JoinKind) (width : ℕ) where
  pub under-count : (t u : Row) (vs : Bag) → count t (under kind width u vs) ≡ beside_count kind width t u vs
  under-count t u [] = nothing_first _ _ (count-kept (keeps_left kind) t (u ++ nulls width))
  under-count t u (v ∷ vs) = nothing_second (count t (map (λ w. u ++ w) (v ∷ vs))) _ (not_alone (keeps_left kind) (same_row (u ++ nulls width) t))

  -- the same rows on the right give the same
  pub beside-same : (t u : Row) (o p : Outcome Bag) → SameRows o p → beside_count kind width t u (good_rows o) ≡ beside_count kind width t u (good_rows p)
  beside-same t u (Good us) (Good vs) s =
      sym (under-count t u us) ∙ (same_bag-from_permuted (permuted-under kind width u (permuted-from_same_bag us vs s))).counts t ∙ under-count t u vs
  beside-same t u (Good us) (Bad g) s = absurd s
  beside-same t u (Bad f) (Good vs) s = absurd s
  beside-same t u (Bad f) (Bad g) s = refl

  pub own-same : (v : Row) (o p : Outcome Bag) → SameRows o p →
      count v (good_rows o) + cond (is_alone kind (good_rows o) && same_row (nulls width) v) 1 0
      ≡ count v (good_rows p) + cond (is_alone kind (good_rows p) && same_row (nulls width) v) 1 0
  own-same v (Good us) (Good vs) s =
      let some = is_some_row-permuted (permuted-from_same_bag us vs s) in
      λ i. s.counts v i + cond ((keeps_left kind && not (some i)) && same_row (nulls width) v) 1 0
  own-same v (Good us) (Bad g) s = absurd s
  own-same v (Bad f) (Good vs) s = absurd s
  own-same v (Bad f) (Bad g) s = refl

  good-count : (t u : Row) (o : Outcome Bag) → IsGood o → count t (good_rows (mapped (under kind width u) o)) ≡ beside_count kind width t u (good_rows o)
  good-count t u (Good vs) g = under-count t u vs
  good-count t u (Bad faults) g = absurd g

  -- ---- a row whose first part is as wide as the left row

  module _ (u v : Row) where
    own_part : (x : Row) → same_row (u ++ x) (u ++ v) ≡ same_row x v
    own_part x = same_parts u u x v refl ∙ ap (λ b. b && same_row x v) (same_row-refl u)

    own_rows : (vs : Bag) → count (u ++ v) (map (λ x. u ++ x) vs) ≡ count v vs
    own_rows [] = refl
    own_rows (x ∷ vs) = λ i. cond (own_part x i) (suc (own_rows vs i)) (own_rows vs i)

    own-count : (vs : Bag) → beside_count kind width (u ++ v) u vs ≡ count v vs + cond (is_alone kind vs && same_row (nulls width) v) 1 0
    own-count vs = λ i. own_rows vs i + cond (is_alone kind vs && own_part (nulls width) i) 1 0

    module _ (w : Row) (long : length w ≡ length u) (differs : same_row w u ≡ false) where
      other_part : (x : Row) → same_row (w ++ x) (u ++ v) ≡ false
      other_part x = same_parts w u x v long ∙ ap (λ b. b && same_row x v) differs

      other_rows : (vs : Bag) → count (u ++ v) (map (λ x. w ++ x) vs) ≡ 0
      other_rows [] = refl
      other_rows (x ∷ vs) = λ i. cond (other_part x i) (suc (other_rows vs i)) (other_rows vs i)

      other-count : (o : Outcome Bag) → count (u ++ v) (good_rows (mapped (under kind width w) o)) ≡ 0
      other-count (Good vs) =
          under-count (u ++ v) w vs
          ∙ nothing_both (count (u ++ v) (map (λ x. w ++ x) vs)) _ (other_rows vs)
          (ap (λ b. cond (is_alone kind vs && b) 1 0) (other_part (nulls width)) ∙ other_nulls (is_alone kind vs))
      other-count (Bad faults) = refl

  -- ---- the node

  module _ (right : Row → Outcome Bag) where
    abbrev beside_left : Row → Outcome Bag
    beside_left u = mapped (under kind width u) (right u)

    over_rights : (us : Bag) → Over right us (gather beside_left us)
    over_rights us = over-part (λ u. under kind width u) right us (gather beside_left us) (over-gather beside_left us)

    module _ (us ts : Bag) (whole : gather beside_left us ≡ Good ts) where
      rights_good : (u : Row) → InBag u us → IsGood (right u)
      rights_good u h = (over_rights us).each_good (good-good (gather beside_left us) ts whole) u (in_bag-in u us h)

      as_they_come : (t : Row) → count t ts ≡ sum_by (λ u. count t (good_rows (beside_left u))) us
      as_they_come t = ap (count t) (gather-is beside_left us ts whole) ∙ count-flat_map t (λ u. good_rows (beside_left u)) us

      count-applied : (lefts : List Row) → Lists lefts us → (t : Row) →
          count t ts ≡ sum_by (λ u. count u us * beside_count kind width t u (good_rows (right u))) lefts
      count-applied lefts l t =
          as_they_come t
          ∙ sum_by-listed (λ u. count t (good_rows (beside_left u))) lefts us l
          ∙ sum_by-same (λ u. count u us * count t (good_rows (beside_left u))) (λ u. count u us * beside_count kind width t u (good_rows (right u))) lefts
          (λ u. times-where (count u us) (count t (good_rows (beside_left u))) (beside_count kind width t u (good_rows (right u)))
          (λ h. good-count t u (right u) (rights_good u h)))

      count-product : (u v : Row) → HasWidth (length u) us →
          count (u ++ v) ts ≡ count u us * (count v (good_rows (right u)) + cond (is_alone kind (good_rows (right u)) && same_row (nulls width) v) 1 0)
      count-product u v wide =
          as_they_come (u ++ v)
          ∙ sum_by-at u (λ w. count (u ++ v) (good_rows (beside_left w)))
          (count v (good_rows (right u)) + cond (is_alone kind (good_rows (right u)) && same_row (nulls width) v) 1 0) us
          (λ w h s. let same = same_row-is w u s in
          ap (λ x. count (u ++ v) (good_rows (beside_left x))) same
          ∙ good-count (u ++ v) u (right u) (rights_good u (subst (λ x. InBag x us) same h))
          ∙ own-count u v (good_rows (right u)))
          (λ w h s. other-count u v w (wide w h) s (right w))

  pub applied : (left_width : ℕ) (left : Outcome Bag) (right : Row → Outcome Bag) →
      IsApplied kind left_width width left right (and_then left (gather (λ u. mapped (under kind width u) (right u))))
  applied left_width left right = record {
    bad = and_then-passes left (gather (beside_left right));
    evaluated = λ us e. over_rows right us (and_then left (gather (beside_left right)))
        (subst (λ o. Over right us (and_then o (gather (beside_left right)))) (sym e) (over_rights right us));
    counts = λ us ts e whole. count-applied right us ts (input us e whole);
    product = λ us ts e whole wide u v long. count-product right us ts (input us e whole) u v (λ w h. wide w h ∙ sym long);
  } where
    input : {ts : Bag} (us : Bag) → left ≡ Good us → and_then left (gather (beside_left right)) ≡ Good ts → gather (beside_left right) us ≡ Good ts
    input us e whole = sym (ap (λ o. and_then o (gather (beside_left right))) e) ∙ whole
