-- An aggregate sees a bag of values: their order doesn't count.
use Rattle.std.proofs.Common.{◌≡◌, ℤ, pos, ◌+ℤ◌, Bool, true, false, cond, not, List, [], ◌∷◌, filter, Ordering, Less, Equal, Greater, refl, sym, ap, ◌∙◌, subst}
use Rattle.std.proofs.Math.IntN.{+ℤ_comm, +ℤ_assoc}
use Rattle.std.proofs.lemmas.Cmp.{back_total}
use Rattle.std.specs.Cmp.{IsTotalOrder}
use Rattle.std.specs.Ordering.{ordering_reverse, flip_args}
use Rattle.null_logic.specs.Arithmetic.{fits_64}
use Rattle.null_logic.specs.declared.run_fault.RunFault.TheVariants.{OutOfRange}
use Rattle.perm_values.specs.RowLaws.{value_ties_decided}
use Rattle.perm_values.specs.ValueLaws.{value_decides, value_cmp_total}
use Rattle.perm_values.specs.Values.{same_value, value_cmp, is_null}
use Rattle.perm_values.specs.declared.value.Value.{Value}
use Rattle.perm_values.specs.declared.value.Value.TheVariants.{Integer}
use Rattle.bag_algebra.proofs.BagLaws.{Permuted, nothing, onward, turn, joined, permuted-refl, permuted-filter, permuted-length}
use Rattle.bag_algebra.proofs.SortedBags.{IsExactOrder, sorted-permuted}
use Rattle.bag_algebra.specs.Means.{present, once_each, number_of, total, sum_of, first_or_null, aggregated}
use Rattle.bag_algebra.specs.Outcome.{Outcome, Good, Bad, only}
use Rattle.bag_algebra.specs.declared.query.AggFn.{AggFn}
use Rattle.bag_algebra.specs.declared.query.AggFn.TheVariants.{CountRows, Count, CountDistinct, Sum, Min, Max}

-- ---- each value once

filter_turn : (test other : Value → Bool) (vs : List Value) → filter test (filter other vs) ≡ filter other (filter test vs)
filter_turn test other [] = refl
filter_turn test other (v ∷ vs) = at (test v) (other v) refl refl (filter_turn test other vs) where
  at : (b d : Bool) → test v ≡ b → other v ≡ d → filter test (filter other vs) ≡ filter other (filter test vs) →
      filter test (cond d (v ∷ filter other vs) (filter other vs)) ≡ filter other (cond b (v ∷ filter test vs) (filter test vs))
  at true true e f more = rw (e, f) (ap (λ l. v ∷ l) more)
  at true false e f more = rw f more
  at false true e f more = rw e more
  at false false e f more = more

-- a value in front of the others, without those that are the same
abbrev leading : Value → List Value → List Value
leading v vs = v ∷ filter (λ w. not (same_value v w)) vs

leading_turn : (u v : Value) (vs : List Value) (b d : Bool) → same_value u v ≡ b → same_value v u ≡ d →
    Permuted (leading u (leading v vs)) (leading v (leading u vs))
leading_turn u v vs true d e f =
    subst (λ w. Permuted (leading u (leading w vs)) (leading w (leading u vs))) ((value_decides u v).0 e) (permuted-refl (leading u (leading u vs)))
leading_turn u v vs false true e f =
    subst (λ w. Permuted (leading w (leading v vs)) (leading v (leading w vs))) ((value_decides v u).0 f) (permuted-refl (leading v (leading v vs)))
leading_turn u v vs false false e f =
    rw (e, f) (joined (turn u v (filter (λ w. not (same_value u w)) (filter (λ w. not (same_value v w)) vs)))
    (subst (λ rest. Permuted (v ∷ u ∷ filter (λ w. not (same_value u w)) (filter (λ w. not (same_value v w)) vs)) (v ∷ u ∷ rest))
    (filter_turn (λ w. not (same_value u w)) (λ w. not (same_value v w)) vs) (permuted-refl _)))

pub permuted-once_each : {us vs : List Value} → Permuted us vs → Permuted (once_each us) (once_each vs)
permuted-once_each nothing = nothing
permuted-once_each (onward u p) = onward u (permuted-filter (λ w. not (same_value u w)) (permuted-once_each p))
permuted-once_each (turn u v us) = leading_turn u v (once_each us) (same_value u v) (same_value v u) refl refl
permuted-once_each (joined p q) = joined (permuted-once_each p) (permuted-once_each q)

-- ---- sums, the least and the greatest

sum_turn : (a b c : ℤ) → a +ℤ (b +ℤ c) ≡ b +ℤ (a +ℤ c)
sum_turn a b c = sym (+ℤ_assoc a b c) ∙ ap (λ d. d +ℤ c) (+ℤ_comm a b) ∙ +ℤ_assoc b a c

pub total-permuted : {us vs : List Value} → Permuted us vs → total us ≡ total vs
total-permuted nothing = refl
total-permuted (onward u p) = ap (λ z. number_of u +ℤ z) (total-permuted p)
total-permuted (turn u v us) = sum_turn (number_of u) (number_of v) (total us)
total-permuted (joined p q) = total-permuted p ∙ total-permuted q

abbrev fitting : ℤ → Outcome Value
fitting z = cond (fits_64 z) (Good (Integer z)) (Bad (only OutOfRange))

pub sum_of-permuted : {us vs : List Value} → Permuted us vs → sum_of us ≡ sum_of vs
sum_of-permuted nothing = refl
sum_of-permuted (onward u p) = ap fitting (total-permuted (onward u p))
sum_of-permuted (turn u v us) = ap fitting (total-permuted (turn u v us))
sum_of-permuted (joined p q) = sum_of-permuted p ∙ sum_of-permuted q

abbrev pub falling : Value → Value → Ordering
falling a b = ordering_reverse (value_cmp a b)

value_ties_equal : (x y : Value) → value_cmp x y ≡ Equal → x ≡ y
value_ties_equal x y e = (value_decides x y).0 ((value_ties_decided x y).1 e)

pub value_exact : IsExactOrder value_cmp
value_exact = record { total = value_cmp_total; ties = value_ties_equal }

reversed_equal : (o : Ordering) → ordering_reverse o ≡ Equal → o ≡ Equal
reversed_equal Less e = cc
reversed_equal Equal e = refl
reversed_equal Greater e = cc

pub falling_exact : IsExactOrder falling
falling_exact = record {
  total = let e : flip_args value_cmp ≡ falling = λ i u v. value_cmp_total.antisymm v u i in subst IsTotalOrder e (back_total value_cmp_total);
  ties = λ x y e. value_ties_equal x y (reversed_equal (value_cmp x y) e);
}

-- ---- aggregates

present-permuted : {us vs : List Value} → Permuted us vs → Permuted (present us) (present vs)
present-permuted p = permuted-filter (λ v. not (is_null v)) p

pub aggregated-permuted : (function : AggFn) {us vs : List Value} → Permuted us vs → aggregated function us ≡ aggregated function vs
aggregated-permuted CountRows p = ap (λ n. Good (Integer (pos n))) (permuted-length p)
aggregated-permuted Count p = ap (λ n. Good (Integer (pos n))) (permuted-length (present-permuted p))
aggregated-permuted CountDistinct p = ap (λ n. Good (Integer (pos n))) (permuted-length (permuted-once_each (present-permuted p)))
aggregated-permuted Sum p = sum_of-permuted (present-permuted p)
aggregated-permuted Min p = ap (λ vs. Good (first_or_null vs)) (sorted-permuted value_cmp value_exact (present-permuted p))
aggregated-permuted Max p = ap (λ vs. Good (first_or_null vs)) (sorted-permuted falling falling_exact (present-permuted p))
