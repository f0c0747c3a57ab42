-- How often a row stands in what INTERSECT ALL and EXCEPT ALL give.
use Rattle.std.proofs.Common.{◌≡◌, suc, ◌-◌, min, Bool, true, false, cond, [], ◌∷◌, refl, sym, ap, ◌∙◌, arith}
use Rattle.perm_values.specs.Rows.{same_row}
use Rattle.bag_algebra.proofs.BagLaws.{permuted-to_front, permuted-counts, same_row-is, count-of_none}
use Rattle.bag_algebra.specs.Bags.{Row, Bag, count, member, without_first, in_both, beyond}

-- the count of a row of the bag, and of the others, without it
pub front_count : (t u : Row) (vs : Bag) → member u vs ≡ true →
    count t vs ≡ cond (same_row u t) (suc (count t (without_first u vs))) (count t (without_first u vs))
front_count t u vs e = permuted-counts (permuted-to_front u vs e) t

both_step : (m s : Bool) (t u : Row) (us vs : Bag) → member u vs ≡ m → same_row u t ≡ s →
    count t (in_both us (without_first u vs)) ≡ min (count t us) (count t (without_first u vs)) → count t (in_both us vs) ≡ min (count t us) (count t vs) →
    count t (cond m (u ∷ in_both us (without_first u vs)) (in_both us vs)) ≡ min (cond s (suc (count t us)) (count t us)) (count t vs)
both_step true true t u us vs e f less all =
    let front : count t vs ≡ suc (count t (without_first u vs)) = front_count t u vs e ∙ ap (λ b. cond b (suc (count t (without_first u vs))) (count t (without_first u vs))) f in
    rw f (omega arith)
both_step true false t u us vs e f less all =
    let front : count t vs ≡ count t (without_first u vs) = front_count t u vs e ∙ ap (λ b. cond b (suc (count t (without_first u vs))) (count t (without_first u vs))) f in
    rw f (omega arith)
both_step false true t u us vs e f less all =
    let none : count t vs ≡ 0 = ap (λ v. count v vs) (sym (same_row-is u t f)) ∙ count-of_none u vs e in
    omega arith
both_step false false t u us vs e f less all = all

pub count-in_both : (t : Row) (us vs : Bag) → count t (in_both us vs) ≡ min (count t us) (count t vs)
count-in_both t [] vs = omega arith
count-in_both t (u ∷ us) vs =
    both_step (member u vs) (same_row u t) t u us vs refl refl (count-in_both t us (without_first u vs)) (count-in_both t us vs)

beyond_step : (m s : Bool) (t u : Row) (us vs : Bag) → member u vs ≡ m → same_row u t ≡ s →
    count t (beyond us (without_first u vs)) ≡ count t us - count t (without_first u vs) → count t (beyond us vs) ≡ count t us - count t vs →
    count t (cond m (beyond us (without_first u vs)) (u ∷ beyond us vs)) ≡ cond s (suc (count t us)) (count t us) - count t vs
beyond_step true true t u us vs e f less all =
    let front : count t vs ≡ suc (count t (without_first u vs)) = front_count t u vs e ∙ ap (λ b. cond b (suc (count t (without_first u vs))) (count t (without_first u vs))) f in
    omega arith
beyond_step true false t u us vs e f less all =
    let front : count t vs ≡ count t (without_first u vs) = front_count t u vs e ∙ ap (λ b. cond b (suc (count t (without_first u vs))) (count t (without_first u vs))) f in
    omega arith
beyond_step false true t u us vs e f less all =
    let none : count t vs ≡ 0 = ap (λ v. count v vs) (sym (same_row-is u t f)) ∙ count-of_none u vs e in
    rw f (omega arith)
beyond_step false false t u us vs e f less all = rw f all

pub count-beyond : (t : Row) (us vs : Bag) → count t (beyond us vs) ≡ count t us - count t vs
count-beyond t [] vs = omega arith
count-beyond t (u ∷ us) vs =
    beyond_step (member u vs) (same_row u t) t u us vs refl refl (count-beyond t us (without_first u vs)) (count-beyond t us vs)
