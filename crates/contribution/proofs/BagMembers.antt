-- Where the rows come from that the words on bags make.
use Rattle.std.proofs.Common.{◌≡◌, ℕ, zero, suc, ◌⊎◌, inl, inr, Bool, true, false, cond, not, List, [], ◌∷◌, ◌++◌, filter, take, refl, sym, ◌∙◌, subst}
use Rattle.std.specs.Ordering.{is_gt}
use Rattle.std.specs.declared.cmp.Ordering.{Ordering}
use Rattle.perm_values.specs.Rows.{same_row}
use Rattle.bag_algebra.proofs.BagLaws.{member-once}
use Rattle.bag_algebra.proofs.Members.{IsIn, from-append, from-filter, in-member, member-in}
use Rattle.bag_algebra.specs.Bags.{Row, Bag, member, once, in_both, beyond, without_first, union_of, intersect_of, except_of, placed, sorted}

pub from-once : (t : Row) (us : Bag) → IsIn t (once us) → IsIn t us
from-once t us h = member-in t us (sym (member-once t us) ∙ in-member t (once us) h)

pub in-once : (t : Row) (us : Bag) → IsIn t us → IsIn t (once us)
in-once t us h = member-in t (once us) (member-once t us ∙ in-member t us h)

from-dropped : (t v : Row) (vs rest : Bag) (b : Bool) → (IsIn t rest → IsIn t vs) → IsIn t (cond b vs (v ∷ rest)) → IsIn t (v ∷ vs)
from-dropped t v vs rest true after h = inr h
from-dropped t v vs rest false after (inl e) = inl e
from-dropped t v vs rest false after (inr h) = inr (after h)

from-without_first : (t u : Row) (vs : Bag) → IsIn t (without_first u vs) → IsIn t vs
from-without_first t u [] h = h
from-without_first t u (v ∷ vs) h = from-dropped t v vs (without_first u vs) (same_row v u) (from-without_first t u vs) h

both-step : (t u : Row) (us vs kept skipped : Bag) (b : Bool) → member u vs ≡ b →
    (IsIn t kept → IsIn t us × IsIn t vs) → (IsIn t skipped → IsIn t us × IsIn t vs) → IsIn t (cond b (u ∷ kept) skipped) → IsIn t (u ∷ us) × IsIn t vs
both-step t u us vs kept skipped true e on off (inl same) = (inl same, subst (λ r. IsIn r vs) same (member-in u vs e))
both-step t u us vs kept skipped true e on off (inr h) = (inr (on h).0, (on h).1)
both-step t u us vs kept skipped false e on off h = (inr (off h).0, (off h).1)

-- what is in both is in each
pub from-in_both : (t : Row) (us vs : Bag) → IsIn t (in_both us vs) → IsIn t us × IsIn t vs
from-in_both t [] vs h = absurd h
from-in_both t (u ∷ us) vs h =
    let rest = from-in_both t us (without_first u vs) in
    both-step t u us vs (in_both us (without_first u vs)) (in_both us vs) (member u vs) refl
    (λ g. ((rest g).0, from-without_first t u vs (rest g).1)) (from-in_both t us vs) h

beyond-step : (t u : Row) (us kept skipped : Bag) (b : Bool) → (IsIn t skipped → IsIn t us) → (IsIn t kept → IsIn t us) → IsIn t (cond b skipped (u ∷ kept)) → IsIn t (u ∷ us)
beyond-step t u us kept skipped true off on h = inr (off h)
beyond-step t u us kept skipped false off on (inl same) = inl same
beyond-step t u us kept skipped false off on (inr h) = inr (on h)

-- what goes beyond is in the left
pub from-beyond : (t : Row) (us vs : Bag) → IsIn t (beyond us vs) → IsIn t us
from-beyond t [] vs h = h
from-beyond t (u ∷ us) vs h =
    beyond-step t u us (beyond us vs) (beyond us (without_first u vs)) (member u vs) (from-beyond t us (without_first u vs)) (from-beyond t us vs) h

pub from-union : (all : Bool) (t : Row) (us vs : Bag) → IsIn t (union_of all us vs) → IsIn t us ⊎ IsIn t vs
from-union true t us vs h = from-append t us vs h
from-union false t us vs h = from-append t us vs (from-once t (us ++ vs) h)

pub from-intersect : (all : Bool) (t : Row) (us vs : Bag) → IsIn t (intersect_of all us vs) → IsIn t us × IsIn t vs
from-intersect true t us vs h = from-in_both t us vs h
from-intersect false t us vs h =
    let found = from-filter (λ u. member u vs) t us (from-once t (filter (λ u. member u vs) us) h) in
    (found.0, member-in t vs found.1)

pub from-except : (all : Bool) (t : Row) (us vs : Bag) → IsIn t (except_of all us vs) → IsIn t us
from-except true t us vs h = from-beyond t us vs h
from-except false t us vs h = (from-filter (λ u. not (member u vs)) t us (from-once t (filter (λ u. not (member u vs)) us) h)).0

pub from-take : {X : Type 0} (x : X) (n : ℕ) (xs : List X) → IsIn x (take n xs) → IsIn x xs
from-take x zero xs h = absurd h
from-take x (suc n) [] h = h
from-take x (suc n) (y ∷ ys) (inl e) = inl e
from-take x (suc n) (y ∷ ys) (inr h) = inr (from-take x n ys h)

placed-step : {X : Type 0} (x y z : X) (zs rest : List X) (b : Bool) → (IsIn x rest → IsIn x (y ∷ zs)) → IsIn x (cond b (z ∷ rest) (y ∷ z ∷ zs)) → IsIn x (y ∷ z ∷ zs)
placed-step x y z zs rest true after (inl e) = inr (inl e)
placed-step x y z zs rest true after (inr h) = elim (after h) [ inl e ↦ inl e | inr r ↦ inr (inr r) ]
placed-step x y z zs rest false after h = h

module _ {X : Type 0} (cmp : X → X → Ordering) (x : X) where
  from-placed : (y : X) (ys : List X) → IsIn x (placed cmp y ys) → IsIn x (y ∷ ys)
  from-placed y [] h = h
  from-placed y (z ∷ zs) h = placed-step x y z zs (placed cmp y zs) (is_gt (cmp y z)) (from-placed y zs) h

  -- sorting adds nothing
  pub from-sorted : (xs : List X) → IsIn x (sorted cmp xs) → IsIn x xs
  from-sorted [] h = h
  from-sorted (y ∷ ys) h = elim (from-placed y (sorted cmp ys) h) [ inl e ↦ inl e | inr r ↦ inr (from-sorted ys r) ]
