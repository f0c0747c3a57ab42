-- Which rows the bags of set operations have.
use Rattle.std.proofs.Common.{◌⊎◌, ◌<◌, inl, inr, Bool, true, false, ◌++◌, min, sym, subst, arith}
use Rattle.bag_algebra.proofs.BagLaws.{member_decides}
use Rattle.bag_algebra.proofs.Members.{IsIn, in-append_left, in-append_right, in-filter, in-member, member-in}
use Rattle.bag_algebra.specs.Bags.{Row, Bag, member, count, in_both, union_of, intersect_of}
use Rattle.contribution.proofs.BagMembers.{in-once}
use Rattle.bag_algebra.proofs.SetCounts.{count-in_both}

-- a row is in a bag exactly where it is counted
pub in-counted : (t : Row) (us : Bag) → 0 < count t us → IsIn t us
in-counted t us h = member-in t us ((member_decides t us).1 h)

pub counted-in : (t : Row) (us : Bag) → IsIn t us → 0 < count t us
counted-in t us h = (member_decides t us).0 (in-member t us h)

pub in-union : (all : Bool) (t : Row) (us vs : Bag) → IsIn t us ⊎ IsIn t vs → IsIn t (union_of all us vs)
in-union true t us vs (inl h) = in-append_left t us vs h
in-union true t us vs (inr h) = in-append_right t us vs h
in-union false t us vs (inl h) = in-once t (us ++ vs) (in-append_left t us vs h)
in-union false t us vs (inr h) = in-once t (us ++ vs) (in-append_right t us vs h)

pub in-intersect : (all : Bool) (t : Row) (us vs : Bag) → IsIn t us → IsIn t vs → IsIn t (intersect_of all us vs)
in-intersect true t us vs h g =
    let left = counted-in t us h in
    let right = counted-in t vs g in
    let least : 0 < min (count t us) (count t vs) = omega arith in
    in-counted t (in_both us vs) (subst (λ n. 0 < n) (sym (count-in_both t us vs)) least)
in-intersect false t us vs h g = in-once t _ (in-filter (λ u. member u vs) t us h (in-member t vs g))
