-- What looks at every item of fewer items has fewer rows, where it is good on all of them.
use Rattle.std.proofs.Common.{inl, inr, Bool, List, [], ◌∷◌, ◌++◌, ◌∙◌, subst, subst₂, append-nil}
use Rattle.perm_values.specs.declared.value.Value.{Value}
use Rattle.bag_algebra.proofs.Members.{IsIn, in-append_left}
use Rattle.bag_algebra.specs.Bags.{Row, Bag, once, union_of}
use Rattle.bag_algebra.specs.Means.{kept, met_pairs}
use Rattle.bag_algebra.specs.Outcome.{Faults, Outcome, Good, Bad, mapped, gather, each}
use Rattle.contribution.proofs.Agreement.{each-gather}
use Rattle.contribution.proofs.BagMembers.{from-once, in-once, from-union}
use Rattle.contribution.proofs.SetMembers.{in-union}
use Rattle.contribution.proofs.SetsOfRows.{Below, below_good, below_bad, below_worse, below-gather, below-trans, gather-below}
use Rattle.contribution.proofs.SharedMembers.{Within}

pub below-within : {X : Type 0} {us vs : List X} → Below (Good us) (Good vs) → Within us vs
below-within (below_good s) = s

-- what is below something good is good
abbrev Told : {X : Type 0} → Outcome (List X) → Outcome (List X) → Type 0
Told (Good us) p = Unit {0}
Told (Bad f) (Good vs) = ⊥
Told (Bad f) (Bad g) = Unit {0}

told : {X : Type 0} {o p : Outcome (List X)} → Below o p → Told o p
told (below_good s) = tt
told (below_bad us g) = tt
told (below_worse s) = tt

pub bad-not_below : {X : Type 0} (vs : List X) (f : Faults) → Below (Bad f) (Good vs) → ⊥
bad-not_below vs f b = told b

pub gather-fewer : {X Y : Type 0} (f : X → Outcome (List Y)) (xs ys : List X) → Within xs ys → Below (gather f xs) (gather f ys)
gather-fewer f xs ys s = gather-below f xs (gather f ys) (λ x h. below-gather f x ys (s.within x h))

pub each-fewer : {X Y : Type 0} (f : X → Outcome Y) (xs ys : List X) → Within xs ys → Below (each f xs) (each f ys)
each-fewer f xs ys s = subst₂ Below (each-gather f xs) (each-gather f ys) (gather-fewer (λ x. mapped (λ y. y ∷ []) (f x)) xs ys s)

pub pairs-fewer : (condition : Row → Outcome Value) (us vs xs ys : Bag) → Within us vs → Within xs ys → Below (met_pairs condition us xs) (met_pairs condition vs ys)
pairs-fewer condition us vs xs ys s r =
    let pairs = met_pairs condition vs ys in
    gather-below (λ u. gather (λ v. kept condition (u ++ v)) xs) us pairs (λ u h.
    below-trans (gather-fewer (λ v. kept condition (u ++ v)) xs ys r) (below-gather (λ u. gather (λ v. kept condition (u ++ v)) ys) u vs (s.within u h)))

pub mapped-fewer : {X Y : Type 0} (f : List X → List Y) {o p : Outcome (List X)} → ((xs ys : List X) → Within xs ys → Within (f xs) (f ys)) → Below o p → Below (mapped f o) (mapped f p)
mapped-fewer f next (below_good {us} {vs} s) = below_good (next us vs s)
mapped-fewer f next (below_bad us g) = below_bad (f us) g
mapped-fewer f next (below_worse s) = below_worse s

pub once-fewer : (us vs : Bag) → Within us vs → Within (once us) (once vs)
once-fewer us vs s = record { within = λ t h. in-once t vs (s.within t (from-once t us h)) }

pub union-fewer : (all : Bool) (us vs xs ys : Bag) → Within us vs → Within xs ys → Within (union_of all us xs) (union_of all vs ys)
union-fewer all us vs xs ys s r = record {
  within = λ t h. in-union all t vs ys (elim (from-union all t us xs h) [ inl l ↦ inl (s.within t l) | inr m ↦ inr (r.within t m) ]);
}

pub unpadded-fewer : (us vs : Bag) → Within us vs → Within (us ++ [] ++ []) (vs ++ [] ++ [])
unpadded-fewer us vs s = record {
  within = λ t h. in-append_left t (vs ++ []) [] (in-append_left t vs [] (s.within t (from-padded t us h)));
} where
  from-padded : (t : Row) (us : Bag) → IsIn t (us ++ [] ++ []) → IsIn t us
  from-padded t us h = subst (IsIn t) (append-nil (us ++ []) ∙ append-nil us) h
