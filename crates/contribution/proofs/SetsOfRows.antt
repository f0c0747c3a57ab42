-- Outcomes as sets: one is below another where it has no further rows and no further faults. What looks at every item
-- is the least outcome above what each item gives, so it rests on the set of items alone.
use Rattle.std.proofs.Common.{◌≡◌, inl, inr, Bool, true, false, ◌||◌, List, [], ◌∷◌, ◌++◌, refl, sym, ap, ◌∙◌, subst, subst₂, append_assoc}
use Rattle.std.specs.List.{flat_map}
use Rattle.bag_algebra.proofs.Members.{IsIn, in-append_left, in-append_right, from-append, in-member, member-in, same_members}
use Rattle.bag_algebra.specs.Bags.{Row, Bag}
use Rattle.bag_algebra.specs.Outcome.{Faults, union, Outcome, Good, Bad, and_then, mapped, both, both_then, gather, each}
use Rattle.bag_algebra.specs.Rewriting.{SameSet}
use Rattle.contribution.proofs.Agreement.{joined_lists, union-comm, each-gather}
use Rattle.contribution.proofs.SharedMembers.{Within, Shared, shared-refl, shared-sym}
use Rattle.bag_algebra.proofs.Truths.{or_associates}

-- ---- sets of faults

-- the second set has all of the first
pub record Included (f g : Faults) : Type 0 where
  pub whole : union f g ≡ g

or_same : (a : Bool) → (a || a) ≡ a
or_same true = refl
or_same false = refl

pub union-assoc : (f g h : Faults) → union (union f g) h ≡ union f (union g h)
union-assoc f g h = λ i. record {
  divides = or_associates f.divides g.divides h.divides i;
  range = or_associates f.range g.range h.range i;
  several = or_associates f.several g.several h.several i;
}

pub union-same : (f : Faults) → union f f ≡ f
union-same f = λ i. record { divides = or_same f.divides i; range = or_same f.range i; several = or_same f.several i }

pub included-refl : (f : Faults) → Included f f
included-refl f = record { whole = union-same f }

pub included-trans : {f g h : Faults} → Included f g → Included g h → Included f h
included-trans {f} {g} {h} s r = record { whole = ap (union f) (sym r.whole) ∙ sym (union-assoc f g h) ∙ ap (λ e. union e h) s.whole ∙ r.whole }

pub included-union : {f g h : Faults} → Included f h → Included g h → Included (union f g) h
included-union {f} {g} {h} s r = record { whole = union-assoc f g h ∙ ap (union f) r.whole ∙ s.whole }

pub included-left : (f g : Faults) → Included f (union f g)
included-left f g = record { whole = sym (union-assoc f f g) ∙ ap (λ e. union e g) (union-same f) }

pub included-right : (f g : Faults) → Included g (union f g)
included-right f g = record { whole = ap (union g) (union-comm f g) ∙ (included-left g f).whole ∙ union-comm g f }

pub included-both : {f g : Faults} → Included f g → Included g f → f ≡ g
included-both {f} {g} s r = sym r.whole ∙ union-comm g f ∙ s.whole

-- ---- outcomes

-- bad is above good, for the rows of a bad outcome are not looked at
pub data Below {X : Type 0} : Outcome (List X) → Outcome (List X) → Type 0 where
  below_good : {us vs : List X} → Within us vs → Below (Good us) (Good vs)
  below_bad : (us : List X) (g : Faults) → Below (Good us) (Bad g)
  below_worse : {f g : Faults} → Included f g → Below (Bad f) (Bad g)

within-trans : {X : Type 0} {us vs ws : List X} → Within us vs → Within vs ws → Within us ws
within-trans s r = record { within = λ x h. r.within x (s.within x h) }

good_below : {X : Type 0} {o : Outcome (List X)} (us vs : List X) → Within us vs → Below (Good vs) o → Below (Good us) o
good_below us vs s (below_good r) = below_good (within-trans s r)
good_below us vs s (below_bad ws g) = below_bad us g

bad_above : {X : Type 0} {o : Outcome (List X)} (us : List X) (g : Faults) → Below (Bad g) o → Below (Good us) o
bad_above us g (below_worse {g = h} r) = below_bad us h

worse_below : {X : Type 0} {o : Outcome (List X)} (f g : Faults) → Included f g → Below (Bad g) o → Below (Bad f) o
worse_below f g s (below_worse r) = below_worse (included-trans s r)

pub below-trans : {X : Type 0} {o p r : Outcome (List X)} → Below o p → Below p r → Below o r
below-trans (below_good {us} {vs} s) b = good_below us vs s b
below-trans (below_bad us g) b = bad_above us g b
below-trans (below_worse {f} {g} s) b = worse_below f g s b

pub below-nothing : {X : Type 0} (o : Outcome (List X)) → Below (Good []) o
below-nothing (Good us) = below_good (record { within = λ x h. absurd h })
below-nothing (Bad f) = below_bad [] f

-- the outcome of both is the least above each
pub below-left : {X : Type 0} (o p : Outcome (List X)) → Below o (joined_lists o p)
below-left (Good us) (Good vs) = below_good (record { within = λ x h. in-append_left x us vs h })
below-left (Good us) (Bad g) = below_bad us g
below-left (Bad f) (Good vs) = below_worse (included-refl f)
below-left (Bad f) (Bad g) = below_worse (included-left f g)

pub below-right : {X : Type 0} (o p : Outcome (List X)) → Below p (joined_lists o p)
below-right (Good us) (Good vs) = below_good (record { within = λ x h. in-append_right x us vs h })
below-right (Good us) (Bad g) = below_worse (included-refl g)
below-right (Bad f) (Good vs) = below_bad vs f
below-right (Bad f) (Bad g) = below_worse (included-right f g)

within-append : {X : Type 0} {us vs ws : List X} → Within us ws → Within vs ws → Within (us ++ vs) ws
within-append {X} {us} {vs} s r = record { within = λ x h. elim (from-append x us vs h) [ inl l ↦ s.within x l | inr m ↦ r.within x m ] }

pub below-joined : {X : Type 0} {o p r : Outcome (List X)} → Below o r → Below p r → Below (joined_lists o p) r
below-joined (below_good s) b = good_joined s b where
  good_joined : {X : Type 0} {us ws : List X} {p : Outcome (List X)} → Within us ws → Below p (Good ws) → Below (joined_lists (Good us) p) (Good ws)
  good_joined s (below_good r) = below_good (within-append s r)
below-joined (below_bad us g) b = under_bad us b where
  under_bad : {X : Type 0} {g : Faults} {p : Outcome (List X)} (us : List X) → Below p (Bad g) → Below (joined_lists (Good us) p) (Bad g)
  under_bad us (below_bad vs g) = below_bad (us ++ vs) g
  under_bad us (below_worse r) = below_worse r
below-joined (below_worse {f = f} s) b = worse_joined f s b where
  worse_joined : {X : Type 0} {g : Faults} {p : Outcome (List X)} (f : Faults) → Included f g → Below p (Bad g) →
      Below (joined_lists (Bad f) p) (Bad g)
  worse_joined f s (below_bad vs g) = below_worse s
  worse_joined f s (below_worse r) = below_worse (included-union s r)

-- ---- every item looked at

pub below-gather : {X Y : Type 0} (f : X → Outcome (List Y)) (x : X) (xs : List X) → IsIn x xs → Below (f x) (gather f xs)
below-gather f x [] h = absurd h
below-gather f x (y ∷ xs) (inl e) = subst (λ z. Below (f z) (gather f (y ∷ xs))) e (below-left (f y) (gather f xs))
below-gather f x (y ∷ xs) (inr h) = below-trans (below-gather f x xs h) (below-right (f y) (gather f xs))

pub gather-below : {X Y : Type 0} (f : X → Outcome (List Y)) (xs : List X) (o : Outcome (List Y)) → ((x : X) → IsIn x xs → Below (f x) o) →
    Below (gather f xs) o
gather-below f [] o h = below-nothing o
gather-below f (x ∷ xs) o h = below-joined (h x (inl refl)) (gather-below f xs o (λ y i. h y (inr i)))

-- ---- one set

-- both good with the same members, or both bad with one set of faults
pub data SetAgree {X : Type 0} : Outcome (List X) → Outcome (List X) → Type 0 where
  set_good : {us vs : List X} → Shared us vs → SetAgree (Good us) (Good vs)
  set_bad : (f : Faults) → SetAgree (Bad f) (Bad f)

pub set_agree-refl : {X : Type 0} (o : Outcome (List X)) → SetAgree o o
set_agree-refl (Good us) = set_good (shared-refl us)
set_agree-refl (Bad f) = set_bad f

pub set_agree-sym : {X : Type 0} {o p : Outcome (List X)} → SetAgree o p → SetAgree p o
set_agree-sym (set_good s) = set_good (shared-sym s)
set_agree-sym (set_bad f) = set_bad f

pub set_agree-below : {X : Type 0} {o p : Outcome (List X)} → SetAgree o p → Below o p
set_agree-below (set_good s) = below_good s.there
set_agree-below (set_bad f) = below_worse (included-refl f)

-- each is below the other
pub set_agree-of_below : {X : Type 0} {o p : Outcome (List X)} → Below o p → Below p o → SetAgree o p
set_agree-of_below (below_good {us} {vs} s) b = good_set us vs s b where
  good_set : {X : Type 0} (us vs : List X) → Within us vs → Below (Good vs) (Good us) → SetAgree (Good us) (Good vs)
  good_set us vs s (below_good r) = set_good (record { there = s; back = r })
set_agree-of_below (below_bad us g) b = worse_good us g b where
  worse_good : {X : Type 0} (us : List X) (g : Faults) → Below (Bad g) (Good us) → SetAgree (Good us) (Bad g)
  worse_good us g b = elim b [ ]
set_agree-of_below (below_worse {f} {g} s) b = bad_set f g s b where
  bad_set : {X : Type 0} (f g : Faults) → Included f g → Below {X = X} (Bad g) (Bad f) → SetAgree {X = X} (Bad f) (Bad g)
  bad_set {X} f g s (below_worse r) = subst (λ h. SetAgree {X = X} (Bad f) (Bad h)) (included-both s r) (set_bad f)

pub set_agree-same_set : {o p : Outcome Bag} → SetAgree o p → SameSet o p
set_agree-same_set (set_good {us} {vs} s) = same_members us vs s.there.within s.back.within
set_agree-same_set (set_bad f) = refl

pub same_set-agrees : (o p : Outcome Bag) → SameSet o p → SetAgree o p
same_set-agrees (Good us) (Good vs) e = set_good (record {
  there = record { within = λ t h. member-in t vs (sym (e t) ∙ in-member t us h) };
  back = record { within = λ t h. member-in t us (e t ∙ in-member t vs h) };
})
same_set-agrees (Good us) (Bad g) e = absurd e
same_set-agrees (Bad f) (Good vs) e = absurd e
same_set-agrees (Bad f) (Bad g) e = subst (λ h. SetAgree {X = Row} (Bad f) (Bad h)) e (set_bad f)

-- ---- items that are related to one another

-- each item of the one list has one of the other that gives the same, and the other way round
pub record Matched {X Y Z : Type 0} (f : X → Outcome (List Z)) (g : Y → Outcome (List Z)) (xs : List X) (ys : List Y) : Type 0 where
  pub there : (x : X) → IsIn x xs → (y : Y) × IsIn y ys × SetAgree (f x) (g y)
  pub back : (y : Y) → IsIn y ys → (x : X) × IsIn x xs × SetAgree (f x) (g y)

pub gather-matched : {X Y Z : Type 0} (f : X → Outcome (List Z)) (g : Y → Outcome (List Z)) (xs : List X) (ys : List Y) → Matched f g xs ys →
    SetAgree (gather f xs) (gather g ys)
gather-matched f g xs ys m =
    set_agree-of_below
    (gather-below f xs (gather g ys) (λ x i. let found = m.there x i in below-trans (set_agree-below found.2) (below-gather g found.0 ys found.1)))
    (gather-below g ys (gather f xs) (λ y i. let found = m.back y i in below-trans (set_agree-below (set_agree-sym found.2)) (below-gather f found.0 xs found.1)))

pub gather-set : {X Z : Type 0} (f g : X → Outcome (List Z)) {us vs : List X} → Shared us vs → ((x : X) → SetAgree (f x) (g x)) →
    SetAgree (gather f us) (gather g vs)
gather-set f g {us} {vs} s e =
    gather-matched f g us vs (record { there = λ x i. (x, s.there.within x i, e x); back = λ x i. (x, s.back.within x i, e x) })

pub each-set : {X Z : Type 0} (f : X → Outcome Z) {us vs : List X} → Shared us vs → SetAgree (each f us) (each f vs)
each-set {X} {Z} f {us} {vs} s =
    let single : X → Outcome (List Z) = λ x. mapped (λ y. y ∷ []) (f x) in
    subst₂ SetAgree (each-gather f us) (each-gather f vs) (gather-set single single s (λ x. set_agree-refl (single x)))

-- ---- what comes after

pub and_then-set : {X Y : Type 0} (k l : List X → Outcome (List Y)) {o p : Outcome (List X)} → SetAgree o p →
    ((us vs : List X) → Shared us vs → SetAgree (k us) (l vs)) →
    SetAgree (and_then o k) (and_then p l)
and_then-set k l (set_good {us} {vs} s) next = next us vs s
and_then-set k l (set_bad f) next = set_bad f

pub mapped-set : {X Y : Type 0} (k l : List X → List Y) {o p : Outcome (List X)} → SetAgree o p →
    ((us vs : List X) → Shared us vs → Shared (k us) (l vs)) → SetAgree (mapped k o) (mapped l p)
mapped-set k l (set_good {us} {vs} s) next = set_good (next us vs s)
mapped-set k l (set_bad f) next = set_bad f

pub both_then-set : {X Y Z : Type 0} (k l : List X → List Y → Outcome (List Z)) {o p : Outcome (List X)} {r s : Outcome (List Y)} → SetAgree o p →
    SetAgree r s →
    ((us vs : List X) (xs ys : List Y) → Shared us vs → Shared xs ys → SetAgree (k us xs) (l vs ys)) → SetAgree (both_then o r k) (both_then p s l)
both_then-set k l (set_good {us} {vs} a) (set_good {us = xs} {vs = ys} b) next = next us vs xs ys a b
both_then-set k l (set_good a) (set_bad g) next = set_bad g
both_then-set k l (set_bad f) (set_good b) next = set_bad f
both_then-set k l (set_bad f) (set_bad g) next = set_bad (union f g)

pub both-set : {X Y Z : Type 0} (k l : List X → List Y → List Z) {o p : Outcome (List X)} {r s : Outcome (List Y)} → SetAgree o p → SetAgree r s →
    ((us vs : List X) (xs ys : List Y) → Shared us vs → Shared xs ys → Shared (k us xs) (l vs ys)) → SetAgree (both k o r) (both l p s)
both-set k l (set_good {us} {vs} a) (set_good {us = xs} {vs = ys} b) next = set_good (next us vs xs ys a b)
both-set k l (set_good a) (set_bad g) next = set_bad g
both-set k l (set_bad f) (set_good b) next = set_bad f
both-set k l (set_bad f) (set_bad g) next = set_bad (union f g)

-- ---- items of items

flat_map-append : {X Y : Type 0} (h : X → List Y) (xs ys : List X) → flat_map h (xs ++ ys) ≡ flat_map h xs ++ flat_map h ys
flat_map-append h [] ys = refl
flat_map-append h (x ∷ xs) ys = ap (λ l. h x ++ l) (flat_map-append h xs ys) ∙ sym (append_assoc (h x) (flat_map h xs) (flat_map h ys))

mapped-joined : {X Y : Type 0} (h : X → List Y) (o p : Outcome (List X)) →
    mapped (flat_map h) (joined_lists o p) ≡ joined_lists (mapped (flat_map h) o) (mapped (flat_map h) p)
mapped-joined h (Good xs) (Good ys) = ap Good (flat_map-append h xs ys)
mapped-joined h (Good xs) (Bad g) = refl
mapped-joined h (Bad f) (Good ys) = refl
mapped-joined h (Bad f) (Bad g) = refl

-- what is made of each gathered item may be made of each item's own
pub mapped-gather : {X Y Z : Type 0} (h : Y → List Z) (f : X → Outcome (List Y)) (xs : List X) →
    mapped (flat_map h) (gather f xs) ≡ gather (λ x. mapped (flat_map h) (f x)) xs
mapped-gather h f [] = refl
mapped-gather h f (x ∷ xs) = mapped-joined h (f x) (gather f xs) ∙ ap (joined_lists (mapped (flat_map h) (f x))) (mapped-gather h f xs)
