-- What is in a list, and how it came there.
use Rattle.std.proofs.Common.{◌≡◌, ◌⊎◌, inl, inr, Bool, true, false, cond, ◌||◌, List, [], ◌∷◌, ◌++◌, map, filter, refl, sym, ap, ◌∙◌, subst}
use Rattle.std.specs.List.{flat_map}
use Rattle.std.specs.Cmp.{both_ways}
use mathlib.Core.Bool.{true≢false}
use Rattle.perm_values.specs.Rows.{same_row}
use Rattle.perm_values.specs.ValueLaws.{row_decides}
use Rattle.bag_algebra.specs.Bags.{Row, Bag, member}
use Rattle.std.proofs.lemmas.Bool.{or_right}

abbrev pub IsIn : {X : Type 0} → X → List X → Type 0
IsIn x [] = ⊥
IsIn x (y ∷ ys) = (y ≡ x) ⊎ IsIn x ys

pub in-map : {X Y : Type 0} (f : X → Y) (x : X) (xs : List X) → IsIn x xs → IsIn (f x) (map f xs)
in-map f x [] h = h
in-map f x (y ∷ ys) (inl e) = inl (ap f e)
in-map f x (y ∷ ys) (inr h) = inr (in-map f x ys h)

-- what is in the image is the image of something in the list
pub from-map : {X Y : Type 0} (f : X → Y) (y : Y) (xs : List X) → IsIn y (map f xs) → (x : X) × IsIn x xs × (f x ≡ y)
from-map f y [] h = absurd h
from-map f y (x ∷ xs) (inl e) = (x, inl refl, e)
from-map f y (x ∷ xs) (inr h) = let found = from-map f y xs h in (found.0, inr found.1, found.2)

pub in-append_left : {X : Type 0} (x : X) (xs ys : List X) → IsIn x xs → IsIn x (xs ++ ys)
in-append_left x [] ys h = absurd h
in-append_left x (y ∷ xs) ys (inl e) = inl e
in-append_left x (y ∷ xs) ys (inr h) = inr (in-append_left x xs ys h)

pub in-append_right : {X : Type 0} (x : X) (xs ys : List X) → IsIn x ys → IsIn x (xs ++ ys)
in-append_right x [] ys h = h
in-append_right x (y ∷ xs) ys h = inr (in-append_right x xs ys h)

pub from-append : {X : Type 0} (x : X) (xs ys : List X) → IsIn x (xs ++ ys) → IsIn x xs ⊎ IsIn x ys
from-append x [] ys h = inr h
from-append x (y ∷ xs) ys (inl e) = inl (inl e)
from-append x (y ∷ xs) ys (inr h) = elim (from-append x xs ys h) [ inl l ↦ inl (inr l) | inr r ↦ inr r ]

pub in-flat_map : {X Y : Type 0} (f : X → List Y) (y : Y) (x : X) (xs : List X) → IsIn x xs → IsIn y (f x) → IsIn y (flat_map f xs)
in-flat_map f y x [] h g = absurd h
in-flat_map f y x (z ∷ xs) (inl e) g = in-append_left y (f z) (flat_map f xs) (subst (λ w. IsIn y (f w)) (sym e) g)
in-flat_map f y x (z ∷ xs) (inr h) g = in-append_right y (f z) (flat_map f xs) (in-flat_map f y x xs h g)

pub from-flat_map : {X Y : Type 0} (f : X → List Y) (y : Y) (xs : List X) → IsIn y (flat_map f xs) → (x : X) × IsIn x xs × IsIn y (f x)
from-flat_map f y [] h = absurd h
from-flat_map f y (x ∷ xs) h = elim (from-append y (f x) (flat_map f xs) h) [
  | inl l ↦ (x, inl refl, l)
  | inr r ↦ let found = from-flat_map f y xs r in (found.0, inr found.1, found.2)
]

in-filter-head : {X : Type 0} (test : X → Bool) (x y : X) (ys : List X) (b : Bool) → test y ≡ b → test x ≡ true → y ≡ x → IsIn x (cond b (y ∷ filter test ys) (filter test ys))
in-filter-head test x y ys true e h same = inl same
in-filter-head test x y ys false e h same = absurd (true≢false (sym h ∙ sym (ap test same) ∙ e))

in-filter-tail : {X : Type 0} (x y : X) (ys : List X) (b : Bool) → IsIn x ys → IsIn x (cond b (y ∷ ys) ys)
in-filter-tail x y ys true h = inr h
in-filter-tail x y ys false h = h

pub in-filter : {X : Type 0} (test : X → Bool) (x : X) (xs : List X) → IsIn x xs → test x ≡ true → IsIn x (filter test xs)
in-filter test x [] h p = h
in-filter test x (y ∷ ys) (inl e) p = in-filter-head test x y ys (test y) refl p e
in-filter test x (y ∷ ys) (inr h) p = in-filter-tail x y (filter test ys) (test y) (in-filter test x ys h p)

from-filter-by : {X : Type 0} (test : X → Bool) (x y : X) (ys rest : List X) (b : Bool) → test y ≡ b → (IsIn x rest → IsIn x ys × (test x ≡ true)) →
    IsIn x (cond b (y ∷ rest) rest) → IsIn x (y ∷ ys) × (test x ≡ true)
from-filter-by test x y ys rest true e after (inl same) = (inl same, ap test (sym same) ∙ e)
from-filter-by test x y ys rest true e after (inr h) = (inr (after h).0, (after h).1)
from-filter-by test x y ys rest false e after h = (inr (after h).0, (after h).1)

pub from-filter : {X : Type 0} (test : X → Bool) (x : X) (xs : List X) → IsIn x (filter test xs) → IsIn x xs × (test x ≡ true)
from-filter test x [] h = absurd h
from-filter test x (y ∷ ys) h = from-filter-by test x y ys (filter test ys) (test y) refl (from-filter test x ys) h

pub one_of : (a b : Bool) → (a || b) ≡ true → (a ≡ true) ⊎ (b ≡ true)
one_of true b h = inl refl
one_of false b h = inr h

pub or-first : (a b : Bool) → a ≡ true → (a || b) ≡ true
or-first true b h = refl
or-first false b h = absurd (true≢false (sym h))

-- a row is in a bag exactly where the test says so
pub member-in : (t : Row) (us : Bag) → member t us ≡ true → IsIn t us
member-in t [] h = absurd (true≢false (sym h))
member-in t (u ∷ us) h = elim (one_of (same_row u t) (member t us) h) [
  | inl e ↦ inl ((row_decides u t).0 e)
  | inr m ↦ inr (member-in t us m)
]

pub in-member : (t : Row) (us : Bag) → IsIn t us → member t us ≡ true
in-member t [] h = absurd h
in-member t (u ∷ us) (inl e) = or-first (same_row u t) (member t us) ((row_decides u t).1 e)
in-member t (u ∷ us) (inr h) = or_right (same_row u t) (member t us) (in-member t us h)

-- bags with the same rows have the same members
pub same_members : (us vs : Bag) → ((t : Row) → IsIn t us → IsIn t vs) → ((t : Row) → IsIn t vs → IsIn t us) → (t : Row) → member t us ≡ member t vs
same_members us vs there back t =
    both_ways (member t us) (member t vs) (λ h. in-member t vs (there t (member-in t us h))) (λ h. in-member t us (back t (member-in t vs h)))
