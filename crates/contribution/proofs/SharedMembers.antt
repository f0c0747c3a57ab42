-- Lists that have the same members, and what keeps them so.
use Rattle.std.proofs.Common.{◌≡◌, inl, inr, Bool, true, false, cond, List, [], ◌∷◌, ◌++◌, map, subst}
use Rattle.std.specs.List.{flat_map}
use Rattle.bag_algebra.proofs.BagLaws.{Permuted, nothing, onward, turn, joined, permuted-sym}
use Rattle.bag_algebra.proofs.Members.{IsIn, in-map, from-map, in-append_left, in-append_right, from-append, in-flat_map, from-flat_map}
use Rattle.bag_algebra.specs.Means.{Witness, paired, beside}

pub record Within {X : Type 0} (xs ys : List X) : Type 0 where
  pub within : (x : X) → IsIn x xs → IsIn x ys

pub record Shared {X : Type 0} (xs ys : List X) : Type 0 where
  pub there : Within xs ys
  pub back : Within ys xs

pub shared-refl : {X : Type 0} (xs : List X) → Shared xs xs
shared-refl xs = record { there = record { within = λ x h. h }; back = record { within = λ x h. h } }

pub shared-sym : {X : Type 0} {xs ys : List X} → Shared xs ys → Shared ys xs
shared-sym s = record { there = s.back; back = s.there }

pub shared-trans : {X : Type 0} {xs ys zs : List X} → Shared xs ys → Shared ys zs → Shared xs zs
shared-trans s r = record {
  there = record { within = λ x h. r.there.within x (s.there.within x h) };
  back = record { within = λ x h. s.back.within x (r.back.within x h) };
}

-- ---- permutations

pub in-permuted : {X : Type 0} (x : X) {us vs : List X} → Permuted us vs → IsIn x us → IsIn x vs
in-permuted x nothing h = h
in-permuted x (onward u p) (inl e) = inl e
in-permuted x (onward u p) (inr h) = inr (in-permuted x p h)
in-permuted x (turn u v us) (inl e) = inr (inl e)
in-permuted x (turn u v us) (inr (inl e)) = inl e
in-permuted x (turn u v us) (inr (inr h)) = inr (inr h)
in-permuted x (joined p q) h = in-permuted x q (in-permuted x p h)

pub shared-permuted : {X : Type 0} {us vs : List X} → Permuted us vs → Shared us vs
shared-permuted p = record { there = record { within = λ x h. in-permuted x p h }; back = record { within = λ x h. in-permuted x (permuted-sym p) h } }

-- ---- the words that make lists

module _ {X Y : Type 0} where
  within-map : (f : X → Y) {xs ys : List X} → Within xs ys → Within (map f xs) (map f ys)
  within-map f {xs} {ys} s = record {
    within = λ y h. let found = from-map f y xs h in subst (λ z. IsIn z (map f ys)) found.2 (in-map f found.0 ys (s.within found.0 found.1));
  }

  pub shared-map : (f : X → Y) {xs ys : List X} → Shared xs ys → Shared (map f xs) (map f ys)
  shared-map f s = record { there = within-map f s.there; back = within-map f s.back }

  within-flat_map : (f g : X → List Y) {xs ys : List X} → Within xs ys → ((x : X) → Within (f x) (g x)) → Within (flat_map f xs) (flat_map g ys)
  within-flat_map f g {xs} {ys} s e = record {
    within = λ y h. let found = from-flat_map f y xs h in in-flat_map g y found.0 ys (s.within found.0 found.1) ((e found.0).within y found.2);
  }

  pub shared-flat_map : (f g : X → List Y) {xs ys : List X} → Shared xs ys → ((x : X) → Shared (f x) (g x)) → Shared (flat_map f xs) (flat_map g ys)
  shared-flat_map f g s e = record {
    there = within-flat_map f g s.there (λ x. (e x).there);
    back = within-flat_map g f s.back (λ x. (e x).back);
  }

within-append : {X : Type 0} {us vs xs ys : List X} → Within us vs → Within xs ys → Within (us ++ xs) (vs ++ ys)
within-append {X} {us} {vs} {xs} {ys} s r = record {
  within = λ x h. elim (from-append x us xs h) [
    | inl l ↦ in-append_left x vs ys (s.within x l)
    | inr m ↦ in-append_right x vs ys (r.within x m)
  ];
}

pub shared-append : {X : Type 0} {us vs xs ys : List X} → Shared us vs → Shared xs ys → Shared (us ++ xs) (vs ++ ys)
shared-append s r = record { there = within-append s.there r.there; back = within-append s.back r.back }

-- both, or nothing on either side
pub shared-where : {X : Type 0} (b d : Bool) {xs ys : List X} → b ≡ d → Shared xs ys → Shared (cond b xs []) (cond d ys [])
shared-where {X} b d {xs} {ys} e s = subst (λ c. Shared (cond b xs []) (cond c ys [])) e (alike b) where
  alike : (c : Bool) → Shared (cond c xs []) (cond c ys [])
  alike true = s
  alike false = shared-refl []

-- ---- witness lists beside one another

pub shared-paired : {vs xs ws ys : List Witness} → Shared vs xs → Shared ws ys → Shared (paired vs ws) (paired xs ys)
shared-paired {vs} {xs} {ws} {ys} s r =
    shared-flat_map (λ v. map (λ w. v ++ w) ws) (λ v. map (λ w. v ++ w) ys) s (λ v. shared-map (λ w. v ++ w) r)

-- list by list
pub data SharedEach : List (List Witness) → List (List Witness) → Type 0 where
  none_each : SharedEach [] []
  next_each : {vs ws : List Witness} {more further : List (List Witness)} → Shared vs ws → SharedEach more further →
      SharedEach (vs ∷ more) (ws ∷ further)

pub shared_each-refl : (cs : List (List Witness)) → SharedEach cs cs
shared_each-refl [] = none_each
shared_each-refl (c ∷ cs) = next_each (shared-refl c) (shared_each-refl cs)

pub shared-beside : {vs ws : List Witness} {more further : List (List Witness)} → Shared vs ws → SharedEach more further →
    Shared (beside vs more) (beside ws further)
shared-beside s none_each = s
shared-beside s (next_each r e) = shared-beside (shared-paired s r) e
