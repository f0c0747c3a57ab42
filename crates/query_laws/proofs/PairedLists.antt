-- What the words on witness lists make, and how it came there.
use Rattle.std.proofs.Common.{◌≡◌, ◌⊎◌, inl, inr, Bool, true, false, cond, not, ◌&&◌, List, [], ◌∷◌, ◌++◌, map, refl, sym, ap, ◌∙◌, subst, append_assoc, append-nil, true≢false}
use Rattle.std.specs.List.{flat_map, list_any}
use Rattle.bag_algebra.proofs.Members.{IsIn, in-map, from-map, in-flat_map, from-flat_map}
use Rattle.bag_algebra.specs.Bags.{Row, Bag}
use Rattle.bag_algebra.specs.Means.{Witness, paired, beside}
use Rattle.contribution.proofs.SetsOfNodes.{any_in, from_any}

pub in-paired : (v w : Witness) (vs ws : List Witness) → IsIn v vs → IsIn w ws → IsIn (v ++ w) (paired vs ws)
in-paired v w vs ws h g = in-flat_map (λ v. map (λ w. v ++ w) ws) (v ++ w) v vs h (in-map (λ w. v ++ w) w ws g)

pub from-paired : (x : Witness) (vs ws : List Witness) → IsIn x (paired vs ws) → (v : Witness) × (w : Witness) × IsIn v vs × IsIn w ws × (v ++ w ≡ x)
from-paired x vs ws h =
    let left = from-flat_map (λ v. map (λ w. v ++ w) ws) x vs h in
    let right = from-map (λ w. left.0 ++ w) x ws left.2 in
    (left.0, right.0, left.1, right.1, right.2)

pub rejoined : (l r rest both w : Witness) → l ++ r ≡ both → both ++ rest ≡ w → l ++ r ++ rest ≡ w
rejoined l r rest both w e f = ap (λ x. x ++ rest) e ∙ f

-- one of each list, one after another
abbrev pub OneOfEach : List (List Witness) → Witness → Type 0
OneOfEach [] x = [] ≡ x
OneOfEach (ws ∷ more) x = (w : Witness) × (rest : Witness) × IsIn w ws × OneOfEach more rest × (w ++ rest ≡ x)

pub in-beside : (v rest : Witness) (ws : List Witness) (more : List (List Witness)) → IsIn v ws → OneOfEach more rest → IsIn (v ++ rest) (beside ws more)
in-beside v rest ws [] h e = subst (λ r. IsIn (v ++ r) ws) e (subst (λ x. IsIn x ws) (sym (append-nil v)) h)
in-beside v rest ws (cs ∷ more) h one =
    subst (λ x. IsIn x (beside (paired ws cs) more)) (append_assoc v one.0 one.1 ∙ ap (λ r. v ++ r) one.4)
    (in-beside (v ++ one.0) one.1 (paired ws cs) more (in-paired v one.0 ws cs h one.2) one.3)

pub from-beside : (x : Witness) (ws : List Witness) (more : List (List Witness)) → IsIn x (beside ws more) →
    (v : Witness) × (rest : Witness) × IsIn v ws × OneOfEach more rest × (v ++ rest ≡ x)
from-beside x ws [] h = (x, [], h, refl, append-nil x)
from-beside x ws (cs ∷ more) h =
    let found = from-beside x (paired ws cs) more h in
    let both = from-paired found.0 ws cs found.2 in (
      both.0,
      both.1 ++ found.1,
      both.2,
      (both.1, found.1, both.3, found.3, refl),
      sym (append_assoc both.0 both.1 found.1) ∙ ap (λ v. v ++ found.1) both.4 ∙ found.4,
    )

-- ---- the lists of some rows, or a blank where there is no row

module _ (blank : Witness) (lists : Row → List Witness) (x : Witness) where
  pub from-some_or_blank : (rows : Bag) → IsIn x (cond (list_any (λ (v : Row). true) rows) (flat_map lists rows) (blank ∷ [])) →
      ((v : Row) × IsIn v rows × IsIn x (lists v)) ⊎ ((rows ≡ []) × (blank ≡ x))
  from-some_or_blank [] (inl e) = inr (refl, e)
  from-some_or_blank [] (inr h) = absurd h
  from-some_or_blank (v ∷ vs) h = inl (from-flat_map lists x (v ∷ vs) h)

  pub in-some : (rows : Bag) (v : Row) → IsIn v rows → IsIn x (lists v) → IsIn x (cond (list_any (λ (v : Row). true) rows) (flat_map lists rows) (blank ∷ []))
  in-some [] v h g = absurd h
  in-some (u ∷ us) v h g = in-flat_map lists x v (u ∷ us) h g

  pub in-blank : (rows : Bag) → rows ≡ [] → blank ≡ x → IsIn x (cond (list_any (λ (v : Row). true) rows) (flat_map lists rows) (blank ∷ []))
  in-blank rows e b = subst (λ rows. IsIn x (cond (list_any (λ (v : Row). true) rows) (flat_map lists rows) (blank ∷ []))) (sym e) (inl b)

-- ---- where no item passes a test

pub none_passes : {X : Type 0} (test : X → Bool) (x : X) (xs : List X) → not (list_any test xs) ≡ true → IsIn x xs → test x ≡ true → ⊥
none_passes test x xs e h t = true≢false (sym e ∙ ap not (any_in test x xs h t))

pub none-pass : {X : Type 0} (test : X → Bool) (xs : List X) → ((x : X) → IsIn x xs → test x ≡ true → ⊥) → not (list_any test xs) ≡ true
none-pass {X} test xs none = by_answer (list_any test xs) refl where
  by_answer : (b : Bool) → list_any test xs ≡ b → not b ≡ true
  by_answer true e = let found = from_any test xs e in absurd (none found.0 found.1 found.2)
  by_answer false e = refl

pub in-where : {X : Type 0} (a b : Bool) (x : X) (xs : List X) → a ≡ true → b ≡ true → IsIn x xs → IsIn x (cond (a && b) xs [])
in-where true true x xs e f h = h
in-where true false x xs e f h = absurd (true≢false (sym f))
in-where false b x xs e f h = absurd (true≢false (sym e))

pub from-where : {X : Type 0} (a b : Bool) (x : X) (xs : List X) → IsIn x (cond (a && b) xs []) → (a ≡ true) × (b ≡ true) × IsIn x xs
from-where true true x xs h = (refl, refl, h)
from-where true false x xs h = absurd h
from-where false b x xs h = absurd h

pub in-if : {X : Type 0} (b : Bool) (x : X) (xs : List X) → b ≡ true → IsIn x xs → IsIn x (cond b xs [])
in-if true x xs e h = h
in-if false x xs e h = absurd (true≢false (sym e))

pub from-if : {X : Type 0} (b : Bool) (x : X) (xs : List X) → IsIn x (cond b xs []) → (b ≡ true) × IsIn x xs
from-if true x xs h = (refl, h)
from-if false x xs h = absurd h
