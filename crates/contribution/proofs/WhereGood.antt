-- What holds of an outcome where it is good, through the words that make outcomes.
use Rattle.std.proofs.Common.{inl, inr, List, [], ◌∷◌, ◌++◌, refl, subst}
use Rattle.std.specs.Prelude.{⊤}
use Rattle.bag_algebra.proofs.Members.{IsIn}
use Rattle.bag_algebra.specs.Outcome.{Outcome, Good, Bad, and_then, mapped, both, both_then, gather, each}

abbrev pub WhereGood : {X : Type 0} → (X → Type 0) → Outcome X → Type 0
WhereGood P (Good x) = P x
WhereGood P (Bad f) = ⊤

pub any_value : {X : Type 0} (o : Outcome X) → WhereGood (λ x. ⊤) o
any_value (Good x) = tt
any_value (Bad f) = tt

-- each item of the list
abbrev pub Every : {X : Type 0} → (X → Type 0) → List X → Type 0
Every P [] = ⊤
Every P (x ∷ xs) = P x × Every P xs

pub every-append : {X : Type 0} (P : X → Type 0) (xs ys : List X) → Every P xs → Every P ys → Every P (xs ++ ys)
every-append P [] ys h g = g
every-append P (x ∷ xs) ys h g = (h.0, every-append P xs ys h.1 g)

pub each-in : {X : Type 0} (P : X → Type 0) (x : X) (xs : List X) → Every P xs → IsIn x xs → P x
each-in P x [] h i = absurd i
each-in P x (y ∷ ys) h (inl e) = subst P e h.0
each-in P x (y ∷ ys) h (inr i) = each-in P x ys h.1 i

pub each-of : {X : Type 0} (P : X → Type 0) (xs : List X) → ((x : X) → IsIn x xs → P x) → Every P xs
each-of P [] h = tt
each-of P (x ∷ xs) h = (h x (inl refl), each-of P xs (λ y i. h y (inr i)))

module _ {X Y : Type 0} (P : X → Type 0) (Q : Y → Type 0) where
  pub good-mapped : (f : X → Y) (o : Outcome X) → WhereGood P o → ((x : X) → P x → Q (f x)) → WhereGood Q (mapped f o)
  good-mapped f (Good x) h next = next x h
  good-mapped f (Bad g) h next = tt

  pub good-and_then : (o : Outcome X) (k : X → Outcome Y) → WhereGood P o → ((x : X) → P x → WhereGood Q (k x)) → WhereGood Q (and_then o k)
  good-and_then (Good x) k h next = next x h
  good-and_then (Bad f) k h next = tt

module _ {X Y Z : Type 0} (P : X → Type 0) (Q : Y → Type 0) (R : Z → Type 0) where
  pub good-both : (f : X → Y → Z) (o : Outcome X) (p : Outcome Y) → WhereGood P o → WhereGood Q p → ((x : X) (y : Y) → P x → Q y → R (f x y)) →
      WhereGood R (both f o p)
  good-both f (Good x) (Good y) h g next = next x y h g
  good-both f (Good x) (Bad b) h g next = tt
  good-both f (Bad a) (Good y) h g next = tt
  good-both f (Bad a) (Bad b) h g next = tt

  pub good-both_then : (o : Outcome X) (p : Outcome Y) (k : X → Y → Outcome Z) → WhereGood P o → WhereGood Q p →
      ((x : X) (y : Y) → P x → Q y → WhereGood R (k x y)) →
      WhereGood R (both_then o p k)
  good-both_then (Good x) (Good y) k h g next = next x y h g
  good-both_then (Good x) (Bad b) k h g next = tt
  good-both_then (Bad a) (Good y) k h g next = tt
  good-both_then (Bad a) (Bad b) k h g next = tt

module _ {X Y : Type 0} (P : X → Type 0) (Q : Y → Type 0) where
  pub good-gather : (f : X → Outcome (List Y)) (xs : List X) → Every P xs → ((x : X) → P x → WhereGood (Every Q) (f x)) →
      WhereGood (Every Q) (gather f xs)
  good-gather f [] h next = tt
  good-gather f (x ∷ xs) h next =
      good-both (Every Q) (Every Q) (Every Q) (λ y ys. y ++ ys) (f x) (gather f xs) (next x h.0) (good-gather f xs h.1 next) (λ ys zs i j. every-append Q ys zs i j)

  pub good-each : (f : X → Outcome Y) (xs : List X) → Every P xs → ((x : X) → P x → WhereGood Q (f x)) → WhereGood (Every Q) (each f xs)
  good-each f [] h next = tt
  good-each f (x ∷ xs) h next =
      good-both Q (Every Q) (Every Q) (λ y ys. y ∷ ys) (f x) (each f xs) (next x h.0) (good-each f xs h.1 next) (λ y ys i j. (i, j))
