-- Outcomes that are alike: good ones where what they give is related, bad ones where their faults are the same.
use Rattle.std.proofs.Common.{◌≡◌, Bool, true, false, cond, ◌||◌, List, [], ◌∷◌, ◌++◌, map, filter, refl, sym, subst}
use Rattle.std.specs.List.{list_any}
use Rattle.bag_algebra.specs.Outcome.{Outcome, Good, Bad, union, and_then, mapped, both, both_then, gather, each}

-- item by item
abbrev pub Along : {A B : Type 0} → (A → B → Type 0) → List A → List B → Type 0
Along R [] [] = Unit {0}
Along R [] (b ∷ bs) = ⊥
Along R (a ∷ xs) [] = ⊥
Along R (a ∷ xs) (b ∷ bs) = R a b × Along R xs bs

abbrev pub AlikeOutcomes : {A B : Type 0} → (A → B → Type 0) → Outcome A → Outcome B → Type 0
AlikeOutcomes R (Good a) (Good b) = R a b
AlikeOutcomes R (Good a) (Bad g) = ⊥
AlikeOutcomes R (Bad f) (Good b) = ⊥
AlikeOutcomes R (Bad f) (Bad g) = f ≡ g

pub along-append : {A B : Type 0} (R : A → B → Type 0) (xs more : List A) (bs others : List B) → Along R xs bs → Along R more others
    → Along R (xs ++ more) (bs ++ others)
along-append R [] more [] others r s = s
along-append R [] more (b ∷ bs) others r s = absurd r
along-append R (a ∷ xs) more [] others r s = absurd r
along-append R (a ∷ xs) more (b ∷ bs) others r s = (r.0, along-append R xs more bs others r.1 s)

-- ---- lists

module _ {A B : Type 0} (R : A → B → Type 0) where
  pub along-cond : (b : Bool) (xs : List A) (bs : List B) → Along R xs bs → Along R (cond b xs []) (cond b bs [])
  along-cond true xs bs r = r
  along-cond false xs bs r = tt

  pub along-kept : (S : A → B → Type 0) → ((a : A) (b : B) → R a b → S a b) → (xs : List A) (bs : List B) → Along R xs bs → Along S xs bs
  along-kept S turned [] [] r = tt
  along-kept S turned [] (b ∷ bs) r = absurd r
  along-kept S turned (a ∷ xs) [] r = absurd r
  along-kept S turned (a ∷ xs) (b ∷ bs) r = (turned a b r.0, along-kept S turned xs bs r.1)

  pub along-map : {X Y : Type 0} (S : X → Y → Type 0) (f : A → X) (g : B → Y) → ((a : A) (b : B) → R a b → S (f a) (g b)) → (xs : List A) (bs : List B)
      → Along R xs bs → Along S (map f xs) (map g bs)
  along-map S f g turned [] [] r = tt
  along-map S f g turned [] (b ∷ bs) r = absurd r
  along-map S f g turned (a ∷ xs) [] r = absurd r
  along-map S f g turned (a ∷ xs) (b ∷ bs) r = (turned a b r.0, along-map S f g turned xs bs r.1)

  module _ (test : A → Bool) (other : B → Bool) (same : (a : A) (b : B) → R a b → other b ≡ test a) where
    pub any-along : (xs : List A) (bs : List B) → Along R xs bs → list_any other bs ≡ list_any test xs
    any-along [] [] r = refl
    any-along [] (b ∷ bs) r = absurd r
    any-along (a ∷ xs) [] r = absurd r
    any-along (a ∷ xs) (b ∷ bs) r = λ i. same a b r.0 i || any-along xs bs r.1 i

    either-along : (x : Bool) (a : A) (b : B) (xs : List A) (bs : List B) → R a b → Along R xs bs → Along R (cond x (a ∷ xs) xs) (cond x (b ∷ bs) bs)
    either-along true a b xs bs r s = (r, s)
    either-along false a b xs bs r s = s

    pub filter-along : (xs : List A) (bs : List B) → Along R xs bs → Along R (filter test xs) (filter other bs)
    filter-along [] [] r = tt
    filter-along [] (b ∷ bs) r = absurd r
    filter-along (a ∷ xs) [] r = absurd r
    filter-along (a ∷ xs) (b ∷ bs) r =
        subst (λ x. Along R (cond (test a) (a ∷ filter test xs) (filter test xs)) (cond x (b ∷ filter other bs) (filter other bs))) (sym (same a b r.0))
        (either-along (test a) a b (filter test xs) (filter other bs) r.0 (filter-along xs bs r.1))

-- ---- outcomes

pub alike-kept : {A B : Type 0} (R S : A → B → Type 0) → ((a : A) (b : B) → R a b → S a b) → (o : Outcome A) (p : Outcome B) → AlikeOutcomes R o p
    → AlikeOutcomes S o p
alike-kept R S turned (Good a) (Good b) r = turned a b r
alike-kept R S turned (Good a) (Bad g) r = absurd r
alike-kept R S turned (Bad f) (Good b) r = absurd r
alike-kept R S turned (Bad f) (Bad g) r = r

module _ {A B X Y : Type 0} (R : A → B → Type 0) (S : X → Y → Type 0) where
  pub alike-mapped : (f : A → X) (g : B → Y) → ((a : A) (b : B) → R a b → S (f a) (g b)) → (o : Outcome A) (p : Outcome B)
      → AlikeOutcomes R o p → AlikeOutcomes S (mapped f o) (mapped g p)
  alike-mapped f g turned (Good a) (Good b) r = turned a b r
  alike-mapped f g turned (Good a) (Bad k) r = absurd r
  alike-mapped f g turned (Bad h) (Good b) r = absurd r
  alike-mapped f g turned (Bad h) (Bad k) r = r

  module _ (f : A → Outcome X) (g : B → Outcome Y) (turned : (a : A) (b : B) → R a b → AlikeOutcomes S (f a) (g b)) where
    pub alike-and_then : (o : Outcome A) (p : Outcome B) → AlikeOutcomes R o p → AlikeOutcomes S (and_then o f) (and_then p g)
    alike-and_then (Good a) (Good b) r = turned a b r
    alike-and_then (Good a) (Bad k) r = absurd r
    alike-and_then (Bad h) (Good b) r = absurd r
    alike-and_then (Bad h) (Bad k) r = r

module _ {A B C D X Y : Type 0} (R : A → B → Type 0) (T : C → D → Type 0) (S : X → Y → Type 0) where
  pub alike-both : (f : A → C → X) (g : B → D → Y) → ((a : A) (b : B) (c : C) (d : D) → R a b → T c d → S (f a c) (g b d))
      → (o : Outcome A) (p : Outcome B) (m : Outcome C) (n : Outcome D) → AlikeOutcomes R o p → AlikeOutcomes T m n
      → AlikeOutcomes S (both f o m) (both g p n)
  alike-both f g turned (Good a) (Good b) (Good c) (Good d) r t = turned a b c d r t
  alike-both f g turned (Good a) (Good b) (Good c) (Bad l) r t = absurd t
  alike-both f g turned (Good a) (Good b) (Bad k) (Good d) r t = absurd t
  alike-both f g turned (Good a) (Good b) (Bad k) (Bad l) r t = t
  alike-both f g turned (Good a) (Bad h) m n r t = absurd r
  alike-both f g turned (Bad h) (Good b) m n r t = absurd r
  alike-both f g turned (Bad h) (Bad i) (Good c) (Good d) r t = r
  alike-both f g turned (Bad h) (Bad i) (Good c) (Bad l) r t = absurd t
  alike-both f g turned (Bad h) (Bad i) (Bad k) (Good d) r t = absurd t
  alike-both f g turned (Bad h) (Bad i) (Bad k) (Bad l) r t = λ j. union (r j) (t j)

  pub alike-both_then : (f : A → C → Outcome X) (g : B → D → Outcome Y)
      → ((a : A) (b : B) (c : C) (d : D) → R a b → T c d → AlikeOutcomes S (f a c) (g b d))
      → (o : Outcome A) (p : Outcome B) (m : Outcome C) (n : Outcome D) → AlikeOutcomes R o p → AlikeOutcomes T m n
      → AlikeOutcomes S (both_then o m f) (both_then p n g)
  alike-both_then f g turned (Good a) (Good b) (Good c) (Good d) r t = turned a b c d r t
  alike-both_then f g turned (Good a) (Good b) (Good c) (Bad l) r t = absurd t
  alike-both_then f g turned (Good a) (Good b) (Bad k) (Good d) r t = absurd t
  alike-both_then f g turned (Good a) (Good b) (Bad k) (Bad l) r t = t
  alike-both_then f g turned (Good a) (Bad h) m n r t = absurd r
  alike-both_then f g turned (Bad h) (Good b) m n r t = absurd r
  alike-both_then f g turned (Bad h) (Bad i) (Good c) (Good d) r t = r
  alike-both_then f g turned (Bad h) (Bad i) (Good c) (Bad l) r t = absurd t
  alike-both_then f g turned (Bad h) (Bad i) (Bad k) (Good d) r t = absurd t
  alike-both_then f g turned (Bad h) (Bad i) (Bad k) (Bad l) r t = λ j. union (r j) (t j)

module _ {A B X Y : Type 0} (R : A → B → Type 0) (S : X → Y → Type 0) where
  pub alike-each : (f : A → Outcome X) (g : B → Outcome Y) → ((a : A) (b : B) → R a b → AlikeOutcomes S (f a) (g b))
      → (xs : List A) (bs : List B) → Along R xs bs → AlikeOutcomes (Along S) (each f xs) (each g bs)
  alike-each f g turned [] [] r = tt
  alike-each f g turned [] (b ∷ bs) r = absurd r
  alike-each f g turned (a ∷ xs) [] r = absurd r
  alike-each f g turned (a ∷ xs) (b ∷ bs) r =
      alike-both S (Along S) (Along S) (λ x xs. x ∷ xs) (λ y ys. y ∷ ys) (λ x y xs ys s more. (s, more))
      (f a) (g b) (each f xs) (each g bs) (turned a b r.0) (alike-each f g turned xs bs r.1)

  pub alike-gather : (f : A → Outcome (List X)) (g : B → Outcome (List Y)) → ((a : A) (b : B) → R a b → AlikeOutcomes (Along S) (f a) (g b))
      → (xs : List A) (bs : List B) → Along R xs bs → AlikeOutcomes (Along S) (gather f xs) (gather g bs)
  alike-gather f g turned [] [] r = tt
  alike-gather f g turned [] (b ∷ bs) r = absurd r
  alike-gather f g turned (a ∷ xs) [] r = absurd r
  alike-gather f g turned (a ∷ xs) (b ∷ bs) r =
      alike-both (Along S) (Along S) (Along S) (λ xs more. xs ++ more) (λ ys more. ys ++ more)
      (λ xs ys more others s t. along-append S xs more ys others s t)
      (f a) (g b) (gather f xs) (gather g bs) (turned a b r.0) (alike-gather f g turned xs bs r.1)
