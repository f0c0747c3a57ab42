-- Outcomes with one set of faults, or with lists that are permutations of one another; and what keeps them so.
use Rattle.std.proofs.Common.{◌≡◌, List, [], ◌∷◌, ◌++◌, refl, ap, ◌∙◌, subst}
use Rattle.std.proofs.Math.Bool.{or_comm}
use Rattle.bag_algebra.proofs.BagLaws.{Permuted, nothing, onward, turn, joined, permuted-refl, permuted-append_left, permuted-append_right}
use Rattle.bag_algebra.specs.Outcome.{Faults, union, Outcome, Good, Bad, and_then, mapped, both, both_then, gather, each}
use Rattle.bag_algebra.proofs.Truths.{or_turn}

pub data Agree {X : Type 0} : Outcome (List X) → Outcome (List X) → Type 0 where
  agree_good : {xs ys : List X} → Permuted xs ys → Agree (Good xs) (Good ys)
  agree_bad : (f : Faults) → Agree (Bad f) (Bad f)

pub agree-refl : {X : Type 0} (o : Outcome (List X)) → Agree o o
agree-refl (Good xs) = agree_good (permuted-refl xs)
agree-refl (Bad f) = agree_bad f

pub agree-of_equal : {X : Type 0} {o p : Outcome (List X)} → o ≡ p → Agree o p
agree-of_equal {X} {o} {p} e = subst (Agree o) e (agree-refl o)

good_after : {X : Type 0} {o : Outcome (List X)} (xs ys : List X) → Permuted xs ys → Agree (Good ys) o → Agree (Good xs) o
good_after xs ys p (agree_good q) = agree_good (joined p q)

pub agree-trans : {X : Type 0} {o p r : Outcome (List X)} → Agree o p → Agree p r → Agree o r
agree-trans (agree_good {xs = xs} {ys = ys} p) q = good_after xs ys p q
agree-trans (agree_bad f) q = q

-- ---- both

pub permuted-append : {X : Type 0} {us vs xs ys : List X} → Permuted us vs → Permuted xs ys → Permuted (us ++ xs) (vs ++ ys)
permuted-append {X} {us} {vs} {xs} {ys} p q = joined (permuted-append_right xs p) (permuted-append_left vs q)

-- the lists of both, one after the other
abbrev pub joined_lists : {X : Type 0} → Outcome (List X) → Outcome (List X) → Outcome (List X)
joined_lists = both (λ xs ys. xs ++ ys)

agree-join : {X : Type 0} {o p r s : Outcome (List X)} → Agree o p → Agree r s → Agree (joined_lists o r) (joined_lists p s)
agree-join (agree_good p) (agree_good q) = agree_good (permuted-append p q)
agree-join (agree_good p) (agree_bad f) = agree_bad f
agree-join (agree_bad f) (agree_good q) = agree_bad f
agree-join (agree_bad f) (agree_bad g) = agree_bad (union f g)

permuted-turn : {X : Type 0} (us vs ws : List X) → Permuted (us ++ (vs ++ ws)) (vs ++ (us ++ ws))
permuted-turn [] vs ws = permuted-refl (vs ++ ws)
permuted-turn (u ∷ us) vs ws = joined (onward u (permuted-turn us vs ws)) (past u vs (us ++ ws)) where
  past : {X : Type 0} (u : X) (vs ws : List X) → Permuted (u ∷ vs ++ ws) (vs ++ (u ∷ ws))
  past u [] ws = permuted-refl (u ∷ ws)
  past u (v ∷ vs) ws = joined (turn u v (vs ++ ws)) (onward v (past u vs ws))

pub union-turn : (f g h : Faults) → union f (union g h) ≡ union g (union f h)
union-turn f g h = λ i. record {
  divides = or_turn f.divides g.divides h.divides i;
  range = or_turn f.range g.range h.range i;
  several = or_turn f.several g.several h.several i;
}

pub union-comm : (f g : Faults) → union f g ≡ union g f
union-comm f g = λ i. record {
  divides = or_comm f.divides g.divides i;
  range = or_comm f.range g.range i;
  several = or_comm f.several g.several i;
}

agree-turn : {X : Type 0} (o p r : Outcome (List X)) → Agree (joined_lists o (joined_lists p r)) (joined_lists p (joined_lists o r))
agree-turn (Good us) (Good vs) (Good ws) = agree_good (permuted-turn us vs ws)
agree-turn (Good us) (Good vs) (Bad h) = agree_bad h
agree-turn (Good us) (Bad g) (Good ws) = agree_bad g
agree-turn (Good us) (Bad g) (Bad h) = agree_bad (union g h)
agree-turn (Bad f) (Good vs) (Good ws) = agree_bad f
agree-turn (Bad f) (Good vs) (Bad h) = agree_bad (union f h)
agree-turn (Bad f) (Bad g) (Good ws) = agree-of_equal (ap Bad (union-comm f g))
agree-turn (Bad f) (Bad g) (Bad h) = agree-of_equal (ap Bad (union-turn f g h))

-- ---- every item looked at

-- in another order
pub gather-permuted : {X Y : Type 0} (f : X → Outcome (List Y)) {us vs : List X} → Permuted us vs → Agree (gather f us) (gather f vs)
gather-permuted f nothing = agree_good nothing
gather-permuted f (onward u p) = agree-join (agree-refl (f u)) (gather-permuted f p)
gather-permuted f (turn u v us) = agree-turn (f u) (f v) (gather f us)
gather-permuted f (joined p q) = agree-trans (gather-permuted f p) (gather-permuted f q)

-- with outcomes that agree
pub gather-agree : {X Y : Type 0} (f g : X → Outcome (List Y)) → ((x : X) → Agree (f x) (g x)) → (xs : List X) → Agree (gather f xs) (gather g xs)
gather-agree f g e [] = agree_good nothing
gather-agree f g e (x ∷ xs) = agree-join (e x) (gather-agree f g e xs)

single_first : {Y : Type 0} (o : Outcome Y) (r : Outcome (List Y)) → joined_lists (mapped (λ y. y ∷ []) o) r ≡ both (λ y ys. y ∷ ys) o r
single_first (Good y) (Good ys) = refl
single_first (Good y) (Bad g) = refl
single_first (Bad f) (Good ys) = refl
single_first (Bad f) (Bad g) = refl

-- one each is a list of one each
pub each-gather : {X Y : Type 0} (f : X → Outcome Y) (xs : List X) → gather (λ x. mapped (λ y. y ∷ []) (f x)) xs ≡ each f xs
each-gather f [] = refl
each-gather f (x ∷ xs) = ap (joined_lists (mapped (λ y. y ∷ []) (f x))) (each-gather f xs) ∙ single_first (f x) (each f xs)

pub each-permuted : {X Y : Type 0} (f : X → Outcome Y) {us vs : List X} → Permuted us vs → Agree (each f us) (each f vs)
each-permuted f {us} {vs} p =
    subst (λ o. Agree o (each f vs)) (each-gather f us)
    (subst (Agree (gather (λ x. mapped (λ y. y ∷ []) (f x)) us)) (each-gather f vs)
    (gather-permuted (λ x. mapped (λ y. y ∷ []) (f x)) p))

-- ---- what comes after

pub and_then-agree : {X Y : Type 0} (k l : List X → Outcome (List Y)) {o p : Outcome (List X)} → Agree o p →
    ((us vs : List X) → Permuted us vs → Agree (k us) (l vs)) → Agree (and_then o k) (and_then p l)
and_then-agree k l (agree_good {xs = us} {ys = vs} p) next = next us vs p
and_then-agree k l (agree_bad f) next = agree_bad f

pub mapped-agree : {X Y : Type 0} (k l : List X → List Y) {o p : Outcome (List X)} → Agree o p →
    ((us vs : List X) → Permuted us vs → Permuted (k us) (l vs)) → Agree (mapped k o) (mapped l p)
mapped-agree k l (agree_good {xs = us} {ys = vs} p) next = agree_good (next us vs p)
mapped-agree k l (agree_bad f) next = agree_bad f

pub both_then-agree : {X Y Z : Type 0} (k l : List X → List Y → Outcome (List Z)) {o p : Outcome (List X)} {r s : Outcome (List Y)} →
    Agree o p → Agree r s → ((us vs : List X) (xs ys : List Y) → Permuted us vs → Permuted xs ys → Agree (k us xs) (l vs ys)) →
    Agree (both_then o r k) (both_then p s l)
both_then-agree k l (agree_good {xs = us} {ys = vs} p) (agree_good {xs = xs} {ys = ys} q) next = next us vs xs ys p q
both_then-agree k l (agree_good p) (agree_bad f) next = agree_bad f
both_then-agree k l (agree_bad f) (agree_good q) next = agree_bad f
both_then-agree k l (agree_bad f) (agree_bad g) next = agree_bad (union f g)

pub both-agree : {X Y Z : Type 0} (k l : List X → List Y → List Z) {o p : Outcome (List X)} {r s : Outcome (List Y)} →
    Agree o p → Agree r s → ((us vs : List X) (xs ys : List Y) → Permuted us vs → Permuted xs ys → Permuted (k us xs) (l vs ys)) →
    Agree (both k o r) (both l p s)
both-agree k l (agree_good {xs = us} {ys = vs} p) (agree_good {xs = xs} {ys = ys} q) next = agree_good (next us vs xs ys p q)
both-agree k l (agree_good p) (agree_bad f) next = agree_bad f
both-agree k l (agree_bad f) (agree_good q) next = agree_bad f
both-agree k l (agree_bad f) (agree_bad g) next = agree_bad (union f g)
