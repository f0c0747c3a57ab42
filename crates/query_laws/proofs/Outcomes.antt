-- Evaluations of lists item by item: when they are good, and which faults they meet.
use Rattle.std.proofs.Common.{◌≡◌, ◌⊎◌, inl, inr, true, List, [], ◌∷◌, ◌++◌, refl, sym, ap, subst, ◌∙◌}
use Rattle.std.specs.List.{flat_map}
use Rattle.null_logic.specs.declared.run_fault.RunFault.{RunFault}
use Rattle.null_logic.specs.declared.run_fault.RunFault.TheVariants.{DivideByZero, OutOfRange, SeveralRows}
use Rattle.bag_algebra.proofs.BagLaws.{member_decides}
use Rattle.bag_algebra.proofs.Members.{IsIn, in-member, member-in, one_of}
use Rattle.bag_algebra.specs.Bags.{Row, Bag}
use Rattle.bag_algebra.specs.Means.{good_rows}
use Rattle.bag_algebra.specs.Outcome.{Outcome, Good, Bad, Faults, union, has, and_then, mapped, both, both_then, gather, each}
use Rattle.query_laws.specs.Faults.{IsGood, Meets, PassesFaults, UnitesFaults, OverRows, OverPairs}
use Rattle.query_laws.specs.Holding.{InBag}
use Rattle.bag_algebra.proofs.Outcomes.{same_good, both-is, union-first, union-second}

-- ---- rows of a bag

pub in_bag-in : (t : Row) (us : Bag) → InBag t us → IsIn t us
in_bag-in t us h = member-in t us ((member_decides t us).1 h)

pub in-in_bag : (t : Row) (us : Bag) → IsIn t us → InBag t us
in-in_bag t us h = (member_decides t us).0 (in-member t us h)

-- ---- good outcomes

pub good-good : {X : Type 0} (o : Outcome X) (x : X) → o ≡ Good x → IsGood o
good-good o x e = subst IsGood (sym e) tt

-- ---- faults of a union

pub from-union : (f g : Faults) (fault : RunFault) → has (union f g) fault ≡ true → (has f fault ≡ true) ⊎ (has g fault ≡ true)
from-union f g DivideByZero e = one_of f.divides g.divides e
from-union f g OutOfRange e = one_of f.range g.range e
from-union f g SeveralRows e = one_of f.several g.several e

-- ---- two parts

module _ {X Y Z : Type 0} (f : X → Y → Z) where
  pub both-good : (a : Outcome X) (b : Outcome Y) → IsGood a → IsGood b → IsGood (both f a b)
  both-good (Good x) (Good y) g h = tt
  both-good (Good x) (Bad k) g h = h
  both-good (Bad k) b g h = absurd g

  pub good-both : (a : Outcome X) (b : Outcome Y) → IsGood (both f a b) → IsGood a × IsGood b
  good-both (Good x) (Good y) g = (tt, tt)
  good-both (Good x) (Bad h) g = absurd g
  good-both (Bad h) (Good y) g = absurd g
  good-both (Bad h) (Bad k) g = absurd g

  pub both-meets : (a : Outcome X) (b : Outcome Y) (fault : RunFault) → Meets a fault ⊎ Meets b fault → Meets (both f a b) fault
  both-meets (Good x) (Good y) fault (inl m) = m
  both-meets (Good x) (Good y) fault (inr m) = m
  both-meets (Good x) (Bad h) fault (inl m) = absurd m
  both-meets (Good x) (Bad h) fault (inr m) = m
  both-meets (Bad g) (Good y) fault (inl m) = m
  both-meets (Bad g) (Good y) fault (inr m) = absurd m
  both-meets (Bad g) (Bad h) fault (inl m) = union-first g h fault m
  both-meets (Bad g) (Bad h) fault (inr m) = union-second g h fault m

  pub meets-both : (a : Outcome X) (b : Outcome Y) (fault : RunFault) → Meets (both f a b) fault → Meets a fault ⊎ Meets b fault
  meets-both (Good x) (Good y) fault m = absurd m
  meets-both (Good x) (Bad h) fault m = inr m
  meets-both (Bad g) (Good y) fault m = inl m
  meets-both (Bad g) (Bad h) fault m = from-union g h fault m

-- ---- one part

module _ {X Y : Type 0} (f : X → Y) where
  pub mapped-good : (a : Outcome X) → IsGood a → IsGood (mapped f a)
  mapped-good (Good x) g = tt
  mapped-good (Bad h) g = g

  pub good-mapped : (a : Outcome X) → IsGood (mapped f a) → IsGood a
  good-mapped (Good x) g = tt
  good-mapped (Bad h) g = g

  pub mapped-meets : (a : Outcome X) (fault : RunFault) → Meets a fault → Meets (mapped f a) fault
  mapped-meets (Good x) fault m = m
  mapped-meets (Bad h) fault m = m

  pub meets-mapped : (a : Outcome X) (fault : RunFault) → Meets (mapped f a) fault → Meets a fault
  meets-mapped (Good x) fault m = m
  meets-mapped (Bad h) fault m = m

-- ---- each item of a list

-- an answer is good where each item is, and meets what the items meet
pub record Over {X Y Z : Type 0} (f : X → Outcome Y) (xs : List X) (answer : Outcome Z) : Type 0 where
  pub is_good : ((x : X) → IsIn x xs → IsGood (f x)) → IsGood answer
  pub each_good : IsGood answer → (x : X) → IsIn x xs → IsGood (f x)
  pub meets : (fault : RunFault) (x : X) → IsIn x xs → Meets (f x) fault → Meets answer fault
  pub met : (fault : RunFault) → Meets answer fault → (x : X) × IsIn x xs × Meets (f x) fault

pub over-none : {X Y Z : Type 0} (f : X → Outcome Y) (z : Z) → Over f [] (Good z)
over-none f z = record { is_good = λ g. tt; each_good = λ g x h. absurd h; meets = λ fault x h m. absurd h; met = λ fault m. absurd m }

pub over-more : {X Y Z W : Type 0} (c : Y → Z → W) (f : X → Outcome Y) (x : X) (xs : List X) (rest : Outcome Z) →
    Over f xs rest → Over f (x ∷ xs) (both c (f x) rest)
over-more c f x xs rest o = record {
  is_good = λ g. both-good c (f x) rest (g x (inl refl)) (o.is_good (λ y h. g y (inr h)));
  each_good = λ g y h. elim h [ inl e ↦ subst (λ z. IsGood (f z)) e (good-both c (f x) rest g).0 | inr i ↦ o.each_good (good-both c (f x) rest g).1 y i ];
  meets = λ fault y h m. both-meets c (f x) rest fault
      (elim h [ inl e ↦ inl (subst (λ z. Meets (f z) fault) (sym e) m) | inr i ↦ inr (o.meets fault y i m) ]);
  met = λ fault m. elim (meets-both c (f x) rest fault m) [
    | inl here ↦ (x, inl refl, here)
    | inr there ↦ let found = o.met fault there in (found.0, inr found.1, found.2)
  ];
}

pub over-gather : {X Y : Type 0} (f : X → Outcome (List Y)) (xs : List X) → Over f xs (gather f xs)
over-gather f [] = over-none f []
over-gather f (x ∷ xs) = over-more (λ y ys. y ++ ys) f x xs (gather f xs) (over-gather f xs)

pub over-each : {X Y : Type 0} (f : X → Outcome Y) (xs : List X) → Over f xs (each f xs)
over-each f [] = over-none f []
over-each f (x ∷ xs) = over-more (λ y ys. y ∷ ys) f x xs (each f xs) (over-each f xs)

-- what a good item becomes doesn't count
pub over-part : {X Y Z W : Type 0} (g : X → Y → Z) (f : X → Outcome Y) (xs : List X) (answer : Outcome W) →
    Over (λ x. mapped (g x) (f x)) xs answer → Over f xs answer
over-part g f xs answer o = record {
  is_good = λ h. o.is_good (λ x i. mapped-good (g x) (f x) (h x i));
  each_good = λ h x i. good-mapped (g x) (f x) (o.each_good h x i);
  meets = λ fault x i m. o.meets fault x i (mapped-meets (g x) (f x) fault m);
  met = λ fault m. let found = o.met fault m in (found.0, found.1, meets-mapped (g found.0) (f found.0) fault found.2);
}

-- a bag's rows are those of its list
pub over_rows : {X : Type 0} (f : Row → Outcome X) (us : Bag) (answer : Outcome Bag) → Over f us answer → OverRows f us answer
over_rows f us answer o = record {
  good = (λ g u h. o.each_good g u (in_bag-in u us h), λ g. o.is_good (λ u i. g u (in-in_bag u us i)));
  faults = λ fault. (
    λ m. let found = o.met fault m in (found.0, in-in_bag found.0 us found.1, found.2),
    λ found. o.meets fault found.0 (in_bag-in found.0 us found.1) found.2,
  );
}

pub over_pairs : {X Y : Type 0} (f : Row → Outcome X) (us vs : Bag) (inner : Row → Outcome Y) (answer : Outcome Bag) →
    Over inner us answer → ((u : Row) → Over (λ v. f (u ++ v)) vs (inner u)) → OverPairs f us vs answer
over_pairs f us vs inner answer o part = record {
  good = (
    λ g u v h k. (part u).each_good (o.each_good g u (in_bag-in u us h)) v (in_bag-in v vs k),
    λ g. o.is_good (λ u i. (part u).is_good (λ v j. g u v (in-in_bag u us i) (in-in_bag v vs j))),
  );
  faults = λ fault. (
    λ m. let outer = o.met fault m in
        let found = (part outer.0).met fault outer.2 in
        (outer.0, found.0, in-in_bag outer.0 us outer.1, in-in_bag found.0 vs found.1, found.2),
    λ found. o.meets fault found.0 (in_bag-in found.0 us found.2) ((part found.0).meets fault found.1 (in_bag-in found.1 vs found.3) found.4),
  );
}

pub over-mapped : {X Y Z W : Type 0} (g : Z → W) (f : X → Outcome Y) (xs : List X) (answer : Outcome Z) → Over f xs answer → Over f xs (mapped g answer)
over-mapped g f xs answer o = record {
  is_good = λ h. mapped-good g answer (o.is_good h);
  each_good = λ h. o.each_good (good-mapped g answer h);
  meets = λ fault x i m. mapped-meets g answer fault (o.meets fault x i m);
  met = λ fault m. o.met fault (meets-mapped g answer fault m);
}

-- ---- the lists that good evaluations make

gathered : (f : Row → Outcome Bag) (u : Row) (us x y ts : Bag) → f u ≡ Good x → y ≡ flat_map (λ v. good_rows (f v)) us → x ++ y ≡ ts →
    ts ≡ good_rows (f u) ++ flat_map (λ v. good_rows (f v)) us
gathered f u us x y ts e rest whole = sym whole ∙ (λ i. good_rows (sym e i) ++ rest i)

pub gather-is : (f : Row → Outcome Bag) (us ts : Bag) → gather f us ≡ Good ts → ts ≡ flat_map (λ u. good_rows (f u)) us
gather-is f [] ts e = sym (same_good [] ts e)
gather-is f (u ∷ us) ts e =
    let parts = both-is (λ y ys. y ++ ys) (f u) (gather f us) ts e in
    gathered f u us parts.0 parts.1 ts parts.2 (gather-is f us parts.1 parts.3) parts.4

-- ---- inputs

pub and_then-passes : (o : Outcome Bag) (next : Bag → Outcome Bag) → PassesFaults o (and_then o next)
and_then-passes o next faults e = ap (λ p. and_then p next) e

pub mapped-passes : (o : Outcome Bag) (f : Bag → Bag) → PassesFaults o (mapped f o)
mapped-passes o f faults e = ap (mapped f) e

pub both-unites : (f : Bag → Bag → Bag) (a b : Outcome Bag) → UnitesFaults a b (both f a b)
both-unites f a b = record {
  of_left = λ faults vs e k i. both f (e i) (k i);
  of_right = λ us faults e k i. both f (e i) (k i);
  of_both = λ faults more e k i. both f (e i) (k i);
}

pub both_then-unites : (f : Bag → Bag → Outcome Bag) (a b : Outcome Bag) → UnitesFaults a b (both_then a b f)
both_then-unites f a b = record {
  of_left = λ faults vs e k i. both_then (e i) (k i) f;
  of_right = λ us faults e k i. both_then (e i) (k i) f;
  of_both = λ faults more e k i. both_then (e i) (k i) f;
}
