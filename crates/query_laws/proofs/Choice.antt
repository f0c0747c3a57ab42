-- The law of a node leaves no choice: two answers to one input that keep it are one.
use Rattle.std.proofs.Common.{◌≡◌, ◌↔◌, ◌⊎◌, inl, inr, ℕ, Bool, true, false, List, take, [], ◌∷◌, refl, sym, ap, subst, ◌∙◌}
use Rattle.std.specs.Cmp.{both_ways}
use Rattle.null_logic.specs.declared.run_fault.RunFault.{RunFault}
use Rattle.null_logic.specs.declared.run_fault.RunFault.TheVariants.{DivideByZero, OutOfRange, SeveralRows}
use Rattle.perm_values.specs.declared.key.Key.{Key}
use Rattle.perm_values.specs.declared.value.Value.{Value}
use Rattle.bag_algebra.proofs.Members.{IsIn}
use Rattle.bag_algebra.proofs.Outcomes.{same_rows-itself}
use Rattle.bag_algebra.specs.Bags.{Row, Bag, SameBag, count, once}
use Rattle.bag_algebra.specs.Means.{Witness}
use Rattle.bag_algebra.specs.Outcome.{Outcome, Good, Bad, Faults, has}
use Rattle.bag_algebra.specs.declared.query.AggFn.{AggFn}
use Rattle.bag_algebra.specs.declared.query.JoinKind.{JoinKind}
use Rattle.bag_algebra.specs.Rewriting.{SameRows}
use Rattle.query_laws.specs.Faults.{IsGood, Meets, PassesFaults, UnitesFaults}
use Rattle.query_laws.specs.Holding.{InBag}
use Rattle.query_laws.specs.Nodes.{IsFiltered, IsProjected, IsJoinOf, IsApplied, IsCombined, IsDistinct, IsGrouped, IsLimited, IsProvenance}
use Rattle.query_laws.proofs.Limited.{ordered_once}
use Rattle.query_laws.proofs.Once.{listed, holds_once-same}
use Rattle.query_laws.proofs.Outcomes.{in_bag-in, in-in_bag}

-- ---- one answer

pub same_flag : (a b : Bool) → (a ≡ true → b ≡ true) → (b ≡ true → a ≡ true) → a ≡ b
same_flag = both_ways

same_faults : (f g : Faults) → ((fault : RunFault) → has f fault ≡ true → has g fault ≡ true) → ((fault : RunFault) → has g fault ≡ true → has f fault ≡ true) → f ≡ g
same_faults f g there back = λ i. record {
  divides = same_flag f.divides g.divides (there DivideByZero) (back DivideByZero) i;
  range = same_flag f.range g.range (there OutOfRange) (back OutOfRange) i;
  several = same_flag f.several g.several (there SeveralRows) (back SeveralRows) i;
}

same-of_equal : (a b o : Outcome Bag) → a ≡ o → b ≡ o → SameRows a b
same-of_equal a b o e k = subst (λ c. SameRows a c) (sym k) (subst (λ c. SameRows c o) (sym e) (same_rows-itself o))

-- answers that are good under one condition, meet one set of faults and have one bag where they are good
agree : (G : Type 0) (M : RunFault → Type 0) (a b : Outcome Bag) → (IsGood a ↔ G) → (IsGood b ↔ G) →
    ((fault : RunFault) → Meets a fault ↔ M fault) → ((fault : RunFault) → Meets b fault ↔ M fault) →
    ((ts ss : Bag) → a ≡ Good ts → b ≡ Good ss → SameBag ts ss) → SameRows a b
agree G M (Good ts) (Good ss) g h m n s = s ts ss refl refl
agree G M (Good ts) (Bad f) g h m n s = h.1 (g.0 tt)
agree G M (Bad f) (Good ss) g h m n s = g.1 (h.0 tt)
agree G M (Bad f) (Bad k) g h m n s = same_faults f k (λ fault e. (n fault).1 ((m fault).0 e)) (λ fault e. (m fault).1 ((n fault).0 e))

agree-good : (a b : Outcome Bag) → IsGood a → IsGood b → ((ts ss : Bag) → a ≡ Good ts → b ≡ Good ss → SameBag ts ss) → SameRows a b
agree-good (Good ts) (Good ss) g h s = s ts ss refl refl
agree-good (Good ts) (Bad f) g h s = h
agree-good (Bad f) b g h s = absurd g

-- ---- by inputs

module _ (a b : Outcome Bag) where
  by_input : (input : Outcome Bag) → PassesFaults input a → PassesFaults input b → ((us : Bag) → input ≡ Good us → SameRows a b) → SameRows a b
  by_input (Good us) p q s = s us refl
  by_input (Bad faults) p q s = same-of_equal a b (Bad faults) (p faults refl) (q faults refl)

  by_inputs : (left right : Outcome Bag) → UnitesFaults left right a → UnitesFaults left right b →
      ((us vs : Bag) → left ≡ Good us → right ≡ Good vs → SameRows a b) → SameRows a b
  by_inputs (Good us) (Good vs) p q s = s us vs refl refl
  by_inputs (Good us) (Bad f) p q s = same-of_equal a b (Bad f) (p.of_right us f refl refl) (q.of_right us f refl refl)
  by_inputs (Bad f) (Good vs) p q s = same-of_equal a b (Bad f) (p.of_left f vs refl refl) (q.of_left f vs refl refl)
  by_inputs (Bad f) (Bad g) p q s = same-of_equal a b _ (p.of_both f g refl refl) (q.of_both f g refl refl)

-- ---- by nodes

pub filter_once : (condition : Row → Outcome Value) (input a b : Outcome Bag) → IsFiltered condition input a → IsFiltered condition input b → SameRows a b
filter_once condition input a b p q =
    by_input a b input p.bad q.bad
    (λ us e. let k = p.evaluated us e in
    let l = q.evaluated us e in
    agree _ _ a b k.good l.good k.faults l.faults (λ ts ss x y. record { counts = λ t. p.counts us ts e x t ∙ sym (q.counts us ss e y t) }))

pub project_once : (items : Row → Outcome Row) (input a b : Outcome Bag) → IsProjected items input a → IsProjected items input b → SameRows a b
project_once items input a b p q =
    by_input a b input p.bad q.bad
    (λ us e. let k = p.evaluated us e in
    let l = q.evaluated us e in
    agree _ _ a b k.good l.good k.faults l.faults
    (λ ts ss x y. record { counts = λ t. p.counts us ts e x (once us) (listed us) t ∙ sym (q.counts us ss e y (once us) (listed us) t) }))

pub join_once : (kind : JoinKind) (condition : Row → Outcome Value) (left_width right_width : ℕ) (left right a b : Outcome Bag) →
    IsJoinOf kind condition left_width right_width left right a → IsJoinOf kind condition left_width right_width left right b → SameRows a b
join_once kind condition left_width right_width left right a b p q =
    by_inputs a b left right p.bad q.bad
    (λ us vs e f. let k = p.evaluated us vs e f in
    let l = q.evaluated us vs e f in
    agree _ _ a b k.good l.good k.faults l.faults
    (λ ts ss x y. record {
      counts = λ t. p.counts us vs ts e f x (once us) (once vs) (listed us) (listed vs) t ∙ sym (q.counts us vs ss e f y (once us) (once vs) (listed us) (listed vs) t);
    }))

pub apply_once : (kind : JoinKind) (left_width right_width : ℕ) (left a b : Outcome Bag) (right : Row → Outcome Bag) →
    IsApplied kind left_width right_width left right a → IsApplied kind left_width right_width left right b → SameRows a b
apply_once kind left_width right_width left a b right p q =
    by_input a b left p.bad q.bad
    (λ us e. let k = p.evaluated us e in
    let l = q.evaluated us e in
    agree _ _ a b k.good l.good k.faults l.faults
    (λ ts ss x y. record { counts = λ t. p.counts us ts e x (once us) (listed us) t ∙ sym (q.counts us ss e y (once us) (listed us) t) }))

combined-same : (many : ℕ → ℕ → ℕ) (some : ℕ → ℕ → Type 0) (all : Bool) (left right a b : Outcome Bag) → IsCombined many some all left right a →
    IsCombined many some all left right b → (us vs ts ss : Bag) → left ≡ Good us → right ≡ Good vs → a ≡ Good ts → b ≡ Good ss → SameBag ts ss
combined-same many some true left right a b p q us vs ts ss e f x y =
    record { counts = λ t. p.with_all us vs ts e f x refl t ∙ sym (q.with_all us vs ss e f y refl t) }
combined-same many some false left right a b p q us vs ts ss e f x y =
    holds_once-same (λ t. some (count t us) (count t vs)) ts ss (p.without_all us vs ts e f x refl) (q.without_all us vs ss e f y refl)

pub combined_once : (many : ℕ → ℕ → ℕ) (some : ℕ → ℕ → Type 0) (all : Bool) (left right a b : Outcome Bag) →
    IsCombined many some all left right a → IsCombined many some all left right b → SameRows a b
combined_once many some all left right a b p q =
    by_inputs a b left right p.bad q.bad
    (λ us vs e f. agree-good a b (p.good us vs e f) (q.good us vs e f) (λ ts ss x y. combined-same many some all left right a b p q us vs ts ss e f x y))

pub distinct_once : (input a b : Outcome Bag) → IsDistinct input a → IsDistinct input b → SameRows a b
distinct_once input a b p q =
    by_input a b input p.bad q.bad
    (λ us e. agree-good a b (p.good us e) (q.good us e) (λ ts ss x y. holds_once-same (λ t. InBag t us) ts ss (p.rows us ts e x) (q.rows us ss e y)))

pub provenance_once : (lists : Row → List Witness) (input a b : Outcome Bag) → IsProvenance lists input a → IsProvenance lists input b → SameRows a b
provenance_once lists input a b p q =
    by_input a b input p.bad q.bad
    (λ us e. agree-good a b (p.good us e) (q.good us e) (λ ts ss x y. holds_once-same _ ts ss (p.rows us ts e x) (q.rows us ss e y)))

pub limit_once : (keys : List Key) (most : ℕ) (input a b : Outcome Bag) → IsLimited keys most input a → IsLimited keys most input b → SameRows a b
limit_once keys most input a b p q =
    by_input a b input p.bad q.bad
    (λ us e. let k = p.first us e in
    let l = q.first us e in
    same-of_equal a b (Good (take most k.0)) k.3 (l.3 ∙ ap (λ rows. Good (take most rows)) (ordered_once keys us l.0 k.0 l.1 k.1 l.2 k.2)))

-- ---- Aggregate

good_or_not : {X : Type 0} (o : Outcome X) → IsGood o ⊎ (¬ (IsGood o))
good_or_not (Good x) = inl tt
good_or_not (Bad faults) = inr (λ g. g)

-- all are good, or one isn't
all_or_one : {X : Type 0} (f : Row → Outcome X) (us : Bag) → ((u : Row) → IsIn u us → IsGood (f u)) ⊎ ((u : Row) × IsIn u us × ¬ (IsGood (f u)))
all_or_one f [] = inl (λ u h. absurd h)
all_or_one f (w ∷ us) = elim (good_or_not (f w)) [
  | inr bad ↦ inr (w, inl refl, bad)
  | inl good ↦ elim (all_or_one f us) [
    | inr found ↦ inr (found.0, inr found.1, found.2)
    | inl rest ↦ inl (λ u h. elim h [ inl e ↦ subst (λ x. IsGood (f x)) e good | inr i ↦ rest u i ])
  ]
]

pub group_once : (groups : List ℕ) (functions : List AggFn) (arguments : Row → Outcome Row) (input a b : Outcome Bag) →
    IsGrouped groups functions arguments input a → IsGrouped groups functions arguments input b → SameRows a b
group_once groups functions arguments input a b p q =
    by_input a b input p.bad q.bad
    (λ us e. elim (all_or_one arguments us) [
      | inr found ↦
          let k = p.bad_argument us found.0 e (in-in_bag found.0 us found.1) found.2 in
          let l = q.bad_argument us found.0 e (in-in_bag found.0 us found.1) found.2 in
          agree _ _ a b k.good l.good k.faults l.faults (same us e)
      | inl all ↦
          let good : (u : Row) → InBag u us → IsGood (arguments u) = λ u h. all u (in_bag-in u us h) in
          agree _ _ a b (p.good us e good) (q.good us e good) (λ fault. p.out_of_range us fault e good) (λ fault. q.out_of_range us fault e good) (same us e)
    ])
  where
    same : (us : Bag) → input ≡ Good us → (ts ss : Bag) → a ≡ Good ts → b ≡ Good ss → SameBag ts ss
    same us e ts ss x y = holds_once-same _ ts ss (p.rows us ts e x) (q.rows us ss e y)
