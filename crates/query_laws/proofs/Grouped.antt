-- The law of Aggregate.
use Rattle.std.proofs.Common.{◌≡◌, ◌≢◌, inl, inr, ℕ, ◌≤◌, Bool, true, false, cond, List, [], ◌∷◌, ◌++◌, map, take, length, sum_by, refl, sym, ap, subst, ◌∙◌, arith, true≢false, zero-add}
use Rattle.std.proofs.Math.Seq.{take-append_seam}
use Rattle.std.proofs.lemmas.List.{length-map}
use Rattle.std.proofs.lemmas.List.Sums.{sum_by-cons}
use Rattle.null_logic.specs.declared.run_fault.RunFault.{RunFault}
use Rattle.null_logic.specs.declared.run_fault.RunFault.TheVariants.{OutOfRange}
use Rattle.perm_values.specs.Rows.{same_row, value_at, picked}
use Rattle.perm_values.specs.declared.value.Value.{Value}
use Rattle.bag_algebra.proofs.BagLaws.{same_row-is, same_row-refl, count-filter, member-once, keys-once}
use Rattle.bag_algebra.proofs.Members.{IsIn, in-map, from-map, in-member, member-in}
use Rattle.bag_algebra.specs.Bags.{Row, Bag, count, once}
use Rattle.bag_algebra.specs.Means.{gives, good_row, class_keys, class_of, class_row, aggregates_of, grouped}
use Rattle.bag_algebra.specs.Outcome.{Outcome, Good, Bad, and_then, mapped, each}
use Rattle.bag_algebra.specs.declared.query.AggFn.{AggFn}
use Rattle.query_laws.specs.Faults.{IsGood, Meets, OverRows}
use Rattle.query_laws.specs.Holding.{InBag, HoldsOnce}
use Rattle.query_laws.specs.Nodes.{IsKey, class_values, IsClassRow, SumOverflows, IsGrouped}
use Rattle.query_laws.proofs.Aggregates.{each_of, aggregates_of-is, each_of-good, each_of-meets, meets-each_of, each_of-gives, gives-each_of, good-meets}
use Rattle.query_laws.proofs.Items.{each-in, from-each}
use Rattle.query_laws.proofs.Outcomes.{Over, over-each, over_rows, in_bag-in, in-in_bag, mapped-good, mapped-meets, meets-mapped, and_then-passes}
use Rattle.query_laws.proofs.Projected.{given}
use Rattle.query_laws.proofs.Sums.{count-sum, one_if}
use Rattle.bag_algebra.proofs.Outcomes.{bad-not_good, mapped-is, each-long}

-- ---- keys

pub key-in : (groups : List ℕ) (us : Bag) (key : Row) → IsKey groups us key → IsIn key (class_keys groups us)
key-in [] us key (inl h) = inl (sym h.1)
key-in [] us key (inr h) = absurd (h.0 refl)
key-in (group ∷ groups) us key (inl h) = absurd (some_none group groups h.0) where
  some_none : (g : ℕ) (gs : List ℕ) → g ∷ gs ≡ [] → ⊥
  some_none g gs e = cc
key-in (group ∷ groups) us key (inr h) =
    let keys = map (picked (group ∷ groups)) us in
    member-in key (once keys) (member-once key keys ∙ in-member key keys
    (subst (λ k. IsIn k keys) h.1.2 (in-map (picked (group ∷ groups)) h.1.0 us (in_bag-in h.1.0 us h.1.1))))

pub in-key : (groups : List ℕ) (us : Bag) (key : Row) → IsIn key (class_keys groups us) → IsKey groups us key
in-key [] us key (inl e) = inl (refl, sym e)
in-key [] us key (inr h) = absurd h
in-key (group ∷ groups) us key h =
    let keys = map (picked (group ∷ groups)) us in
    let found = from-map (picked (group ∷ groups)) key us (member-in key keys (sym (member-once key keys) ∙ in-member key (once keys) h)) in
    inr (some_none group groups, (found.0, in-in_bag found.0 us found.1, found.2))
  where
    some_none : (g : ℕ) (gs : List ℕ) → g ∷ gs ≢ []
    some_none g gs e = cc

-- a key is as wide as the groups
key-long : (groups : List ℕ) (us : Bag) (key : Row) → IsKey groups us key → length key ≡ length groups
key-long groups us key (inl h) = ap length h.1 ∙ sym (ap length h.0)
key-long groups us key (inr h) = ap length (sym h.1.2) ∙ length-map groups (value_at h.1.0)

-- a row is in the class of its own group values alone, with its count
pub count-class_of : (groups : List ℕ) (us : Bag) (key u : Row) → count u (class_of groups key us) ≡ cond (same_row (picked groups u) key) (count u us) 0
count-class_of groups us key u = count-filter u (λ w. same_row (picked groups w) key) us

-- ---- sums over keys

sum_by-below : (g h : Row → ℕ) (keys : List Row) → ((k : Row) → IsIn k keys → g k ≤ h k) → sum_by g keys ≤ sum_by h keys
sum_by-below g h [] le = omega arith
sum_by-below g h (k ∷ keys) le =
    omega (arith, sum_by-cons g k keys, sum_by-cons h k keys, le k (inl refl), sum_by-below g h keys (λ j i. le j (inr i)))

one_if-below : (a b : Bool) → (a ≡ true → b ≡ true) → one_if a ≤ one_if b
one_if-below true true f = omega arith
one_if-below true false f = absurd (true≢false (sym (f refl)))
one_if-below false true f = omega arith
one_if-below false false f = omega arith

take-front : (k vs : Row) (n : ℕ) → length k ≡ n → take n (k ++ vs) ≡ k
take-front k vs n e = subst (λ m. take m (k ++ vs) ≡ k) e (take-append_seam k vs)

given-is : (t : Row) (o : Outcome Row) → gives t o ≡ true → o ≡ Good t
given-is t (Good row) e = ap Good (same_row-is row t e)
given-is t (Bad faults) e = absurd (true≢false (sym e))

-- ---- the row of a class

pub map-map : {X Y Z : Type 0} (f : Y → Z) (g : X → Y) (xs : List X) → map f (map g xs) ≡ map (λ x. f (g x)) xs
map-map f g [] = refl
map-map f g (x ∷ xs) = ap (λ l. f (g x) ∷ l) (map-map f g xs)

module _ (groups : List ℕ) (functions : List AggFn) (arguments : Row → Outcome Row) (us : Bag) where
  abbrev columns : Row → ℕ → List Value
  columns key place = class_values groups arguments us key place

  aggregates-are : (key : Row) → aggregates_of functions 0 (map (λ u. good_row (arguments u)) (class_of groups key us)) ≡ each_of functions (columns key)
  aggregates-are key =
      aggregates_of-is functions 0 (map (λ u. good_row (arguments u)) (class_of groups key us)) (columns key)
      (λ n. ap (λ m. map (λ a. value_at a m) (map (λ u. good_row (arguments u)) (class_of groups key us))) (zero-add n)
      ∙ map-map (λ a. value_at a n) (λ u. good_row (arguments u)) (class_of groups key us))

  class_row-is : (key : Row) → class_row groups functions arguments us key ≡ mapped (λ vs. key ++ vs) (each_of functions (columns key))
  class_row-is key = ap (mapped (λ vs. key ++ vs)) (aggregates-are key)

  row-from : (key t : Row) → class_row groups functions arguments us key ≡ Good t → IsClassRow groups functions arguments us key t
  row-from key t e =
      let found = mapped-is (λ vs. key ++ vs) (each_of functions (columns key)) t (sym (class_row-is key) ∙ e) in
      let g = each_of-gives functions (columns key) found.0 found.1 in
      record { values = found.0; is = sym found.2; long = g.long; each = g.each }

  row-to : (key t : Row) → IsClassRow groups functions arguments us key t → class_row groups functions arguments us key ≡ Good t
  row-to key t r =
      class_row-is key
      ∙ ap (mapped (λ vs. key ++ vs)) (gives-each_of functions (columns key) r.values (record { long = r.long; each = r.each }))
      ∙ ap Good (sym r.is)

  row-good : (key : Row) → ((place : ℕ) → ¬ (SumOverflows groups functions arguments us key place)) → IsGood (class_row groups functions arguments us key)
  row-good key h =
      subst IsGood (sym (class_row-is key)) (mapped-good (λ vs. key ++ vs) (each_of functions (columns key)) (each_of-good functions (columns key) h))

  row-meets : (key : Row) (fault : RunFault) → Meets (class_row groups functions arguments us key) fault →
      (fault ≡ OutOfRange) × ((place : ℕ) × SumOverflows groups functions arguments us key place)
  row-meets key fault m =
      each_of-meets functions (columns key) fault
      (meets-mapped (λ vs. key ++ vs) (each_of functions (columns key)) fault (subst (λ o. Meets o fault) (class_row-is key) m))

  overflow-meets : (key : Row) (place : ℕ) → SumOverflows groups functions arguments us key place → Meets (class_row groups functions arguments us key) OutOfRange
  overflow-meets key place h =
      subst (λ o. Meets o OutOfRange) (sym (class_row-is key))
      (mapped-meets (λ vs. key ++ vs) (each_of functions (columns key)) OutOfRange (meets-each_of functions (columns key) place h))

  -- ---- all classes

  abbrev class_rows : Outcome Bag
  class_rows = each (class_row groups functions arguments us) (class_keys groups us)

  abbrev IsAnswer : Row → Type 0
  IsAnswer t = (key : Row) × IsKey groups us key × IsClassRow groups functions arguments us key t

  -- which key a row can be of
  own_key : (t key : Row) → IsKey groups us key → gives t (class_row groups functions arguments us key) ≡ true → same_row key (take (length groups) t) ≡ true
  own_key t key k g =
      let r = row-from key t (given-is t (class_row groups functions arguments us key) g) in
      let front : take (length groups) t ≡ key = ap (take (length groups)) r.is ∙ take-front key r.values (length groups) (key-long groups us key k) in
      ap (same_row key) front ∙ same_row-refl key

  rows-once : (ts : Bag) → class_rows ≡ Good ts → (t : Row) → count t ts ≤ 1
  rows-once ts e t =
      let keys = class_keys groups us in
      let counted : count t ts ≡ sum_by (λ k. one_if (gives t (class_row groups functions arguments us k))) keys =
      given t (class_row groups functions arguments us) keys ts e in
      let below : sum_by (λ k. one_if (gives t (class_row groups functions arguments us k))) keys ≤ sum_by (λ k. one_if (same_row k (take (length groups) t))) keys =
      sum_by-below (λ k. one_if (gives t (class_row groups functions arguments us k))) (λ k. one_if (same_row k (take (length groups) t))) keys
      (λ k i. one_if-below (gives t (class_row groups functions arguments us k)) (same_row k (take (length groups) t)) (own_key t k (in-key groups us k i))) in
      let own : count (take (length groups) t) keys ≡ sum_by (λ k. one_if (same_row k (take (length groups) t))) keys = count-sum (take (length groups) t) keys in
      let once_each : count (take (length groups) t) keys ≤ 1 = keys-once groups us (take (length groups) t) in
      omega arith

  answer-holds : (ts : Bag) → class_rows ≡ Good ts → HoldsOnce IsAnswer ts
  answer-holds ts e = record {
    once = rows-once ts e;
    rows = λ t. (
      λ h. let found = from-each (class_row groups functions arguments us) (class_keys groups us) ts t e (in_bag-in t ts h) in
          (found.0, in-key groups us found.0 found.1, row-from found.0 t found.2),
      λ found. in-in_bag t ts
          (each-in (class_row groups functions arguments us) (class_keys groups us) ts found.0 t e (key-in groups us found.0 found.1) (row-to found.0 t found.2)),
    );
  }

  rows-good : ((key : Row) (place : ℕ) → IsKey groups us key → ¬ (SumOverflows groups functions arguments us key place)) → IsGood class_rows
  rows-good h =
      (over-each (class_row groups functions arguments us) (class_keys groups us)).is_good (λ key i. row-good key (λ place. h key place (in-key groups us key i)))

  rows-meet : (key : Row) (place : ℕ) → IsKey groups us key → SumOverflows groups functions arguments us key place → Meets class_rows OutOfRange
  rows-meet key place k h =
      (over-each (class_row groups functions arguments us) (class_keys groups us)).meets OutOfRange key (key-in groups us key k) (overflow-meets key place h)

  rows-met : (fault : RunFault) → Meets class_rows fault →
      (fault ≡ OutOfRange) × ((key : Row) × (place : ℕ) × IsKey groups us key × SumOverflows groups functions arguments us key place)
  rows-met fault m =
      let found = (over-each (class_row groups functions arguments us) (class_keys groups us)).met fault m in
      let at = row-meets found.0 fault found.2 in
      (at.0, (found.0, at.1.0, in-key groups us found.0 found.1, at.1.1))

one_class : (groups : List ℕ) (us : Bag) → groups ≡ [] → length (class_keys groups us) ≡ 1
one_class groups us e = ap (λ g. length (class_keys g us)) e

-- ---- the node

-- what comes after a bad evaluation
over-stopped : {X : Type 0} (f : Row → Outcome X) (us : Bag) (o : Outcome (List X)) (next : List X → Outcome Bag) → ¬ (IsGood o) → Over f us o → Over f us (and_then o next)
over-stopped f us (Good xs) next h o = absurd (h tt)
over-stopped f us (Bad faults) next h o = record { is_good = o.is_good; each_good = o.each_good; meets = o.meets; met = o.met }

after_good : {X Y : Type 0} (o : Outcome X) (next : Outcome Y) → IsGood o → and_then o (λ _. next) ≡ next
after_good (Good x) next g = refl
after_good (Bad faults) next g = absurd g

first_good : {X : Type 0} (o : Outcome X) (next : Outcome Bag) (ts : Bag) → and_then o (λ _. next) ≡ Good ts → next ≡ Good ts
first_good (Good x) next ts e = e
first_good (Bad faults) next ts e = absurd (bad-not_good faults ts e)

module _ (groups : List ℕ) (functions : List AggFn) (arguments : Row → Outcome Row) (input : Outcome Bag) where
  abbrev answer : Outcome Bag
  answer = and_then input (grouped groups functions arguments)

  over : (us : Bag) → input ≡ Good us → answer ≡ grouped groups functions arguments us
  over us e = ap (λ o. and_then o (grouped groups functions arguments)) e

  after : (us : Bag) → input ≡ Good us → ((u : Row) → InBag u us → IsGood (arguments u)) → answer ≡ class_rows groups functions arguments us
  after us e h =
      over us e ∙ after_good (each arguments us) (class_rows groups functions arguments us)
      ((over-each arguments us).is_good (λ u i. h u (in-in_bag u us i)))

  rows_of : (us ts : Bag) → input ≡ Good us → answer ≡ Good ts → class_rows groups functions arguments us ≡ Good ts
  rows_of us ts e a = first_good (each arguments us) (class_rows groups functions arguments us) ts (sym (over us e) ∙ a)

  pub grouped-law : IsGrouped groups functions arguments input answer
  grouped-law = record {
    bad = and_then-passes input (grouped groups functions arguments);
    bad_argument = λ us u e h b. subst (OverRows arguments us) (sym (over us e))
        (over_rows arguments us (grouped groups functions arguments us)
        (over-stopped arguments us (each arguments us) (λ _. class_rows groups functions arguments us)
        (λ g. b ((over-each arguments us).each_good g u (in_bag-in u us h))) (over-each arguments us)));
    good = λ us e h. (
      λ g key place k s. good-meets answer OutOfRange g
          (subst (λ o. Meets o OutOfRange) (sym (after us e h)) (rows-meet groups functions arguments us key place k s)),
      λ none. subst IsGood (sym (after us e h)) (rows-good groups functions arguments us none),
    );
    out_of_range = λ us fault e h. (
      λ m. rows-met groups functions arguments us fault (subst (λ o. Meets o fault) (after us e h) m),
      λ s. subst (λ f. Meets answer f) (sym s.0)
          (subst (λ o. Meets o OutOfRange) (sym (after us e h)) (rows-meet groups functions arguments us s.1.0 s.1.1 s.1.2 s.1.3)),
    );
    rows = λ us ts e a. answer-holds groups functions arguments us ts (rows_of us ts e a);
    one_row = λ us ts e a none. each-long (class_row groups functions arguments us) (class_keys groups us) ts (rows_of us ts e a) ∙ one_class groups us none;
  }
