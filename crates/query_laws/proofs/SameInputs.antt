-- The laws see bags: what a node's law says of an answer stays true where the input's rows come in another order.
use Rattle.std.proofs.Common.{◌≡◌, ◌↔◌, inl, inr, ℕ, ◌+◌, ◌*◌, ◌<◌, Bool, cond, not, ◌&&◌, ◌||◌, true, List, ◌++◌, filter, sum_by, refl, sym, ap, subst, ◌∙◌}
use Rattle.std.specs.List.{list_any}
use Rattle.null_logic.specs.Arithmetic.{fits_64}
use Rattle.perm_values.specs.Rows.{same_row, value_at, picked}
use Rattle.perm_values.specs.declared.key.Key.{Key}
use Rattle.perm_values.specs.declared.value.Value.{Value}
use Rattle.bag_algebra.proofs.BagLaws.{Permuted, nothing, onward, turn, joined, permuted-map, permuted-filter, permuted-from_same_bag, same_bag-sym, same_bag-trans}
use Rattle.bag_algebra.specs.Bags.{Row, Bag, SameBag, count, nulls}
use Rattle.bag_algebra.specs.Means.{Witness, is_met, gives, keeps_left, keeps_right, good_row, good_rows}
use Rattle.bag_algebra.specs.Outcome.{Outcome, Good, Bad, Faults, has}
use Rattle.bag_algebra.specs.declared.query.AggFn.{AggFn}
use Rattle.bag_algebra.specs.declared.query.JoinKind.{JoinKind}
use Rattle.bag_algebra.specs.Rewriting.{SameRows}
use Rattle.null_logic.specs.declared.run_fault.RunFault.{RunFault}
use Rattle.query_laws.specs.Faults.{IsGood, Meets, PassesFaults, UnitesFaults, OverRows, OverPairs}
use Rattle.query_laws.specs.Holding.{InBag, HoldsOnce, Lists, counted_where}
use Rattle.query_laws.specs.Nodes.{IsFiltered, IsProjected, makes, pairs_count, is_unmatched_left, is_unmatched_right, left_count, right_count, IsJoinOf, is_alone, beside_count, IsApplied, IsCombined, IsDistinct, IsKey, class_values, IsClassRow, SumOverflows, IsGrouped, IsLimited, IsProvenance}
use Rattle.query_laws.proofs.Applied.{times-where, beside-same, own-same}
use Rattle.query_laws.proofs.Sums.{sum_by-same}
use Rattle.bag_algebra.proofs.Truths.{or_turn}
use Rattle.bag_algebra.proofs.AggregateOrder.{total-permuted, aggregated-permuted}
use Rattle.bag_algebra.proofs.Outcomes.{same_good, bad-not_good}

-- ---- inputs

-- the other input is good with the same bag, or bad with the same set
good_other : (i j : Outcome Bag) → SameRows i j → (vs : Bag) → j ≡ Good vs → (us : Bag) × (i ≡ Good us) × SameBag us vs
good_other (Good us) (Good ws) s vs e = (us, refl, subst (SameBag us) (same_good ws vs e) s)
good_other (Good us) (Bad g) s vs e = absurd s
good_other (Bad f) (Good ws) s vs e = absurd s
good_other (Bad f) (Bad g) s vs e = absurd (bad-not_good g vs e)

bad_other : (i j : Outcome Bag) → SameRows i j → (faults : Faults) → j ≡ Bad faults → i ≡ Bad faults
bad_other (Good us) (Good ws) s faults e = absurd (bad-not_good faults ws (sym e))
bad_other (Good us) (Bad g) s faults e = absurd s
bad_other (Bad f) (Good ws) s faults e = absurd s
bad_other (Bad f) (Bad g) s faults e = ap Bad s ∙ e

passes_along : (i j a : Outcome Bag) → SameRows i j → PassesFaults i a → PassesFaults j a
passes_along i j a s p faults e = p faults (bad_other i j s faults e)

unites_along : (i j k l a : Outcome Bag) → SameRows i k → SameRows j l → UnitesFaults i j a → UnitesFaults k l a
unites_along i j k l a s r u = record {
  of_left = λ faults vs e f. let g = good_other j l r vs f in u.of_left faults g.0 (bad_other i k s faults e) g.1;
  of_right = λ us faults e f. let g = good_other i k s us e in u.of_right g.0 faults g.1 (bad_other j l r faults f);
  of_both = λ faults more e f. u.of_both faults more (bad_other i k s faults e) (bad_other j l r more f);
}

-- ---- bags

in_bag_along : (us vs : Bag) → SameBag us vs → (t : Row) → InBag t us → InBag t vs
in_bag_along us vs s t h = subst (λ n. 0 < n) (s.counts t) h

holds_once_along : (P Q : Row → Type 0) (ts : Bag) → ((t : Row) → P t ↔ Q t) → HoldsOnce P ts → HoldsOnce Q ts
holds_once_along P Q ts e h = record { once = h.once; rows = λ t. (λ i. (e t).0 ((h.rows t).0 i), λ q. (h.rows t).1 ((e t).1 q)) }

lists_along : (rows us vs : Bag) → SameBag us vs → Lists rows vs → Lists rows us
lists_along rows us vs s l =
    holds_once_along (λ u. InBag u vs) (λ u. InBag u us) rows (λ t. (in_bag_along vs us (same_bag-sym us vs s) t, in_bag_along us vs s t)) l

over_rows_along : {X : Type 0} (f : Row → Outcome X) (us vs : Bag) (a : Outcome Bag) → SameBag us vs → OverRows f us a → OverRows f vs a
over_rows_along f us vs a s o = record {
  good = (λ g u h. o.good.0 g u (in_bag_along vs us (same_bag-sym us vs s) u h), λ g. o.good.1 (λ u h. g u (in_bag_along us vs s u h)));
  faults = λ fault. (
    λ m. let found = (o.faults fault).0 m in (found.0, in_bag_along us vs s found.0 found.1, found.2),
    λ m. (o.faults fault).1 (m.0, in_bag_along vs us (same_bag-sym us vs s) m.0 m.1, m.2),
  );
}

over_pairs_along : {X : Type 0} (f : Row → Outcome X) (us vs ws xs : Bag) (a : Outcome Bag) → SameBag us ws → SameBag vs xs → OverPairs f us vs a → OverPairs f ws xs a
over_pairs_along f us vs ws xs a s r o =
    let s_back = same_bag-sym us ws s in
    let r_back = same_bag-sym vs xs r in
    record {
      good = (
        λ g u v h k. o.good.0 g u v (in_bag_along ws us s_back u h) (in_bag_along xs vs r_back v k),
        λ g. o.good.1 (λ u v h k. g u v (in_bag_along us ws s u h) (in_bag_along vs xs r v k)),
      );
      faults = λ fault. (
        λ m. let found = (o.faults fault).0 m in
            (found.0, found.1, in_bag_along us ws s found.0 found.2, in_bag_along vs xs r found.1 found.3, found.4),
        λ m. (o.faults fault).1 (m.0, m.1, in_bag_along ws us s_back m.0 m.2, in_bag_along xs vs r_back m.1 m.3, m.4),
      );
    }

counted_where-same : (test other : Row → Bool) (us vs : Bag) (rows : List Row) → ((u : Row) → test u ≡ other u) → SameBag us vs →
    counted_where test us rows ≡ counted_where other vs rows
counted_where-same test other us vs rows e s =
    (λ i. sum_by (λ u. count u us) (filter (λ u. e u i) rows)) ∙ sum_by-same (λ u. count u us) (λ u. count u vs) (filter other rows) s.counts

any-permuted : {us vs : Bag} (test : Row → Bool) → Permuted us vs → list_any test us ≡ list_any test vs
any-permuted test nothing = refl
any-permuted test (onward u p) = ap (λ b. test u || b) (any-permuted test p)
any-permuted test (turn u v us) = or_turn (test u) (test v) (list_any test us)
any-permuted test (joined p q) = any-permuted test p ∙ any-permuted test q

any-same : (test : Row → Bool) (us vs : Bag) → SameBag us vs → list_any test us ≡ list_any test vs
any-same test us vs s = any-permuted test (permuted-from_same_bag us vs s)

-- ---- Filter and Project

pub filter_along : (condition : Row → Outcome Value) (i j a : Outcome Bag) → SameRows i j → IsFiltered condition i a → IsFiltered condition j a
filter_along condition i j a s p = record {
  bad = passes_along i j a s p.bad;
  evaluated = λ vs e. let k = good_other i j s vs e in over_rows_along condition k.0 vs a k.2 (p.evaluated k.0 k.1);
  counts = λ vs ts e w t. let k = good_other i j s vs e in
      let same : SameBag k.0 vs = k.2 in
      p.counts k.0 ts k.1 w t ∙ ap (λ n. cond (is_met (condition t)) n 0) (same.counts t);
}

pub project_along : (items : Row → Outcome Row) (i j a : Outcome Bag) → SameRows i j → IsProjected items i a → IsProjected items j a
project_along items i j a s p = record {
  bad = passes_along i j a s p.bad;
  evaluated = λ vs e. let k = good_other i j s vs e in over_rows_along items k.0 vs a k.2 (p.evaluated k.0 k.1);
  counts = λ vs ts e w rows l t. let k = good_other i j s vs e in
      p.counts k.0 ts k.1 w rows (lists_along rows k.0 vs k.2 l) t
      ∙ counted_where-same (λ u. gives t (items u)) (λ u. gives t (items u)) k.0 vs rows (λ u. refl) k.2;
}

-- ---- Join

module _ (kind : JoinKind) (condition : Row → Outcome Value) (us vs ws xs : Bag) (s : SameBag us ws) (r : SameBag vs xs) where
  products-same : (u v : Row) → count u us * count v vs ≡ count u ws * count v xs
  products-same u v = λ i. s.counts u i * r.counts v i

  pairs_count-same : (t : Row) (lefts rights : List Row) → pairs_count condition t us vs lefts rights ≡ pairs_count condition t ws xs lefts rights
  pairs_count-same t lefts rights =
      sum_by-same (λ u. sum_by (λ v. count u us * count v vs) (filter (makes condition t u) rights))
      (λ u. sum_by (λ v. count u ws * count v xs) (filter (makes condition t u) rights)) lefts
      (λ u. sum_by-same (λ v. count u us * count v vs) (λ v. count u ws * count v xs) (filter (makes condition t u) rights) (λ v. products-same u v))

  unmatched_left-same : (u : Row) → is_unmatched_left condition vs u ≡ is_unmatched_left condition xs u
  unmatched_left-same u = ap not (any-same (λ v. is_met (condition (u ++ v))) vs xs r)

  unmatched_right-same : (v : Row) → is_unmatched_right condition us v ≡ is_unmatched_right condition ws v
  unmatched_right-same v = ap not (any-same (λ u. is_met (condition (u ++ v))) us ws s)

  left_count-same : (width : ℕ) (t : Row) (lefts : List Row) → left_count kind condition width t us vs lefts ≡ left_count kind condition width t ws xs lefts
  left_count-same width t lefts =
      ap (λ n. cond (keeps_left kind) n 0)
      (counted_where-same (λ u. same_row (u ++ nulls width) t && is_unmatched_left condition vs u) (λ u. same_row (u ++ nulls width) t && is_unmatched_left condition xs u)
      us ws lefts (λ u. ap (λ b. same_row (u ++ nulls width) t && b) (unmatched_left-same u)) s)

  right_count-same : (width : ℕ) (t : Row) (rights : List Row) → right_count kind condition width t us vs rights ≡ right_count kind condition width t ws xs rights
  right_count-same width t rights =
      ap (λ n. cond (keeps_right kind) n 0)
      (counted_where-same (λ v. same_row (nulls width ++ v) t && is_unmatched_right condition us v) (λ v. same_row (nulls width ++ v) t && is_unmatched_right condition ws v)
      vs xs rights (λ v. ap (λ b. same_row (nulls width ++ v) t && b) (unmatched_right-same v)) r)

  product-same : (left_width right_width : ℕ) (u v : Row) →
      cond (is_met (condition (u ++ v))) (count u us * count v vs) 0
      + cond (keeps_left kind && same_row (nulls right_width) v && is_unmatched_left condition vs u) (count u us) 0
      + cond (keeps_right kind && same_row (nulls left_width) u && is_unmatched_right condition us v) (count v vs) 0
      ≡ cond (is_met (condition (u ++ v))) (count u ws * count v xs) 0
      + cond (keeps_left kind && same_row (nulls right_width) v && is_unmatched_left condition xs u) (count u ws) 0
      + cond (keeps_right kind && same_row (nulls left_width) u && is_unmatched_right condition ws v) (count v xs) 0
  product-same left_width right_width u v =
      λ i. cond (is_met (condition (u ++ v))) (products-same u v i) 0
      + cond (keeps_left kind && same_row (nulls right_width) v && unmatched_left-same u i) (s.counts u i) 0
      + cond (keeps_right kind && same_row (nulls left_width) u && unmatched_right-same v i) (r.counts v i) 0

pub join_along : (kind : JoinKind) (condition : Row → Outcome Value) (left_width right_width : ℕ) (i j k l a : Outcome Bag) → SameRows i k → SameRows j l →
    IsJoinOf kind condition left_width right_width i j a → IsJoinOf kind condition left_width right_width k l a
join_along kind condition left_width right_width i j k l a s r p = record {
  bad = unites_along i j k l a s r p.bad;
  evaluated = λ ws xs e f.
      let m = good_other i k s ws e in
      let n = good_other j l r xs f in
      over_pairs_along condition m.0 n.0 ws xs a m.2 n.2 (p.evaluated m.0 n.0 m.1 n.1);
  counts = λ ws xs ts e f w lefts rights ll rl t.
      let m = good_other i k s ws e in
      let n = good_other j l r xs f in
      p.counts m.0 n.0 ts m.1 n.1 w lefts rights (lists_along lefts m.0 ws m.2 ll) (lists_along rights n.0 xs n.2 rl) t
      ∙ (λ d. pairs_count-same kind condition m.0 n.0 ws xs m.2 n.2 t lefts rights d
      + left_count-same kind condition m.0 n.0 ws xs m.2 n.2 right_width t lefts d
      + right_count-same kind condition m.0 n.0 ws xs m.2 n.2 left_width t rights d);
  product = λ ws xs ts e f w wide u v long.
      let m = good_other i k s ws e in
      let n = good_other j l r xs f in
      p.product m.0 n.0 ts m.1 n.1 w (λ x h. wide x (in_bag_along m.0 ws m.2 x h)) u v long
      ∙ product-same kind condition m.0 n.0 ws xs m.2 n.2 left_width right_width u v;
}

-- ---- Apply

same_rows-sym : (o p : Outcome Bag) → SameRows o p → SameRows p o
same_rows-sym (Good us) (Good vs) s = same_bag-sym us vs s
same_rows-sym (Good us) (Bad g) s = absurd s
same_rows-sym (Bad f) (Good vs) s = absurd s
same_rows-sym (Bad f) (Bad g) s = sym s

good_along : (o p : Outcome Bag) → SameRows o p → IsGood o → IsGood p
good_along (Good us) (Good vs) s g = tt
good_along (Good us) (Bad g) s h = absurd s
good_along (Bad f) p s g = absurd g

meets_along : (fault : RunFault) (o p : Outcome Bag) → SameRows o p → Meets o fault → Meets p fault
meets_along fault (Good us) p s m = absurd m
meets_along fault (Bad f) (Good vs) s m = absurd s
meets_along fault (Bad f) (Bad g) s m = subst (λ h. has h fault ≡ true) s m

-- right sides that have the same rows or faults under each left row that is there
module _ (i j : Outcome Bag) (s : SameRows i j) (right another : Row → Outcome Bag)
    (under_each : (us : Bag) (u : Row) → i ≡ Good us → InBag u us → SameRows (right u) (another u)) where
  over_rights_along : (us vs : Bag) (a : Outcome Bag) → i ≡ Good us → SameBag us vs → OverRows right us a → OverRows another vs a
  over_rights_along us vs a e b o =
      let back = same_bag-sym us vs b in
      record {
        good = (
          λ g u h. let here = in_bag_along vs us back u h in good_along (right u) (another u) (under_each us u e here) (o.good.0 g u here),
          λ g. o.good.1 (λ u h. good_along (another u) (right u) (same_rows-sym (right u) (another u) (under_each us u e h)) (g u (in_bag_along us vs b u h))),
        );
        faults = λ fault. (
          λ m. let found = (o.faults fault).0 m in
              (found.0, in_bag_along us vs b found.0 found.1, meets_along fault (right found.0) (another found.0) (under_each us found.0 e found.1) found.2),
          λ m. let here = in_bag_along vs us back m.0 m.1 in
              (o.faults fault).1 (m.0, here, meets_along fault (another m.0) (right m.0) (same_rows-sym (right m.0) (another m.0) (under_each us m.0 e here)) m.2),
        );
      }

  pub apply_along : (kind : JoinKind) (left_width right_width : ℕ) (a : Outcome Bag) → IsApplied kind left_width right_width i right a →
      IsApplied kind left_width right_width j another a
  apply_along kind left_width right_width a p = record {
    bad = passes_along i j a s p.bad;
    evaluated = λ vs e. let k = good_other i j s vs e in over_rights_along k.0 vs a k.1 k.2 (p.evaluated k.0 k.1);
    counts = λ vs ts e w lefts l t. let k = good_other i j s vs e in
        let same : SameBag k.0 vs = k.2 in
        p.counts k.0 ts k.1 w lefts (lists_along lefts k.0 vs k.2 l) t
        ∙ sum_by-same (λ u. count u k.0 * beside_count kind right_width t u (good_rows (right u)))
        (λ u. count u vs * beside_count kind right_width t u (good_rows (another u))) lefts
        (λ u. ap (λ n. n * beside_count kind right_width t u (good_rows (right u))) (same.counts u)
        ∙ times-where (count u vs) _ _
        (λ h. beside-same kind right_width t u (right u) (another u) (under_each k.0 u k.1 (in_bag_along vs k.0 (same_bag-sym k.0 vs k.2) u h))));
    product = λ vs ts e w wide u v long. let k = good_other i j s vs e in
        let same : SameBag k.0 vs = k.2 in
        p.product k.0 ts k.1 w (λ x h. wide x (in_bag_along k.0 vs k.2 x h)) u v long
        ∙ ap (λ n. n * (count v (good_rows (right u)) + cond (is_alone kind (good_rows (right u)) && same_row (nulls right_width) v) 1 0)) (same.counts u)
        ∙ times-where (count u vs) _ _
        (λ h. own-same kind right_width v (right u) (another u) (under_each k.0 u k.1 (in_bag_along vs k.0 (same_bag-sym k.0 vs k.2) u h)));
  }

-- ---- set operations, Distinct, Limit, PROVENANCE

pub combined_along : (many : ℕ → ℕ → ℕ) (some : ℕ → ℕ → Type 0) (all : Bool) (i j k l a : Outcome Bag) → SameRows i k → SameRows j l →
    IsCombined many some all i j a → IsCombined many some all k l a
combined_along many some all i j k l a s r p = record {
  bad = unites_along i j k l a s r p.bad;
  good = λ ws xs e f.
      let m = good_other i k s ws e in
      let n = good_other j l r xs f in
      p.good m.0 n.0 m.1 n.1;
  with_all = λ ws xs ts e f w set t.
      let m = good_other i k s ws e in
      let n = good_other j l r xs f in
      let left : SameBag m.0 ws = m.2 in
      let right : SameBag n.0 xs = n.2 in
      p.with_all m.0 n.0 ts m.1 n.1 w set t ∙ (λ d. many (left.counts t d) (right.counts t d));
  without_all = λ ws xs ts e f w set.
      let m = good_other i k s ws e in
      let n = good_other j l r xs f in
      let left : SameBag m.0 ws = m.2 in
      let right : SameBag n.0 xs = n.2 in
      let one : (λ t. some (count t m.0) (count t n.0)) ≡ (λ t. some (count t ws) (count t xs)) = λ d t. some (left.counts t d) (right.counts t d) in
      subst (λ P. HoldsOnce P ts) one (p.without_all m.0 n.0 ts m.1 n.1 w set);
}

pub distinct_along : (i j a : Outcome Bag) → SameRows i j → IsDistinct i a → IsDistinct j a
distinct_along i j a s p = record {
  bad = passes_along i j a s p.bad;
  good = λ vs e. let k = good_other i j s vs e in p.good k.0 k.1;
  rows = λ vs ts e w. let k = good_other i j s vs e in
      holds_once_along (λ t. InBag t k.0) (λ t. InBag t vs) ts (λ t. (in_bag_along k.0 vs k.2 t, in_bag_along vs k.0 (same_bag-sym k.0 vs k.2) t)) (p.rows k.0 ts k.1 w);
}

pub limit_along : (keys : List Key) (most : ℕ) (i j a : Outcome Bag) → SameRows i j → IsLimited keys most i a → IsLimited keys most j a
limit_along keys most i j a s p = record {
  bad = passes_along i j a s p.bad;
  first = λ vs e. let k = good_other i j s vs e in
      let o = p.first k.0 k.1 in
      (o.0, same_bag-trans vs k.0 o.0 (same_bag-sym k.0 vs k.2) o.1, o.2, o.3);
}

pub provenance_along : (lists : Row → List Witness) (i j a : Outcome Bag) → SameRows i j → IsProvenance lists i a → IsProvenance lists j a
provenance_along lists i j a s p = record {
  bad = passes_along i j a s p.bad;
  good = λ vs e. let k = good_other i j s vs e in p.good k.0 k.1;
  rows = λ vs ts e w. let k = good_other i j s vs e in
      holds_once_along _ _ ts
      (λ x. (λ f. (f.0, f.1, in_bag_along k.0 vs k.2 f.0 f.2, f.3, f.4), λ f. (f.0, f.1, in_bag_along vs k.0 (same_bag-sym k.0 vs k.2) f.0 f.2, f.3, f.4)))
      (p.rows k.0 ts k.1 w);
}

-- ---- Aggregate

module _ (groups : List ℕ) (functions : List AggFn) (arguments : Row → Outcome Row) (us vs : Bag) (s : SameBag us vs) where
  key_along : (key : Row) → IsKey groups us key → IsKey groups vs key
  key_along key (inl h) = inl h
  key_along key (inr h) = inr (h.0, (h.1.0, in_bag_along us vs s h.1.0 h.1.1, h.1.2))

  values_along : (key : Row) (place : ℕ) → Permuted (class_values groups arguments us key place) (class_values groups arguments vs key place)
  values_along key place =
      permuted-map (λ u. value_at (good_row (arguments u)) place) (permuted-filter (λ u. same_row (picked groups u) key) (permuted-from_same_bag us vs s))

  overflow_along : (key : Row) (place : ℕ) → SumOverflows groups functions arguments us key place → SumOverflows groups functions arguments vs key place
  overflow_along key place o =
      (o.0, ap fits_64 (sym (total-permuted (permuted-filter _ (values_along key place)))) ∙ o.1)

  class_row_along : (key t : Row) → IsClassRow groups functions arguments us key t → IsClassRow groups functions arguments vs key t
  class_row_along key t c = record {
    values = c.values;
    is = c.is;
    long = c.long;
    each = λ place function h.
        sym (aggregated-permuted function (values_along key place)) ∙ c.each place function h;
  }

pub group_along : (groups : List ℕ) (functions : List AggFn) (arguments : Row → Outcome Row) (i j a : Outcome Bag) → SameRows i j →
    IsGrouped groups functions arguments i a → IsGrouped groups functions arguments j a
group_along groups functions arguments i j a s p = record {
  bad = passes_along i j a s p.bad;
  bad_argument = λ vs u e h b. let k = good_other i j s vs e in
      over_rows_along arguments k.0 vs a k.2 (p.bad_argument k.0 u k.1 (in_bag_along vs k.0 (same_bag-sym k.0 vs k.2) u h) b);
  good = λ vs e h. let k = good_other i j s vs e in
      let back = same_bag-sym k.0 vs k.2 in
      let o = p.good k.0 k.1 (λ u m. h u (in_bag_along k.0 vs k.2 u m)) in (
        λ g key place m f. o.0 g key place (key_along groups functions arguments vs k.0 back key m) (overflow_along groups functions arguments vs k.0 back key place f),
        λ none. o.1 (λ key place m f. none key place (key_along groups functions arguments k.0 vs k.2 key m) (overflow_along groups functions arguments k.0 vs k.2 key place f)),
      );
  out_of_range = λ vs fault e h. let k = good_other i j s vs e in
      let back = same_bag-sym k.0 vs k.2 in
      let o = p.out_of_range k.0 fault k.1 (λ u m. h u (in_bag_along k.0 vs k.2 u m)) in (
        λ m. let f = o.0 m in
            (f.0, (f.1.0, f.1.1, key_along groups functions arguments k.0 vs k.2 f.1.0 f.1.2, overflow_along groups functions arguments k.0 vs k.2 f.1.0 f.1.1 f.1.3)),
        λ f. o.1 (f.0, (f.1.0, f.1.1, key_along groups functions arguments vs k.0 back f.1.0 f.1.2, overflow_along groups functions arguments vs k.0 back f.1.0 f.1.1 f.1.3)),
      );
  rows = λ vs ts e w. let k = good_other i j s vs e in
      let back = same_bag-sym k.0 vs k.2 in
      holds_once_along _ _ ts
      (λ t. (
        λ f. (f.0, key_along groups functions arguments k.0 vs k.2 f.0 f.1, class_row_along groups functions arguments k.0 vs k.2 f.0 t f.2),
        λ f. (f.0, key_along groups functions arguments vs k.0 back f.0 f.1, class_row_along groups functions arguments vs k.0 back f.0 t f.2),
      ))
      (p.rows k.0 ts k.1 w);
  one_row = λ vs ts e w none. let k = good_other i j s vs e in p.one_row k.0 ts k.1 w none;
}
