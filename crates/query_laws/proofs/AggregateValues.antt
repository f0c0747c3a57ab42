-- What the aggregate functions give.
use Rattle.std.proofs.Common.{◌≡◌, ◌≢◌, ◌↔◌, inl, inr, ◌<◌, ◌≤◌, ℤ, pos, Bool, true, false, cond, not, List, [], ◌∷◌, map, filter, length, count_by, sum_by, Ordering, Less, Equal, Greater, is_gt, is_lt, refl, sym, ap, subst, ◌∙◌, arith, true≢false}
use Rattle.std.proofs.lemmas.List.{length-map}
use Rattle.std.proofs.lemmas.List.Sums.{length-filter}
use Rattle.std.specs.Cmp.{IsTotalOrder, upto, back_total}
use Rattle.std.specs.Ordering.{ordering_reverse, flip_args}
use Rattle.null_logic.specs.Arithmetic.{fits_64}
use Rattle.null_logic.specs.declared.run_fault.RunFault.TheVariants.{OutOfRange}
use Rattle.perm_values.specs.Rows.{same_row}
use Rattle.perm_values.specs.ValueLaws.{value_decides, value_cmp_total}
use Rattle.perm_values.specs.Values.{same_value, value_cmp, is_null}
use Rattle.perm_values.specs.declared.value.Value.{Value}
use Rattle.perm_values.specs.declared.value.Value.TheVariants.{Null, Integer, Text, Boolean}
use Rattle.bag_algebra.proofs.BagLaws.{Permuted, nothing, onward, turn, joined, permuted-sym, permuted-length, permuted-from_same_bag}
use Rattle.bag_algebra.proofs.Members.{IsIn}
use Rattle.bag_algebra.proofs.SortedBags.{permuted-sorted}
use Rattle.bag_algebra.specs.Bags.{Row, Bag, count, once, others, sorted}
use Rattle.bag_algebra.specs.Means.{present, once_each, total, sum_of, first_or_null, aggregated}
use Rattle.bag_algebra.specs.Outcome.{Good, Bad, only}
use Rattle.bag_algebra.specs.declared.query.AggFn.TheVariants.{Count, CountDistinct, Sum, Min, Max}
use Rattle.query_laws.specs.Aggregated.{occurrences, ListsValues, IsLeast, IsGreatest}
use Rattle.query_laws.specs.Holding.{Lists}
use Rattle.query_laws.proofs.Once.{listed, one_count}
use Rattle.query_laws.proofs.Limited.{rises, rises-sorted}
use Rattle.query_laws.proofs.Sums.{one_if, count-map, sum_by-same, sum_by-none, sum_by-filter}
use Rattle.bag_algebra.proofs.Truths.{and_true}
use Rattle.std.proofs.lemmas.Bool.{and_right}
use Rattle.bag_algebra.proofs.MembersByIndex.{in-from_contains, contains-from_in}

-- ---- values as rows of one column

abbrev pub single : Value → Row
single v = v ∷ []

pub count-single : (v : Value) (vs : List Value) → count (single v) (map single vs) ≡ occurrences v vs
count-single v vs =
    count-map (single v) single vs
    ∙ sum_by-same (λ w. one_if (same_row (single w) (single v))) (λ w. one_if (same_value w v)) vs (λ w. ap one_if (and_true (same_value w v)))

-- no other row is there
count-no_single : (vs : List Value) → count [] (map single vs) ≡ 0
count-no_single vs = count-map [] single vs ∙ sum_by-none (λ w. one_if (same_row (single w) [])) vs (λ w. refl)

count-longer : (v x : Value) (row : Row) (vs : List Value) → count (v ∷ x ∷ row) (map single vs) ≡ 0
count-longer v x row vs =
    count-map (v ∷ x ∷ row) single vs
    ∙ sum_by-none (λ w. one_if (same_row (single w) (v ∷ x ∷ row))) vs (λ w. ap one_if (and_right (same_value w v) false refl))

pub singles_counts : (vs ws : List Value) → ((v : Value) → occurrences v vs ≡ occurrences v ws) → (t : Row) → count t (map single vs) ≡ count t (map single ws)
singles_counts vs ws e [] = count-no_single vs ∙ sym (count-no_single ws)
singles_counts vs ws e (v ∷ []) = count-single v vs ∙ e v ∙ sym (count-single v ws)
singles_counts vs ws e (v ∷ x ∷ row) = count-longer v x row vs ∙ sym (count-longer v x row ws)

-- lists with the same occurrences are as long
same_length : (vs ws : List Value) → ((v : Value) → occurrences v vs ≡ occurrences v ws) → length vs ≡ length ws
same_length vs ws e =
    sym (length-map vs single)
    ∙ permuted-length (permuted-from_same_bag (map single vs) (map single ws) (record { counts = singles_counts vs ws e }))
    ∙ length-map ws single

others-single : (v : Value) (vs : List Value) → others (single v) (map single vs) ≡ map single (filter (λ w. not (same_value v w)) vs)
others-single v [] = refl
others-single v (w ∷ vs) =
    step (not (same_row (single v) (single w))) (not (same_value v w)) w (others (single v) (map single vs)) (filter (λ x. not (same_value v x)) vs)
    (ap not (and_true (same_value v w))) (others-single v vs)
  where
    step : (b d : Bool) (w : Value) (us : Bag) (ws : List Value) → b ≡ d → us ≡ map single ws → cond b (single w ∷ us) us ≡ map single (cond d (w ∷ ws) ws)
    step true true w us ws e h = ap (λ l. single w ∷ l) h
    step true false w us ws e h = absurd (true≢false e)
    step false true w us ws e h = absurd (true≢false (sym e))
    step false false w us ws e h = h

once-single : (vs : List Value) → once (map single vs) ≡ map single (once_each vs)
once-single [] = refl
once-single (v ∷ vs) = ap (λ us. single v ∷ others (single v) us) (once-single vs) ∙ ap (λ us. single v ∷ us) (others-single v (once_each vs))

-- ---- distinct values

null_is : (v : Value) → is_null v ≡ true → v ≡ Null
null_is Null e = refl
null_is (Integer a) e = absurd (true≢false (sym e))
null_is (Text a) e = absurd (true≢false (sym e))
null_is (Boolean a) e = absurd (true≢false (sym e))

not_null : (v : Value) → is_null v ≡ false → v ≢ Null
not_null v e n = absurd (true≢false (sym (ap is_null n) ∙ e))

occurrences-present : (v : Value) (vs : List Value) → occurrences v (present vs) ≡ cond (not (is_null v)) (occurrences v vs) 0
occurrences-present v vs =
    sum_by-filter (λ w. one_if (same_value w v)) (λ w. not (is_null w)) vs
    ∙ by (is_null v) refl
  where
    null_alike : (w : Value) → same_value w v ≡ true → is_null w ≡ is_null v
    null_alike w s = ap is_null ((value_decides w v).0 s)

    zero_here : (w : Value) (s : Bool) → same_value w v ≡ s → is_null v ≡ true → cond (not (is_null w)) (one_if s) 0 ≡ 0
    zero_here w true e n = ap (λ b. cond (not b) (one_if true) 0) (null_alike w e ∙ n)
    zero_here w false e n = both_zero (not (is_null w)) where
      both_zero : (b : Bool) → cond b (one_if false) 0 ≡ 0
      both_zero true = refl
      both_zero false = refl

    kept_here : (w : Value) (s : Bool) → same_value w v ≡ s → is_null v ≡ false → cond (not (is_null w)) (one_if s) 0 ≡ one_if s
    kept_here w true e n = ap (λ b. cond (not b) (one_if true) 0) (null_alike w e ∙ n)
    kept_here w false e n = both_zero (not (is_null w)) where
      both_zero : (b : Bool) → cond b (one_if false) 0 ≡ one_if false
      both_zero true = refl
      both_zero false = refl

    by : (b : Bool) → is_null v ≡ b → sum_by (λ w. cond (not (is_null w)) (one_if (same_value w v)) 0) vs ≡ cond (not b) (occurrences v vs) 0
    by true n = sum_by-none (λ w. cond (not (is_null w)) (one_if (same_value w v)) 0) vs (λ w. zero_here w (same_value w v) refl n)
    by false n = sum_by-same (λ w. cond (not (is_null w)) (one_if (same_value w v)) 0) (λ w. one_if (same_value w v)) vs (λ w. kept_here w (same_value w v) refl n)

occurs-present : (v : Value) (vs : List Value) → (0 < occurrences v (present vs)) ↔ ((v ≢ Null) × (0 < occurrences v vs))
occurs-present v vs = subst (λ n. (0 < n) ↔ ((v ≢ Null) × (0 < occurrences v vs))) (sym (occurrences-present v vs)) (by (is_null v) refl) where
  by : (b : Bool) → is_null v ≡ b → (0 < cond (not b) (occurrences v vs) 0) ↔ ((v ≢ Null) × (0 < occurrences v vs))
  by true n = (λ h. absurd (omega arith), λ h. absurd (h.0 (null_is v n)))
  by false n = (λ h. (not_null v n, h), λ h. h.1)

-- each value that isn't NULL, once
pub once_each-lists : (vs : List Value) → ListsValues (once_each (present vs)) vs
once_each-lists vs =
    let rows = map single (present vs) in
    let l : Lists (once rows) rows = listed rows in
    let own : (v : Value) → count (single v) (once rows) ≡ occurrences v (once_each (present vs)) =
    λ v. ap (count (single v)) (once-single (present vs)) ∙ count-single v (once_each (present vs)) in
    record {
      once = λ v. subst (λ n. n ≤ 1) (own v) (l.once (single v));
      values = λ v. (
        λ h. (occurs-present v vs).0 (subst (λ n. 0 < n) (count-single v (present vs)) ((l.rows (single v)).0 (subst (λ n. 0 < n) (sym (own v)) h))),
        λ h. subst (λ n. 0 < n) (own v) ((l.rows (single v)).1 (subst (λ n. 0 < n) (sym (count-single v (present vs))) ((occurs-present v vs).1 h))),
      );
    }

-- any such list is as long as the count
pub count_distinct-is : (vs distinct : List Value) → ListsValues distinct vs → aggregated CountDistinct vs ≡ Good (Integer (pos (length distinct)))
count_distinct-is vs distinct l =
    let k = once_each-lists vs in
    ap (λ n. Good (Integer (pos n))) (same_length (once_each (present vs)) distinct
    (λ v. one_count _ (occurrences v (once_each (present vs))) (occurrences v distinct) (k.once v) (l.once v) (k.values v) (l.values v)))

pub count-is : (vs : List Value) → aggregated Count vs ≡ Good (Integer (pos (count_by (λ v. not (is_null v)) vs)))
count-is vs = ap (λ n. Good (Integer (pos n))) (length-filter (λ v. not (is_null v)) vs)

-- ---- sums

pub none-sum : (vs : List Value) → present vs ≡ [] → aggregated Sum vs ≡ Good Null
none-sum vs e = ap sum_of e

fitting : (b : Bool) (z : ℤ) → b ≡ true → cond b (Good (Integer z)) (Bad (only OutOfRange)) ≡ Good (Integer z)
fitting true z e = refl
fitting false z e = absurd (true≢false (sym e))

passing : (b : Bool) (z : ℤ) → b ≡ false → cond b (Good (Integer z)) (Bad (only OutOfRange)) ≡ Bad (only OutOfRange)
passing true z e = absurd (true≢false e)
passing false z e = refl

sum_of-fits : (vs : List Value) → vs ≢ [] → fits_64 (total vs) ≡ true → sum_of vs ≡ Good (Integer (total vs))
sum_of-fits [] some e = absurd (some refl)
sum_of-fits (v ∷ vs) some e = fitting (fits_64 (total (v ∷ vs))) (total (v ∷ vs)) e

sum_of-passes : (vs : List Value) → fits_64 (total vs) ≡ false → sum_of vs ≡ Bad (only OutOfRange)
sum_of-passes [] e = absurd (true≢false e)
sum_of-passes (v ∷ vs) e = passing (fits_64 (total (v ∷ vs))) (total (v ∷ vs)) e

pub sum-fits : (vs : List Value) → present vs ≢ [] → fits_64 (total (present vs)) ≡ true → aggregated Sum vs ≡ Good (Integer (total (present vs)))
sum-fits vs some e = sum_of-fits (present vs) some e

pub sum-passes : (vs : List Value) → fits_64 (total (present vs)) ≡ false → aggregated Sum vs ≡ Bad (only OutOfRange)
sum-passes vs e = sum_of-passes (present vs) e

-- ---- the first in order

module _ (cmp : Value → Value → Ordering) (t : IsTotalOrder cmp) where
  never_below : (x : Value) (a : Ordering) → cmp x x ≡ a → is_gt (cmp x x) ≡ false
  never_below x Less e = ap is_gt e
  never_below x Equal e = ap is_gt e
  never_below x Greater e = absurd (true≢false (ap is_gt (sym e ∙ t.antisymm x x ∙ ap ordering_reverse e)))

  turned : (x y : Value) (a : Ordering) → cmp y x ≡ a → is_lt a ≡ false → is_gt (cmp x y) ≡ false
  turned x y Less e f = absurd (true≢false f)
  turned x y Equal e f = ap is_gt (t.antisymm x y ∙ ap ordering_reverse e)
  turned x y Greater e f = ap is_gt (t.antisymm x y ∙ ap ordering_reverse e)

  front-first : (x : Value) (xs : List Value) → rises cmp (x ∷ xs) → (w : Value) → IsIn w (x ∷ xs) → is_gt (cmp x w) ≡ false
  front-first x xs r w (inl e) = subst (λ y. is_gt (cmp x y) ≡ false) e (never_below x (cmp x x) refl)
  front-first x [] r w (inr h) = absurd h
  front-first x (y ∷ ys) r w (inr h) = upto t x y w (turned x y (cmp y x) refl r.0) (front-first y ys r.1 w h)

  moved : {us vs : List Value} (w : Value) → Permuted us vs → IsIn w us → IsIn w vs
  moved w nothing h = h
  moved w (onward u p) (inl e) = inl e
  moved w (onward u p) (inr h) = inr (moved w p h)
  moved w (turn u v us) (inl e) = inr (inl e)
  moved w (turn u v us) (inr (inl e)) = inl e
  moved w (turn u v us) (inr (inr h)) = inr (inr h)
  moved w (joined p q) h = moved w q (moved w p h)

  empty_is : (vs : List Value) → length vs ≡ 0 → vs ≡ []
  empty_is [] e = refl
  empty_is (v ∷ vs) e = absurd (omega arith)

  chosen : (vs ss : List Value) → Permuted vs ss → rises cmp ss → vs ≢ [] →
      (v : Value) × (first_or_null ss ≡ v) × IsIn v vs × ((w : Value) → IsIn w vs → is_gt (cmp v w) ≡ false)
  chosen vs [] p r some = absurd (some (empty_is vs (permuted-length p)))
  chosen vs (v ∷ ss) p r some = (v, refl, moved v (permuted-sym p) (inl refl), λ w h. front-first v ss r w (moved w p h))

  first-of : (vs : List Value) → vs ≢ [] →
      (v : Value) × (first_or_null (sorted cmp vs) ≡ v) × IsIn v vs × ((w : Value) → IsIn w vs → is_gt (cmp v w) ≡ false)
  first-of vs some = chosen vs (sorted cmp vs) (permuted-sorted cmp vs) (rises-sorted cmp t vs) some

pub turned_total : IsTotalOrder (λ a b. ordering_reverse (value_cmp a b))
turned_total =
    let e : flip_args value_cmp ≡ (λ a b. ordering_reverse (value_cmp a b)) = λ i a b. value_cmp_total.antisymm b a i in
    subst IsTotalOrder e (back_total value_cmp_total)

pub min-least : (vs : List Value) → present vs ≢ [] → (v : Value) × IsLeast v (present vs) × (aggregated Min vs ≡ Good v)
min-least vs some =
    let found = first-of value_cmp value_cmp_total (present vs) some in
    (found.0, record { among = contains-from_in found.0 (present vs) found.2; first = λ w h. found.3 w (in-from_contains w (present vs) h) }, ap Good found.1)

turned_back : (a : Ordering) → is_gt (ordering_reverse a) ≡ false → is_lt a ≡ false
turned_back Less e = e
turned_back Equal e = refl
turned_back Greater e = refl

pub max-greatest : (vs : List Value) → present vs ≢ [] → (v : Value) × IsGreatest v (present vs) × (aggregated Max vs ≡ Good v)
max-greatest vs some =
    let found = first-of (λ a b. ordering_reverse (value_cmp a b)) turned_total (present vs) some in (
      found.0,
      record {
        among = contains-from_in found.0 (present vs) found.2;
        last = λ w h. turned_back (value_cmp found.0 w) (found.3 w (in-from_contains w (present vs) h));
      },
      ap Good found.1,
    )

pub none-min : (vs : List Value) → present vs ≡ [] → aggregated Min vs ≡ Good Null
none-min vs e = ap (λ ws. Good (first_or_null (sorted value_cmp ws))) e

pub none-max : (vs : List Value) → present vs ≡ [] → aggregated Max vs ≡ Good Null
none-max vs e = ap (λ ws. Good (first_or_null (sorted (λ a b. ordering_reverse (value_cmp a b)) ws))) e
