-- Sums, counts and distinct values, one value after another.
use Rattle.std.proofs.Common.{◌≡◌, ◌≢◌, ℕ, ◌+◌, ◌<◌, get_or, take, ℤ, pos, negsuc, FitsSigned, w64, ◌≤◌, ◌+ℤ◌, Bool, true, false, cond, not, ◌||◌, List, [], ◌∷◌, ◌++◌, map, length, Bor, refl, sym, ap, ◌∙◌, arith, append-nil}
use Rattle.std.proofs.lemmas.Bool.Decides.{nat_tests}
use Rattle.std.proofs.lemmas.Int.{ints}
use Rattle.std.proofs.lemmas.List.{map-append, take_all}
use Rattle.std.proofs.lemmas.List.Elements.{filter-append}
use Rattle.std.specs.Cmp.{decided}
use Rattle.std.specs.List.{list_any}
use Rattle.indexmap.specs.IndexSet.{insert_key}
use Rattle.null_logic.specs.Arithmetic.{fits_64}
use Rattle.null_logic.specs.declared.run_fault.RunFault.TheVariants.{OutOfRange}
use Rattle.perm_values.specs.ValueLaws.{value_decides}
use Rattle.perm_values.specs.Values.{same_value, is_null}
use Rattle.perm_values.specs.declared.value.Value.{Value}
use Rattle.perm_values.specs.declared.value.Value.TheVariants.{Null, Integer, Text, Boolean}
use Rattle.perm_values.proofs.Lists.{taken}
use Rattle.bag_algebra.specs.Means.{present, number_of, once_each, total, sum_of}
use Rattle.bag_algebra.specs.Outcome.{Good, Bad, only}
use Rattle.row_values.proofs.Once.{once_each_more, any-once_each}

-- ---- one more value

pub present-more : (vs : List Value) (v : Value) → present (vs ++ v ∷ []) ≡ present vs ++ cond (is_null v) [] (v ∷ [])
present-more vs v = filter-append (λ w. not (is_null w)) vs (v ∷ []) ∙ ap (λ l. present vs ++ l) (turned (is_null v))
  where
    turned : (b : Bool) → cond (not b) (v ∷ []) [] ≡ cond b [] (v ∷ [])
    turned true = refl
    turned false = refl

plus : (a b c : ℤ) → a +ℤ (b +ℤ c) ≡ (a +ℤ b) +ℤ c
plus a b c = omega (arith, ints)

pub total-more : (vs : List Value) (v : Value) → total (vs ++ v ∷ []) ≡ total vs +ℤ number_of v
total-more [] v = omega (arith, ints)
total-more (w ∷ vs) v = ap (λ z. number_of w +ℤ z) (total-more vs v) ∙ plus (number_of w) (total vs) (number_of v)

pub total-present : (vs : List Value) → total (present vs) ≡ total vs
total-present [] = refl
total-present (Null ∷ vs) = let e = total-present vs in omega (arith, ints)
total-present (Integer a ∷ vs) = ap (λ z. a +ℤ z) (total-present vs)
total-present (Text a ∷ vs) = ap (λ z. pos 0 +ℤ z) (total-present vs)
total-present (Boolean a ∷ vs) = ap (λ z. pos 0 +ℤ z) (total-present vs)

pub total-taken : (vs : List Value) (i : ℕ) (v : Value) → i < length vs → v ≡ get_or vs i v → total (take (i + 1) vs) ≡ total (take i vs) +ℤ number_of v
total-taken vs i v low is = ap total (taken vs i v low is) ∙ total-more (take i vs) v

-- ---- the sum of the values that are present

pub sum-some : (vs : List Value) → length (present vs) ≢ 0 → sum_of (present vs) ≡ cond (fits_64 (total vs)) (Good (Integer (total vs))) (Bad (only OutOfRange))
sum-some vs some = by (present vs) some ∙ ap (λ z. cond (fits_64 z) (Good (Integer z)) (Bad (only OutOfRange))) (total-present vs)
  where
    by : (ws : List Value) → length ws ≢ 0 → sum_of ws ≡ cond (fits_64 (total ws)) (Good (Integer (total ws))) (Bad (only OutOfRange))
    by [] some = absurd (some refl)
    by (w ∷ ws) some = refl

pub sum-fits : (vs : List Value) (z : ℤ) → length (present vs) ≢ 0 → z ≡ total vs → fits_64 z ≡ true → sum_of (present vs) ≡ Good (Integer z)
sum-fits vs z some e fits =
    sum-some vs some ∙ ap (λ y. cond (fits_64 y) (Good (Integer y)) (Bad (only OutOfRange))) (sym e) ∙ ap (λ b. cond b (Good (Integer z)) (Bad (only OutOfRange))) fits

pub sum-passes : (vs : List Value) (z : ℤ) → length (present vs) ≢ 0 → z ≡ total vs → fits_64 z ≡ false → sum_of (present vs) ≡ Bad (only OutOfRange)
sum-passes vs z some e fits =
    sum-some vs some ∙ ap (λ y. cond (fits_64 y) (Good (Integer y)) (Bad (only OutOfRange))) (sym e) ∙ ap (λ b. cond b (Good (Integer z)) (Bad (only OutOfRange))) fits

-- ---- the 64 bits of an exact sum

pub fits-in : (z : ℤ) → FitsSigned w64 z → fits_64 z ≡ true
fits-in (pos n) h = grind (arith, nat_tests)
fits-in (negsuc n) h = grind (arith, nat_tests)

pub passes : (z : ℤ) → ¬ (FitsSigned w64 z) → fits_64 z ≡ false
passes (pos n) h = grind (arith, nat_tests)
passes (negsuc n) h = grind (arith, nat_tests)

pub total-whole : (vs : List Value) (i : ℕ) → length vs ≤ i → total (take i vs) ≡ total vs
total-whole vs i h = ap total (take_all i vs h)

-- ---- distinct values

abbrev pub same_ref : Bor Value → Bor Value → Bool
same_ref r s = same_value r.now s.now

-- the keys are the values, each once
abbrev pub Held : List (Bor Value) → List Value → Type 0
Held keys vs = map (λ (r : Bor Value). r.now) keys ≡ once_each vs

pub held_more : (keys : List (Bor Value)) (vs : List Value) (r : Bor Value) → Held keys vs → Held (insert_key same_ref keys r) (vs ++ r.now ∷ [])
held_more keys vs r h = by (list_any (same_ref r) keys) refl ∙ sym (once_each_more vs r.now)
  where
    turned : (ks : List (Bor Value)) → list_any (same_ref r) ks ≡ list_any (λ w. same_value w r.now) (map (λ (s : Bor Value). s.now) ks)
    turned [] = refl
    turned (k ∷ ks) = λ i. (decided same_value value_decides).symm r.now k.now i || turned ks i

    seen : list_any (same_ref r) keys ≡ list_any (λ w. same_value w r.now) vs
    seen = turned keys ∙ ap (list_any (λ w. same_value w r.now)) h ∙ any-once_each vs r.now

    by : (b : Bool) → list_any (same_ref r) keys ≡ b →
        map (λ (s : Bor Value). s.now) (cond b keys (keys ++ r ∷ [])) ≡ cond (list_any (λ w. same_value w r.now) vs) (once_each vs) (once_each vs ++ r.now ∷ [])
    by true e = h ∙ ap (λ b. cond b (once_each vs) (once_each vs ++ r.now ∷ [])) (sym e ∙ seen)
    by false e = map-append (λ (s : Bor Value). s.now) keys (r ∷ []) ∙ ap (λ l. l ++ r.now ∷ []) h ∙ ap (λ b. cond b (once_each vs) (once_each vs ++ r.now ∷ [])) (sym e ∙ seen)

-- a value that isn't NULL is put in, NULL isn't
pub held_step : (keys : List (Bor Value)) (vs : List Value) (r : Bor Value) → Held keys (present vs) → is_null r.now ≡ false → Held (insert_key same_ref keys r) (present (vs ++ r.now ∷ []))
held_step keys vs r h some =
    held_more keys (present vs) r h ∙ ap once_each (sym (present-more vs r.now ∙ ap (λ b. present vs ++ cond b [] (r.now ∷ [])) some))

pub held_same : (keys : List (Bor Value)) (vs : List Value) (v : Value) → Held keys (present vs) → is_null v ≡ true → Held keys (present (vs ++ v ∷ []))
held_same keys vs v h none = h ∙ ap once_each (sym (present-more vs v ∙ ap (λ b. present vs ++ cond b [] (v ∷ [])) none ∙ append-nil (present vs)))
