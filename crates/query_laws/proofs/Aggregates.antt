-- The aggregates of a class: their values, and when one is out of range.
use Rattle.std.proofs.Common.{◌≡◌, ℕ, zero, suc, ◌+◌, ℤ, Bool, true, false, cond, Option, Some, List, [], ◌∷◌, map, length, refl, sym, ap, subst, ◌∙◌, arith, true≢false, add-zero, add-suc, suc-add, inl, inr}
use Rattle.std.proofs.lemmas.Option.{none-some, same_Some}
use Rattle.std.specs.List.{slice_get}
use Rattle.null_logic.specs.Arithmetic.{fits_64}
use Rattle.null_logic.specs.declared.run_fault.RunFault.{RunFault}
use Rattle.null_logic.specs.declared.run_fault.RunFault.TheVariants.{DivideByZero, OutOfRange, SeveralRows}
use Rattle.perm_values.specs.Rows.{value_at}
use Rattle.perm_values.specs.declared.value.Value.{Value}
use Rattle.perm_values.specs.declared.value.Value.TheVariants.{Integer}
use Rattle.bag_algebra.specs.Bags.{Row}
use Rattle.bag_algebra.specs.Means.{present, total, sum_of, aggregated, aggregates_of}
use Rattle.bag_algebra.specs.Outcome.{Outcome, Good, Bad, both, only}
use Rattle.bag_algebra.specs.declared.query.AggFn.{AggFn}
use Rattle.bag_algebra.specs.declared.query.AggFn.TheVariants.{CountRows, Count, CountDistinct, Sum, Min, Max}
use Rattle.query_laws.specs.Faults.{IsGood, Meets}
use Rattle.query_laws.proofs.Outcomes.{both-good, both-meets, meets-both}
use Rattle.bag_algebra.proofs.Outcomes.{both-is}

pub good-meets : {X : Type 0} (o : Outcome X) (fault : RunFault) → IsGood o → Meets o fault → ⊥
good-meets (Good x) fault g m = m
good-meets (Bad faults) fault g m = g

-- ---- one aggregate

-- the function is a sum, and the exact one doesn't fit
abbrev pub Overflows : Option AggFn → List Value → Type 0
Overflows function vs = (function ≡ Some Sum) × (fits_64 (total (present vs)) ≡ false)

only-range : (fault : RunFault) → Meets {X = Value} (Bad (only OutOfRange)) fault → fault ≡ OutOfRange
only-range DivideByZero m = absurd (true≢false (sym m))
only-range OutOfRange m = refl
only-range SeveralRows m = absurd (true≢false (sym m))

by_range : (b : Bool) (z : ℤ) (fault : RunFault) → Meets (cond b (Good (Integer z)) (Bad (only OutOfRange))) fault → (fault ≡ OutOfRange) × (b ≡ false)
by_range true z fault m = absurd m
by_range false z fault m = (only-range fault m, refl)

sum-meets : (vs : List Value) (fault : RunFault) → Meets (sum_of vs) fault → (fault ≡ OutOfRange) × (fits_64 (total vs) ≡ false)
sum-meets [] fault m = absurd m
sum-meets (v ∷ vs) fault m = by_range (fits_64 (total (v ∷ vs))) (total (v ∷ vs)) fault m

out_of_range : (b : Bool) (z : ℤ) → b ≡ false → Meets (cond b (Good (Integer z)) (Bad (only OutOfRange))) OutOfRange
out_of_range true z e = absurd (true≢false e)
out_of_range false z e = refl

sum-overflows : (vs : List Value) → fits_64 (total vs) ≡ false → Meets (sum_of vs) OutOfRange
sum-overflows [] e = absurd (true≢false e)
sum-overflows (v ∷ vs) e = out_of_range (fits_64 (total (v ∷ vs))) (total (v ∷ vs)) e

sum-good : (vs : List Value) → ¬ (fits_64 (total vs) ≡ false) → IsGood (sum_of vs)
sum-good [] h = tt
sum-good (v ∷ vs) h = by (fits_64 (total (v ∷ vs))) refl where
  by : (b : Bool) → fits_64 (total (v ∷ vs)) ≡ b → IsGood (cond b (Good (Integer (total (v ∷ vs)))) (Bad (only OutOfRange)))
  by true e = tt
  by false e = absurd (h e)

aggregated-good : (function : AggFn) (vs : List Value) → ¬ (Overflows (Some function) vs) → IsGood (aggregated function vs)
aggregated-good CountRows vs h = tt
aggregated-good Count vs h = tt
aggregated-good CountDistinct vs h = tt
aggregated-good Sum vs h = sum-good (present vs) (λ e. h (refl, e))
aggregated-good Min vs h = tt
aggregated-good Max vs h = tt

aggregated-meets : (function : AggFn) (vs : List Value) (fault : RunFault) → Meets (aggregated function vs) fault → (fault ≡ OutOfRange) × Overflows (Some function) vs
aggregated-meets CountRows vs fault m = absurd m
aggregated-meets Count vs fault m = absurd m
aggregated-meets CountDistinct vs fault m = absurd m
aggregated-meets Sum vs fault m = let found = sum-meets (present vs) fault m in (found.0, (refl, found.1))
aggregated-meets Min vs fault m = absurd m
aggregated-meets Max vs fault m = absurd m

overflows-meets : (function : AggFn) (vs : List Value) → Overflows (Some function) vs → Meets (aggregated function vs) OutOfRange
overflows-meets function vs h =
    subst (λ f. Meets (aggregated f vs) OutOfRange) (sym (same_Some function Sum h.0)) (sum-overflows (present vs) h.1)

-- ---- the aggregates of a class, one after another: the nth is over the nth column

abbrev pub each_of : List AggFn → (ℕ → List Value) → Outcome Row
each_of [] column = Good []
each_of (function ∷ functions) column = both (λ v vs. v ∷ vs) (aggregated function (column 0)) (each_of functions (λ n. column (suc n)))

pub aggregates_of-is : (functions : List AggFn) (place : ℕ) (arguments : List Row) (column : ℕ → List Value) →
    ((n : ℕ) → map (λ a. value_at a (place + n)) arguments ≡ column n) → aggregates_of functions place arguments ≡ each_of functions column
aggregates_of-is [] place arguments column e = refl
aggregates_of-is (function ∷ functions) place arguments column e =
    let here : map (λ a. value_at a place) arguments ≡ column 0 = ap (λ n. map (λ a. value_at a n) arguments) (sym (add-zero place)) ∙ e 0 in
    let further : aggregates_of functions (suc place) arguments ≡ each_of functions (λ n. column (suc n)) =
    aggregates_of-is functions (suc place) arguments (λ n. column (suc n))
    (λ n. ap (λ m. map (λ a. value_at a m) arguments) (suc-add place n ∙ sym (add-suc place n)) ∙ e (suc n)) in
    λ i. both (λ v vs. v ∷ vs) (aggregated function (here i)) (further i)

abbrev pub SumAt : List AggFn → (ℕ → List Value) → ℕ → Type 0
SumAt functions column place = Overflows (slice_get functions place) (column place)

pub each_of-good : (functions : List AggFn) (column : ℕ → List Value) → ((place : ℕ) → ¬ (SumAt functions column place)) → IsGood (each_of functions column)
each_of-good [] column h = tt
each_of-good (function ∷ functions) column h =
    both-good (λ v vs. v ∷ vs) (aggregated function (column 0)) (each_of functions (λ n. column (suc n)))
    (aggregated-good function (column 0) (h 0)) (each_of-good functions (λ n. column (suc n)) (λ n. h (suc n)))

pub each_of-meets : (functions : List AggFn) (column : ℕ → List Value) (fault : RunFault) → Meets (each_of functions column) fault →
    (fault ≡ OutOfRange) × ((place : ℕ) × SumAt functions column place)
each_of-meets [] column fault m = absurd m
each_of-meets (function ∷ functions) column fault m =
    elim (meets-both (λ v vs. v ∷ vs) (aggregated function (column 0)) (each_of functions (λ n. column (suc n))) fault m) [
      | inl here ↦ let found = aggregated-meets function (column 0) fault here in (found.0, (0, found.1))
      | inr there ↦ let found = each_of-meets functions (λ n. column (suc n)) fault there in (found.0, (suc found.1.0, found.1.1))
    ]

pub meets-each_of : (functions : List AggFn) (column : ℕ → List Value) (place : ℕ) → SumAt functions column place → Meets (each_of functions column) OutOfRange
meets-each_of [] column place h = absurd (none-some Sum h.0)
meets-each_of (function ∷ functions) column zero h =
    both-meets (λ v vs. v ∷ vs) (aggregated function (column 0)) (each_of functions (λ n. column (suc n))) OutOfRange
    (inl (overflows-meets function (column 0) h))
meets-each_of (function ∷ functions) column (suc place) h =
    both-meets (λ v vs. v ∷ vs) (aggregated function (column 0)) (each_of functions (λ n. column (suc n))) OutOfRange
    (inr (meets-each_of functions (λ n. column (suc n)) place h))

-- ---- their values

-- each aggregate has its value in the row
pub record Gives (functions : List AggFn) (column : ℕ → List Value) (values : Row) : Type 0 where
  pub long : length values ≡ length functions
  pub each : (place : ℕ) (function : AggFn) → slice_get functions place ≡ Some function → aggregated function (column place) ≡ Good (value_at values place)

pub each_of-gives : (functions : List AggFn) (column : ℕ → List Value) (values : Row) → each_of functions column ≡ Good values → Gives functions column values
each_of-gives [] column values e = record {
  long = ap length (sym (same [] values e));
  each = λ place function h. absurd (none-some function h);
} where
  same : (x y : Row) → Good x ≡ Good y → x ≡ y
  same x y e = cc
each_of-gives (function ∷ functions) column values e =
    let parts = both-is (λ v vs. v ∷ vs) (aggregated function (column 0)) (each_of functions (λ n. column (suc n))) values e in
    subst (Gives (function ∷ functions) column) parts.4
    (more function functions column parts.0 parts.1 parts.2 (each_of-gives functions (λ n. column (suc n)) parts.1 parts.3))
  where
    more : (f : AggFn) (fs : List AggFn) (col : ℕ → List Value) (v : Value) (vs : Row) → aggregated f (col 0) ≡ Good v → Gives fs (λ n. col (suc n)) vs →
        Gives (f ∷ fs) col (v ∷ vs)
    more f fs col v vs here g = record {
      long = ap suc g.long;
      each = at;
    } where
      at : (place : ℕ) (function : AggFn) → slice_get (f ∷ fs) place ≡ Some function → aggregated function (col place) ≡ Good (value_at (v ∷ vs) place)
      at zero function h = ap (λ k. aggregated k (col 0)) (sym (same_Some f function h)) ∙ here
      at (suc place) function h = g.each place function h

pub gives-each_of : (functions : List AggFn) (column : ℕ → List Value) (values : Row) → Gives functions column values → each_of functions column ≡ Good values
gives-each_of [] column [] g = refl
gives-each_of [] column (v ∷ vs) g = absurd (let e : suc (length vs) ≡ 0 = g.long in omega arith)
gives-each_of (function ∷ functions) column [] g = absurd (let e : 0 ≡ suc (length functions) = g.long in omega arith)
gives-each_of (function ∷ functions) column (v ∷ vs) g =
    let here : aggregated function (column 0) ≡ Good v = g.each 0 function refl in
    let further : each_of functions (λ n. column (suc n)) ≡ Good vs =
    gives-each_of functions (λ n. column (suc n)) vs
    (record { long = let e : suc (length vs) ≡ suc (length functions) = g.long in omega arith; each = λ place f h. g.each (suc place) f h }) in
    λ i. both (λ w ws. w ∷ ws) (here i) (further i)
