-- Answers of sublinks that are taken by their numbers: where each is taken at least once, they are those answers, or the same faults.
use Rattle.std.proofs.Common.{◌≡◌, ℕ, zero, suc, ◌<◌, Bool, true, false, cond, ◌||◌, List, [], ◌∷◌, ◌++◌, length, map, refl, sym, ap, ◌∙◌, true≢false, arith}
use Rattle.std.specs.Prelude.{nat_eq, slice_index_or}
use Rattle.std.specs.List.{list_any}
use Rattle.std.proofs.lemmas.Bool.Decides.{nat_tests}
use Rattle.null_logic.specs.declared.run_fault.RunFault.{RunFault}
use Rattle.null_logic.specs.declared.run_fault.RunFault.TheVariants.{DivideByZero, OutOfRange, SeveralRows}
use Rattle.perm_values.specs.Rows.{value_at}
use Rattle.perm_values.specs.declared.value.Value.{Value}
use Rattle.perm_values.specs.declared.value.Value.TheVariants.{Null}
use Rattle.bag_algebra.specs.Means.{good_value}
use Rattle.bag_algebra.specs.Outcome.{Faults, Outcome, Good, Bad, both, each, has, mapped}
use Rattle.bag_algebra.proofs.Truths.{or_false, or_true}
use Rattle.query_laws.proofs.Choice.{same_flag}
use Rattle.sql_printer.specs.rows.Carried.{Answered}
use Rattle.sql_printer.proofs.rows.AskedNumbers.{asks, Below}

abbrev pub Answers : Type 0
Answers = List (Outcome Value)

-- the answer of a number
abbrev pub answer_at : Answers → ℕ → Outcome Value
answer_at os number = slice_index_or os number (Good Null)

-- all of them are looked at
abbrev pub looked_at : Answers → Outcome (List Value)
looked_at os = each (λ o. o) os

-- ---- tests of what is taken

module _ (test : Outcome Value → Bool) where
  any-at : (os : Answers) (number : ℕ) → number < length os → test (answer_at os number) ≡ true → list_any test os ≡ true
  any-at [] number within e = absurd (omega (arith, within))
  any-at (o ∷ os) zero within e = ap (λ b. b || list_any test os) e
  any-at (o ∷ os) (suc number) within e = ap (λ b. test o || b) (any-at os number (omega (arith, within)) e) ∙ or_true (test o)

  abbrev Somewhere : Answers → Type 0
  Somewhere os = (number : ℕ) × (number < length os) × (test (answer_at os number) ≡ true)

  here-or_there : (b : Bool) (o : Outcome Value) (os : Answers) → test o ≡ b → (b || list_any test os) ≡ true → (list_any test os ≡ true → Somewhere os)
      → Somewhere (o ∷ os)
  here-or_there true o os here e there = (0, omega arith, here)
  here-or_there false o os here e there = let found = there e in let within = found.1 in (suc found.0, omega (arith, within), found.2)

  any-where : (os : Answers) → list_any test os ≡ true → Somewhere os
  any-where [] e = absurd (true≢false (sym e))
  any-where (o ∷ os) e = here-or_there (test o) o os refl e (any-where os)

  module _ (os : Answers) where
    first-or_more : (b : Bool) (number : ℕ) (numbers : List ℕ) → test (answer_at os number) ≡ b → number < length os
        → (b || list_any test (map (answer_at os) numbers)) ≡ true → (list_any test (map (answer_at os) numbers) ≡ true → list_any test os ≡ true)
        → list_any test os ≡ true
    first-or_more true number numbers here within e more = any-at os number within here
    first-or_more false number numbers here within e more = more e

    from-taken : (numbers : List ℕ) → Below (length os) numbers → list_any test (map (answer_at os) numbers) ≡ true → list_any test os ≡ true
    from-taken [] below e = absurd (true≢false (sym e))
    from-taken (number ∷ numbers) below e =
        first-or_more (test (answer_at os number)) number numbers refl below.0 e (from-taken numbers below.1)

    taken-or_later : (b : Bool) (other : ℕ) (numbers : List ℕ) (number : ℕ) → nat_eq other number ≡ b → (b || asks numbers number) ≡ true
        → test (answer_at os number) ≡ true → (asks numbers number ≡ true → list_any test (map (answer_at os) numbers) ≡ true)
        → list_any test (map (answer_at os) (other ∷ numbers)) ≡ true
    taken-or_later true other numbers number here e holds later =
        let same : other ≡ number = grind (arith, nat_tests, here) in
        ap (λ b. b || list_any test (map (answer_at os) numbers)) (ap (λ k. test (answer_at os k)) same ∙ holds)
    taken-or_later false other numbers number here e holds later =
        ap (λ b. test (answer_at os other) || b) (later e) ∙ or_true (test (answer_at os other))

    to-taken : (numbers : List ℕ) (number : ℕ) → asks numbers number ≡ true → test (answer_at os number) ≡ true
        → list_any test (map (answer_at os) numbers) ≡ true
    to-taken [] number e holds = absurd (true≢false (sym e))
    to-taken (other ∷ numbers) number e holds =
        taken-or_later (nat_eq other number) other numbers number refl e holds (λ later. to-taken numbers number later holds)

    taken-any : (numbers : List ℕ) → Below (length os) numbers → ((number : ℕ) → number < length os → asks numbers number ≡ true)
        → list_any test (map (answer_at os) numbers) ≡ list_any test os
    taken-any numbers below all = same_flag (list_any test (map (answer_at os) numbers)) (list_any test os) (from-taken numbers below)
        (λ e. let found = any-where os e in to-taken numbers found.0 (all found.0 found.1) found.2)

-- ---- outcomes

abbrev is_bad : Outcome Value → Bool
is_bad (Good v) = false
is_bad (Bad f) = true

abbrev meets : RunFault → Outcome Value → Bool
meets fault (Good v) = false
meets fault (Bad f) = has f fault

abbrev faults_in : Answers → Faults
faults_in os = record {
  divides = list_any (meets DivideByZero) os;
  range = list_any (meets OutOfRange) os;
  several = list_any (meets SeveralRows) os;
}

-- where none is bad none meets a fault
none_met : (fault : RunFault) (os : Answers) → list_any is_bad os ≡ false → list_any (meets fault) os ≡ false
none_met fault [] e = refl
none_met fault (Good v ∷ os) e = none_met fault os e
none_met fault (Bad f ∷ os) e = absurd (true≢false e)

good-first : (b : Bool) (v : Value) (f : Faults) (vs : List Value) →
    both (λ x xs. x ∷ xs) (Good v) (cond b (Bad f) (Good vs)) ≡ cond b (Bad f) (Good (v ∷ vs))
good-first true v f vs = refl
good-first false v f vs = refl

bad-first : (b : Bool) (f : Faults) (os : Answers) (vs : List Value) → list_any is_bad os ≡ b →
    both (λ (x : Value) xs. x ∷ xs) (Bad f) (cond b (Bad (faults_in os)) (Good vs)) ≡ Bad (faults_in (Bad f ∷ os))
bad-first true f os vs e = refl
bad-first false f os vs e = λ i. Bad (record {
  divides = (sym (or_false f.divides) ∙ ap (λ b. f.divides || b) (sym (none_met DivideByZero os e))) i;
  range = (sym (or_false f.range) ∙ ap (λ b. f.range || b) (sym (none_met OutOfRange os e))) i;
  several = (sym (or_false f.several) ∙ ap (λ b. f.several || b) (sym (none_met SeveralRows os e))) i;
})

looked_at-is : (os : Answers) → looked_at os ≡ cond (list_any is_bad os) (Bad (faults_in os)) (Good (map good_value os))
looked_at-is [] = refl
looked_at-is (Good v ∷ os) =
    ap (both (λ x xs. x ∷ xs) (Good v)) (looked_at-is os) ∙ good-first (list_any is_bad os) v (faults_in os) (map good_value os)
looked_at-is (Bad f ∷ os) =
    ap (both (λ x xs. x ∷ xs) (Bad f)) (looked_at-is os) ∙ bad-first (list_any is_bad os) f os (map good_value os) refl

good-at : (os : Answers) (number : ℕ) → good_value (answer_at os number) ≡ value_at (map good_value os) number
good-at [] number = refl
good-at (o ∷ os) zero = refl
good-at (o ∷ os) (suc number) = good-at os number

goods-at : (os : Answers) (numbers : List ℕ) → map good_value (map (answer_at os) numbers) ≡ map (value_at (map good_value os)) numbers
goods-at os [] = refl
goods-at os (number ∷ numbers) = λ i. good-at os number i ∷ goods-at os numbers i

mapped-cond : (h : List Value → List Value) (b : Bool) (f : Faults) (vs : List Value) →
    mapped h (cond b (Bad f) (Good vs)) ≡ cond b (Bad f) (Good (h vs))
mapped-cond h true f vs = refl
mapped-cond h false f vs = refl

-- each is taken, some perhaps more than once
pub taken-answers : (os : Answers) (numbers : List ℕ) → Below (length os) numbers → ((number : ℕ) → number < length os → asks numbers number ≡ true)
    → looked_at (map (answer_at os) numbers) ≡ mapped (λ vs. map (value_at vs) numbers) (looked_at os)
taken-answers os numbers below all =
    let taken = map (answer_at os) numbers in
    looked_at-is taken
    ∙ (λ i. cond (taken-any is_bad os numbers below all i)
    (Bad (record {
      divides = taken-any (meets DivideByZero) os numbers below all i;
      range = taken-any (meets OutOfRange) os numbers below all i;
      several = taken-any (meets SeveralRows) os numbers below all i;
    })) (Good (goods-at os numbers i)))
    ∙ sym (ap (mapped (λ vs. map (value_at vs) numbers)) (looked_at-is os)
    ∙ mapped-cond (λ vs. map (value_at vs) numbers) (list_any is_bad os) (faults_in os) (map good_value os))

-- ---- where they are found

answered-behind : (v : Value) (read given : List Value) (n : ℕ) (numbers : List ℕ) → Answered read given n numbers
    → Answered (v ∷ read) given (suc n) numbers
answered-behind v read given n [] a = tt
answered-behind v read given n (number ∷ numbers) a = (a.0, answered-behind v read given (suc n) numbers a.1)

answered-own : (given : List Value) (numbers : List ℕ) → Answered (map (value_at given) numbers) given 0 numbers
answered-own given [] = tt
answered-own given (number ∷ numbers) =
    (refl, answered-behind (value_at given number) (map (value_at given) numbers) given 0 numbers (answered-own given numbers))

-- behind those that aren't used
pub answered-taken : (given : List Value) (first numbers : List ℕ) → Answered (map (value_at given) (first ++ numbers)) given (length first) numbers
answered-taken given [] numbers = answered-own given numbers
answered-taken given (number ∷ first) numbers =
    answered-behind (value_at given number) (map (value_at given) (first ++ numbers)) given (length first) numbers (answered-taken given first numbers)
