-- The laws of sublinks and of what is evaluated on a row.
use Rattle.std.proofs.Common.{◌≡◌, ◌≢◌, inl, inr, ◌<◌, Bool, true, false, cond, ◌||◌, List, [], ◌∷◌, map, length, refl, ap, ◌∙◌, arith}
use Rattle.std.specs.List.{list_any}
use Rattle.null_logic.specs.Comparison.{compare_values}
use Rattle.null_logic.specs.Logic.{is_true, truth_not, value_of}
use Rattle.null_logic.specs.declared.compare.Compare.{Compare}
use Rattle.null_logic.specs.declared.run_fault.RunFault.TheVariants.{SeveralRows}
use Rattle.null_logic.specs.declared.truth.Truth.{Truth}
use Rattle.null_logic.specs.declared.truth.Truth.TheVariants.{True, False, Unknown}
use Rattle.perm_values.specs.Values.{is_null}
use Rattle.perm_values.specs.declared.value.Value.{Value}
use Rattle.perm_values.specs.declared.value.Value.TheVariants.{Null, Boolean}
use Rattle.bag_algebra.proofs.Members.{IsIn}
use Rattle.bag_algebra.specs.Bags.{Row, Bag}
use Rattle.bag_algebra.specs.Means.{cell, comparisons, sub_value}
use Rattle.bag_algebra.specs.Outcome.{Outcome, Good, Bad, each, only}
use Rattle.bag_algebra.specs.declared.query.SubKind.TheVariants.{Exists, Any, All, Scalar}
use Rattle.query_laws.specs.Evaluated.{IsEvaluated}
use Rattle.query_laws.specs.Holding.{InBag}
use Rattle.query_laws.proofs.Items.{each-at}
use Rattle.query_laws.proofs.Outcomes.{over-each, in_bag-in, in-in_bag}
use Rattle.std.proofs.lemmas.Bool.{or_from}
use Rattle.bag_algebra.proofs.MembersByIndex.{in-from_contains, contains-from_in}
use Rattle.bag_algebra.proofs.Outcomes.{each-long}
use Rattle.contribution.proofs.SetsOfNodes.{any_in}

pub each-evaluated : {X Y : Type 0} (f : X → Outcome Y) (xs : List X) → IsEvaluated f xs (each f xs)
each-evaluated f xs =
    let o = over-each f xs in
    record {
      good = (λ g x c. o.each_good g x (in-from_contains x xs c), λ g. o.is_good (λ x i. g x (contains-from_in x xs i)));
      faults = λ fault. (
        λ m. let found = o.met fault m in (found.0, contains-from_in found.0 xs found.1, found.2),
        λ found. o.meets fault found.0 (in-from_contains found.0 xs found.1) found.2,
      );
      long = λ ys e. each-long f xs ys e;
      values = λ ys e. each-at f xs ys e;
    }

-- ---- lists of comparisons

none-in : {X : Type 0} (test : X → Bool) (xs : List X) → ((x : X) → IsIn x xs → test x ≡ false) → list_any test xs ≡ false
none-in test [] h = refl
none-in test (x ∷ xs) h = or_from (test x) (list_any test xs) (h x (inl refl)) (none-in test xs (λ y i. h y (inr i)))

pub any-map : {X Y : Type 0} (test : Y → Bool) (f : X → Y) (xs : List X) → list_any test (map f xs) ≡ list_any (λ x. test (f x)) xs
any-map test f [] = refl
any-map test f (x ∷ xs) = ap (λ b. test (f x) || b) (any-map test f xs)

not_true : (t : Truth) → t ≢ True → is_true t ≡ false
not_true True h = absurd (h refl)
not_true False h = refl
not_true Unknown h = refl

not_false : (t : Truth) → t ≢ False → is_true (truth_not t) ≡ false
not_false True h = refl
not_false False h = absurd (h refl)
not_false Unknown h = refl

module _ (c : Compare) (x : Value) (bag : Bag) where
  abbrev compared : Row → Truth
  compared u = compare_values c x (cell u)

  -- some row passes the test, or none does
  passes : (test : Truth → Bool) (u : Row) → InBag u bag → test (compared u) ≡ true → list_any test (comparisons c x bag) ≡ true
  passes test u h e = any-map test compared bag ∙ any_in (λ v. test (compared v)) u bag (in_bag-in u bag h) e

  fails : (test : Truth → Bool) → ((v : Row) → InBag v bag → test (compared v) ≡ false) → list_any test (comparisons c x bag) ≡ false
  fails test h = any-map test compared bag ∙ none-in (λ v. test (compared v)) bag (λ v i. h v (in-in_bag v bag i))

  abbrev some_by : Bool → Bool → Truth
  some_by a b = cond a True (cond b Unknown False)

  abbrev all_by : Bool → Bool → Truth
  all_by a b = cond a False (cond b Unknown True)

  pub any-true : (u : Row) → InBag u bag → compared u ≡ True → sub_value (Any c) x bag ≡ Good (Boolean true)
  any-true u h e =
      ap (λ a. Good (value_of (some_by a (list_any (λ t. is_null (value_of t)) (comparisons c x bag))))) (passes is_true u h (ap is_true e))

  pub any-unknown : (u : Row) → InBag u bag → compared u ≡ Unknown → ((v : Row) → InBag v bag → compared v ≢ True) → sub_value (Any c) x bag ≡ Good Null
  any-unknown u h e none =
      λ i. Good (value_of (some_by (fails is_true (λ v k. not_true (compared v) (none v k)) i)
      (passes (λ t. is_null (value_of t)) u h (ap (λ t. is_null (value_of t)) e) i)))

  pub any-false : ((v : Row) → InBag v bag → compared v ≡ False) → sub_value (Any c) x bag ≡ Good (Boolean false)
  any-false all =
      λ i. Good (value_of (some_by (fails is_true (λ v k. ap is_true (all v k)) i)
      (fails (λ t. is_null (value_of t)) (λ v k. ap (λ t. is_null (value_of t)) (all v k)) i)))

  pub all-false : (u : Row) → InBag u bag → compared u ≡ False → sub_value (All c) x bag ≡ Good (Boolean false)
  all-false u h e =
      ap (λ a. Good (value_of (all_by a (list_any (λ t. is_null (value_of t)) (comparisons c x bag)))))
      (passes (λ t. is_true (truth_not t)) u h (ap (λ t. is_true (truth_not t)) e))

  pub all-unknown : (u : Row) → InBag u bag → compared u ≡ Unknown → ((v : Row) → InBag v bag → compared v ≢ False) → sub_value (All c) x bag ≡ Good Null
  all-unknown u h e none =
      λ i. Good (value_of (all_by (fails (λ t. is_true (truth_not t)) (λ v k. not_false (compared v) (none v k)) i)
      (passes (λ t. is_null (value_of t)) u h (ap (λ t. is_null (value_of t)) e) i)))

  pub all-true : ((v : Row) → InBag v bag → compared v ≡ True) → sub_value (All c) x bag ≡ Good (Boolean true)
  all-true all =
      λ i. Good (value_of (all_by (fails (λ t. is_true (truth_not t)) (λ v k. ap (λ t. is_true (truth_not t)) (all v k)) i)
      (fails (λ t. is_null (value_of t)) (λ v k. ap (λ t. is_null (value_of t)) (all v k)) i)))

-- ---- EXISTS and scalar sublinks

pub exists-some : (x : Value) (bag : Bag) (u : Row) → InBag u bag → sub_value Exists x bag ≡ Good (Boolean true)
exists-some x [] u h = absurd (omega arith)
exists-some x (v ∷ bag) u h = refl

pub exists-none : (x : Value) (bag : Bag) → ((u : Row) → ¬ (InBag u bag)) → sub_value Exists x bag ≡ Good (Boolean false)
exists-none x [] h = refl
exists-none x (v ∷ bag) h = absurd (h v (in-in_bag v (v ∷ bag) (inl refl)))

pub scalar-none : (x : Value) (bag : Bag) → length bag ≡ 0 → sub_value Scalar x bag ≡ Good Null
scalar-none x [] e = refl
scalar-none x (v ∷ bag) e = absurd (omega arith)

pub scalar-one : (x : Value) (bag : Bag) (u : Row) → length bag ≡ 1 → InBag u bag → sub_value Scalar x bag ≡ Good (cell u)
scalar-one x [] u e h = absurd (omega arith)
scalar-one x (v ∷ []) u e h = elim (in_bag-in u (v ∷ []) h) [ inl same ↦ ap (λ w. Good (cell w)) same | inr none ↦ absurd none ]
scalar-one x (v ∷ w ∷ bag) u e h = absurd (omega arith)

pub scalar-several : (x : Value) (bag : Bag) → 1 < length bag → sub_value Scalar x bag ≡ Bad (only SeveralRows)
scalar-several x [] h = absurd (omega arith)
scalar-several x (v ∷ []) h = absurd (omega arith)
scalar-several x (v ∷ w ∷ bag) h = refl
