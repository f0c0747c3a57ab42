-- What the test that columns of two rows are the same is on a row, and that it is a truth without faults.
use Rattle.std.proofs.Common.{◌≡◌, ℕ, zero, suc, ◌≤◌, ◌<◌, Bool, true, false, ◌&&◌, List, [], ◌∷◌, ◌++◌, length, Some, refl, sym, ap, ◌∙◌, subst, arith, take}
use Rattle.std.specs.Prelude.{slice_get, slice_index_or}
use Rattle.null_logic.specs.Logic.{truth_and, truth_of, value_of}
use Rattle.null_logic.specs.declared.operator.Operator.TheVariants.{And}
use Rattle.perm_values.specs.Rows.{picked, same_row, value_at, PlacesWithin}
use Rattle.perm_values.specs.Values.{same_value}
use Rattle.perm_values.specs.declared.kind.Kind.{Kind}
use Rattle.perm_values.specs.declared.kind.Kind.TheVariants as kind
use Rattle.perm_values.specs.declared.value.Value.{Value}
use Rattle.perm_values.specs.declared.value.Value.TheVariants.{Boolean}
use Rattle.bag_algebra.specs.Bags.{Row}
use Rattle.bag_algebra.specs.built.Openings.{Same-is, value-Op, value-Same, row_of_parts}
use Rattle.bag_algebra.specs.built.FaultFree.{faultless-Op, faultless-Same, all_parts_faultless}
use Rattle.bag_algebra.specs.Children.{part_values}
use Rattle.bag_algebra.specs.Expressions.{value, all_true, operate, row_at}
use Rattle.bag_algebra.specs.FaultFree.{faultless}
use Rattle.bag_algebra.specs.Kinds.{kind_in, kinds_in}
use Rattle.bag_algebra.specs.Outcome.{Good, and_then, both}
use Rattle.bag_algebra.specs.WellFormed.{HasKind, PartsHave, kind_at_place}
use Rattle.bag_algebra.specs.declared.expr.Expr.{Expr}
use Rattle.bag_algebra.specs.declared.expr.Expr.TheVariants.{Col}
use Rattle.contribution.proofs.ColumnQueries.{all-rest, kind_there}
use Rattle.contribution.proofs.PartForms.{no_parts-have, more_parts-have}
use Rattle.contribution.specs.Conjunctions.{all_hold, same_test, same_tests}
use Rattle.bag_algebra.specs.built.Forms.{number_of_parts-built}
use Rattle.bag_algebra.proofs.Truths.{and_true}

-- ---- one more test

pub same_tests-next : (level : ℕ) (theirs own : List ℕ) (at : ℕ) → length theirs ≡ length own → at < length theirs →
    same_tests level (take (suc at) theirs) (take (suc at) own)
    ≡ same_tests level (take at theirs) (take at own) ++ same_test level (slice_index_or theirs at 0) (slice_index_or own at 0) ∷ []
same_tests-next level [] own at e within = absurd (omega (arith, within))
same_tests-next level (t ∷ theirs) [] at e within = absurd (omega (arith, e))
same_tests-next level (t ∷ theirs) (o ∷ own) zero e within = refl
same_tests-next level (t ∷ theirs) (o ∷ own) (suc at) e within =
    ap (λ tests. same_test level t o ∷ tests) (same_tests-next level theirs own at (omega (arith, e)) (omega (arith, within)))

-- ---- values

truths-and : (a b : Bool) → truth_and (truth_of (Boolean a)) (truth_of (Boolean b)) ≡ truth_of (Boolean (a && b))
truths-and true true = refl
truths-and true false = refl
truths-and false true = refl
truths-and false false = refl

truth-value : (b : Bool) → value_of (truth_of (Boolean b)) ≡ Boolean b
truth-value true = refl
truth-value false = refl

module _ (u : Row) (env : List Row) (subs : List Value) (level : ℕ) where
  abbrev other : Row
  other = row_at (u ∷ env) level

  abbrev is_same : ℕ → ℕ → Bool
  is_same theirs own = same_value (value_at other theirs) (value_at u own)

  one_value : (theirs own : ℕ) → value (same_test level theirs own) u env subs ≡ Good (Boolean (is_same theirs own))
  one_value theirs own = value-Same u env subs (Col level theirs) (Col 0 own)

  abbrev answers : List ℕ → List ℕ → List Value
  answers [] own = []
  answers (t ∷ theirs) [] = []
  answers (t ∷ theirs) (o ∷ own) = Boolean (is_same t o) ∷ answers theirs own

  tests_values : (theirs own : List ℕ) → part_values (same_tests level theirs own) u env subs ≡ Good (answers theirs own)
  tests_values [] own = refl
  tests_values (t ∷ theirs) [] = refl
  tests_values (t ∷ theirs) (o ∷ own) = λ i. both (λ v vs. v ∷ vs) (one_value t o i) (tests_values theirs own i)

  all_answers : (theirs own : List ℕ) → length theirs ≡ length own →
      all_true (answers theirs own) ≡ truth_of (Boolean (same_row (picked theirs other) (picked own u)))
  all_answers [] [] e = refl
  all_answers [] (o ∷ own) e = absurd (omega (arith, e))
  all_answers (t ∷ theirs) [] e = absurd (omega (arith, e))
  all_answers (t ∷ theirs) (o ∷ own) e =
      ap (truth_and (truth_of (Boolean (is_same t o)))) (all_answers theirs own (omega (arith, e)))
      ∙ truths-and (is_same t o) (same_row (picked theirs other) (picked own u))

  pub tests-value : (theirs own : List ℕ) → length theirs ≡ length own →
      value (all_hold (same_tests level theirs own)) u env subs ≡ Good (Boolean (same_row (picked theirs other) (picked own u)))
  tests-value [] [] e = refl
  tests-value [] (o ∷ own) e = absurd (omega (arith, e))
  tests-value (t ∷ theirs) [] e = absurd (omega (arith, e))
  tests-value (t ∷ []) (o ∷ []) e = one_value t o ∙ ap (λ b. Good (Boolean b)) (sym (and_true (is_same t o)))
  tests-value (t ∷ []) (o ∷ p ∷ own) e = absurd (omega (arith, e))
  tests-value (t ∷ s ∷ theirs) (o ∷ []) e = absurd (omega (arith, e))
  tests-value (t ∷ s ∷ theirs) (o ∷ p ∷ own) e =
      value-Op u env subs And (same_tests level (t ∷ s ∷ theirs) (o ∷ p ∷ own))
      ∙ ap (λ vs. and_then vs (operate And)) (tests_values (t ∷ s ∷ theirs) (o ∷ p ∷ own))
      ∙ ap (λ truth. Good (value_of truth)) (all_answers (t ∷ s ∷ theirs) (o ∷ p ∷ own) e)
      ∙ ap Good (truth-value (same_row (picked (t ∷ s ∷ theirs) other) (picked (o ∷ p ∷ own) u)))

-- ---- kinds

first-same : (k l : Kind) (ks ls : List Kind) → k ∷ ks ≡ l ∷ ls → k ≡ l
first-same k l ks ls e = ap (λ kinds. kind_in kinds 0) e

rest-same : (k l : Kind) (ks ls : List Kind) → k ∷ ks ≡ l ∷ ls → ks ≡ ls
rest-same k l ks ls e = ap (λ kinds. behind kinds) e where
  behind : List Kind → List Kind
  behind [] = []
  behind (kind ∷ kinds) = kinds

module _ (kinds : List Kind) (outer : List (List Kind)) (subs : List Kind) where
  abbrev scopes : List (List Kind)
  scopes = kinds ∷ outer

  several-formed : (tests : List Expr) → 2 ≤ length tests → PartsHave scopes subs (row_of_parts tests) kind.Boolean → HasKind scopes subs (all_hold tests) kind.Boolean
  several-formed [] n h = absurd (omega (arith, n))
  several-formed (test ∷ []) n h = absurd (omega (arith, n))
  several-formed (test ∷ other ∷ tests) n h =
      record { number = subst (λ m. 2 ≤ m) (sym (number_of_parts-built (test ∷ other ∷ tests))) n; parts = h; gives = refl }

  -- the kinds of the row at the level
  module _ (level : ℕ) (others : List Kind) (there : slice_get scopes level ≡ Some others) where
    test-formed : (theirs own : ℕ) → theirs < length others → own < length kinds → kind_in others theirs ≡ kind_in kinds own →
        HasKind scopes subs (same_test level theirs own) kind.Boolean
    test-formed theirs own t o e =
        subst (λ test. HasKind scopes subs test kind.Boolean) (sym (Same-is (Col level theirs) (Col 0 own)))
        (record {
          parts = record {
            shared = kind_in others theirs;
            parts = (ap (λ row. kind_at_place row theirs) there ∙ kind_there others theirs t, kind_there kinds own o ∙ ap Some (sym e));
          };
          gives = refl;
        })

    tests-formed : (theirs own : List ℕ) → PlacesWithin (length others) theirs → PlacesWithin (length kinds) own → kinds_in others theirs ≡ kinds_in kinds own →
        PartsHave scopes subs (row_of_parts (same_tests level theirs own)) kind.Boolean
    tests-formed [] own ts os e = no_parts-have scopes subs kind.Boolean
    tests-formed (t ∷ theirs) [] ts os e = no_parts-have scopes subs kind.Boolean
    tests-formed (t ∷ theirs) (o ∷ own) ts os e =
        more_parts-have scopes subs kind.Boolean (same_test level t o) (same_tests level theirs own)
        (test-formed t o (ts zero 0 (omega arith)) (os zero 0 (omega arith)) (first-same _ _ _ _ e))
        (tests-formed theirs own (all-rest (λ place. place < length others) t theirs ts) (all-rest (λ place. place < length kinds) o own os)
        (rest-same _ _ _ _ e))

    pub conjunction-formed : (theirs own : List ℕ) → PlacesWithin (length others) theirs → PlacesWithin (length kinds) own → kinds_in others theirs ≡ kinds_in kinds own →
        HasKind scopes subs (all_hold (same_tests level theirs own)) kind.Boolean
    conjunction-formed [] own ts os e = record { fitting = refl; gives = refl }
    conjunction-formed (t ∷ theirs) [] ts os e = record { fitting = refl; gives = refl }
    conjunction-formed (t ∷ []) (o ∷ own) ts os e =
        test-formed t o (ts zero 0 (omega arith)) (os zero 0 (omega arith)) (first-same _ _ _ _ e)
    conjunction-formed (t ∷ s ∷ theirs) (o ∷ []) ts os e =
        test-formed t o (ts zero 0 (omega arith)) (os zero 0 (omega arith)) (first-same _ _ _ _ e)
    conjunction-formed (t ∷ s ∷ theirs) (o ∷ p ∷ own) ts os e =
        several-formed (same_tests level (t ∷ s ∷ theirs) (o ∷ p ∷ own)) (omega arith) (tests-formed (t ∷ s ∷ theirs) (o ∷ p ∷ own) ts os e)

-- ---- faults

tests-faultless : (level : ℕ) (theirs own : List ℕ) → all_parts_faultless (same_tests level theirs own) ≡ true
tests-faultless level [] own = refl
tests-faultless level (t ∷ theirs) [] = refl
tests-faultless level (t ∷ theirs) (o ∷ own) = λ i. faultless-Same (Col level t) (Col 0 o) i && tests-faultless level theirs own i

pub all_hold-faultless : (tests : List Expr) → all_parts_faultless tests ≡ true → faultless (all_hold tests) ≡ true
all_hold-faultless [] h = refl
all_hold-faultless (test ∷ []) h = sym (and_true (faultless test)) ∙ h
all_hold-faultless (test ∷ other ∷ tests) h = faultless-Op And (test ∷ other ∷ tests) ∙ h

pub conjunction-faultless : (level : ℕ) (theirs own : List ℕ) → faultless (all_hold (same_tests level theirs own)) ≡ true
conjunction-faultless level theirs own = all_hold-faultless (same_tests level theirs own) (tests-faultless level theirs own)
