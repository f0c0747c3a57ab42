-- What an EXISTS or an ANY over a spine asks of a row is true exactly where some row of the spine's base meets the test.
use Rattle.std.proofs.Common.{◌≡◌, ◌≤◌, ◌<◌, Bool, true, false, cond, ◌&&◌, ◌||◌, List, [], ◌∷◌, ◌++◌, length, get_or, map, Option, Some, None, refl, sym, ap, ◌∙◌, subst, arith}
use Rattle.std.specs.List.{list_any}
use Rattle.null_logic.specs.Comparison.{compare_values}
use Rattle.null_logic.specs.Logic.{is_true, truth_of, value_of}
use Rattle.null_logic.specs.declared.compare.Compare.{Compare}
use Rattle.null_logic.specs.declared.operator.Operator.TheVariants as op
use Rattle.null_logic.specs.declared.truth.Truth.TheVariants.{True}
use Rattle.perm_values.specs.declared.kind.Kind.{Kind}
use Rattle.perm_values.specs.declared.value.Value.{Value}
use Rattle.perm_values.specs.declared.value.Value.TheVariants.{Boolean, Null}
use Rattle.bag_algebra.proofs.NeverBad.{good-value}
use Rattle.bag_algebra.proofs.Outcomes.{good-is}
use Rattle.bag_algebra.proofs.TruthValues.{holds-boolean, holds-truth, holds-both}
use Rattle.bag_algebra.proofs.Truths.{left-true, right-true}
use Rattle.bag_algebra.specs.Bags.{Row, Bag}
use Rattle.bag_algebra.specs.Expressions.{operate, value}
use Rattle.bag_algebra.specs.FaultFree.{faultless, items_faultless}
use Rattle.bag_algebra.specs.Fits.{row_begins}
use Rattle.bag_algebra.specs.Meaning.{items_on, optional_value}
use Rattle.bag_algebra.specs.Means.{cell, comparisons, holds_of, is_met, is_some_row, no_subs, some_of, sub_value}
use Rattle.bag_algebra.specs.Outcome.{Outcome, Good, Bad, and_then, mapped, both, both_then, gather}
use Rattle.bag_algebra.specs.WellFormed.{sub_form}
use Rattle.bag_algebra.specs.built.FaultFree.{all_parts_faultless, faultless-IsTruth, faultless-Op}
use Rattle.bag_algebra.specs.built.Openings.{value-IsTruth, value-Op}
use Rattle.bag_algebra.specs.declared.expr.Expr.{Expr}
use Rattle.bag_algebra.specs.declared.expr.Expr.TheVariants.{Op}
use Rattle.bag_algebra.specs.declared.expr.Item.{Item}
use Rattle.bag_algebra.specs.declared.query.Sublink.{Sublink}
use Rattle.bag_algebra.specs.declared.query.SubKind.TheVariants.{Any, Exists}
use Rattle.contribution.specs.Conjunctions.{condition_or_true}
use Rattle.contribution.proofs.AddedColumns.{columns-added}
use Rattle.contribution.proofs.Growth.{tested-same}
use Rattle.contribution.proofs.TruthKept.{some_of-is_true}
use Rattle.query_laws.proofs.SpineItems.{items-good, row_by}
use Rattle.query_laws.proofs.SpineRows.{spine_row, where_holds}
use Rattle.query_laws.specs.spines.Spines.{tests_with}
use Rattle.query_laws.specs.declared.spines.spine.Spine.{Spine}
use Rattle.simplifier.specs.Forced.{Asks, compared, for_any, for_some}

-- a list of one
pub only : {X : Type 0} (xs : List X) (x : X) → 1 ≤ length xs → length xs < 2 → x ≡ get_or xs 0 x → xs ≡ x ∷ []
only [] x h k e = absurd (omega (arith, h))
only (y ∷ []) x h k e = ap (λ z. z ∷ []) (sym e)
only (y ∷ z ∷ xs) x h k e = absurd (omega (arith, k))

-- ---- truths

any-map : {X Y : Type 0} (f : X → Y) (p : Y → Bool) (xs : List X) → list_any p (map f xs) ≡ list_any (λ x. p (f x)) xs
any-map f p [] = refl
any-map f p (x ∷ xs) = ap (λ b. p (f x) || b) (any-map f p xs)

any-same : {X : Type 0} (p q : X → Bool) → ((x : X) → p x ≡ q x) → (xs : List X) → list_any p xs ≡ list_any q xs
any-same p q same [] = refl
any-same p q same (x ∷ xs) = λ i. same x i || any-same p q same xs i

-- ---- some row is kept that passes

module _ (make : Row → Row) (o : Row → Outcome Value) (calm : (v : Row) → (w : Value) × (o v ≡ Good w)) (p : Row → Bool) where
  any-both : (b : Bool) (t : Row) (rest : Outcome Bag) (found : Bool) → mapped (list_any p) rest ≡ Good found →
      mapped (list_any p) (both (λ y ys. y ++ ys) (Good (cond b (t ∷ []) [])) rest) ≡ Good ((b && p t) || found)
  any-both true t (Good us) found e = ap (mapped (λ b. p t || b)) e
  any-both true t (Bad faults) found e = absurd (cc e)
  any-both false t (Good us) found e = e
  any-both false t (Bad faults) found e = absurd (cc e)

  one-found : (t : Row) (v : Outcome Value) (w : Value) → v ≡ Good w → where_holds t v ≡ Good (cond (is_met v) (t ∷ []) [])
  one-found t (Good x) w e = refl
  one-found t (Bad faults) w e = absurd (cc e)

  -- some row that is kept passes exactly where some row meets the test and passes
  any-found : (vs : Bag) → mapped (list_any p) (gather (λ v. where_holds (make v) (o v)) vs) ≡ Good (list_any (λ v. is_met (o v) && p (make v)) vs)
  any-found [] = refl
  any-found (v ∷ vs) =
      (λ i. mapped (list_any p) (both (λ y ys. y ++ ys) (one-found (make v) (o v) (calm v).0 (calm v).1 i) (gather (λ w. where_holds (make w) (o w)) vs)))
      ∙ any-both (is_met (o v)) (make v) (gather (λ w. where_holds (make w) (o w)) vs) (list_any (λ w. is_met (o w) && p (make w)) vs) (any-found vs)

-- ---- what a sublink over rows gives

pub record Holds (o : Outcome Value) (b : Bool) : Type 0 where
  pub given : Value
  pub good : o ≡ Good given
  pub holds : holds_of given ≡ b

good_same : (a b : Bool) → Good a ≡ Good b → a ≡ b
good_same a b h = cc

exists-holds : (rows : Outcome Bag) (found : Bool) → mapped (list_any (λ row. true)) rows ≡ Good found → Holds (both_then (Good Null) rows (sub_value Exists)) found
exists-holds (Good us) found e = record {
  given = Boolean (is_some_row us);
  good = refl;
  holds = holds-boolean (is_some_row us) ∙ some us ∙ good_same (list_any (λ row. true) us) found e;
} where
  some : (us : Bag) → is_some_row us ≡ list_any (λ row. true) us
  some [] = refl
  some (u ∷ us) = refl
exists-holds (Bad faults) found e = absurd (cc e)

any-holds : (c : Compare) (x : Value) (rows : Outcome Bag) (found : Bool) → mapped (list_any (λ row. is_true (compare_values c x (cell row)))) rows ≡ Good found
    → Holds (both_then (Good x) rows (sub_value (Any c))) found
any-holds c x (Good bag) found e = record {
  given = value_of (some_of (comparisons c x bag));
  good = refl;
  holds = holds-truth (some_of (comparisons c x bag)) ∙ some_of-is_true (comparisons c x bag) ∙ any-map (λ row. compare_values c x (cell row)) is_true bag
      ∙ good_same (list_any (λ row. is_true (compare_values c x (cell row))) bag) found e;
}
any-holds c x (Bad faults) found e = absurd (cc e)

-- ---- that a comparison of both is true

calm-compared : (c : Compare) (e f : Expr) → faultless (compared c e f) ≡ true → faultless e ≡ true
calm-compared c e f h =
    let parts = sym (faultless-IsTruth True (Op (op.Compare c) (e ∷ f ∷ []))) ∙ h in
    left-true (faultless e) (all_parts_faultless (f ∷ [])) (sym (faultless-Op (op.Compare c) (e ∷ f ∷ [])) ∙ parts)

compared-is : (c : Compare) (e f : Expr) (y : Row) (env : List Row) (x z : Value) → value e y env [] ≡ Good x → value f y env [] ≡ Good z
    → value (compared c e f) y env [] ≡ Good (Boolean (is_true (truth_of (value_of (compare_values c x z)))))
compared-is c e f y env x z first second =
    value-IsTruth y env [] True (Op (op.Compare c) (e ∷ f ∷ []))
    ∙ ap (mapped (λ v. Boolean (is_true (truth_of v))))
    (value-Op y env [] (op.Compare c) (e ∷ f ∷ [])
    ∙ (λ i. and_then (both (λ v vs. v ∷ vs) (first i) (both (λ v vs. v ∷ vs) (second i) (Good []))) (operate (op.Compare c))))

-- a test and a good one more
with-met : (test : Option Expr) (other : Expr) (y : Row) (env : List Row) (w : Value) (a : Value) → value (condition_or_true test) y env [] ≡ Good a → value other y env [] ≡ Good w
    → is_met (value (tests_with test other) y env []) ≡ (is_met (value (condition_or_true test) y env []) && holds_of w)
with-met None other y env w a first second = ap is_met second
with-met (Some test) other y env w a first second =
    ap is_met (value-Op y env [] op.And (test ∷ other ∷ [])
    ∙ (λ i. and_then (both (λ v vs. v ∷ vs) (first i) (both (λ v vs. v ∷ vs) (second i) (Good []))) (operate op.And)))
    ∙ holds-both (truth_of a) (truth_of w) ∙ ap (λ o. is_met o && holds_of w) (sym first)

-- ---- a sublink over a spine

module _ (kinds below : List Kind) (outer : List (List Kind)) (sub : Sublink) (spine : Spine) (on : Expr) (asks : Asks sub spine on) (calm : faultless on ≡ true)
    (items : items_faultless spine.items ≡ true) (env : List Row) (u : Row) (begins : row_begins u kinds ≡ true)
    (fitting : sub_form sub.kind sub.tested (kinds ∷ outer) below) (vs : Bag) where
  abbrev of_spine : Row → Outcome Value
  of_spine v = value (condition_or_true spine.test) (u ++ v) env []

  abbrev rows : Outcome Bag
  rows = gather (λ v. spine_row spine env (u ++ v)) vs

  abbrev found : Bool
  found = list_any (λ v. is_met (value on (u ++ v) env [])) vs

  by_rows : (p : Row → Bool) → faultless (condition_or_true spine.test) ≡ true → ((v : Row) → (is_met (of_spine v) && p (row_by spine.items env (u ++ v))) ≡ is_met (value on (u ++ v) env []))
      → mapped (list_any p) rows ≡ Good found
  by_rows p still same =
      any-found (λ v. row_by spine.items env (u ++ v)) of_spine (λ v. good-is (of_spine v) (good-value (condition_or_true spine.test) still (u ++ v) env [])) p vs
      ∙ ap Good (any-same (λ v. is_met (of_spine v) && p (row_by spine.items env (u ++ v))) (λ v. is_met (value on (u ++ v) env [])) same vs)

  and-true : (b : Bool) → (b && true) ≡ b
  and-true true = refl
  and-true false = refl

  asked : Asks sub spine on → Holds (both_then (optional_value sub.tested env u) rows (sub_value sub.kind)) found
  asked (for_some kind none test) =
      let same : condition_or_true spine.test ≡ on = ap condition_or_true (sym test) in
      subst (λ tested. Holds (both_then (optional_value tested env u) rows (sub_value sub.kind)) found) (sym none)
      (subst (λ k. Holds (both_then (Good Null) rows (sub_value k)) found) (sym kind)
      (exists-holds rows found (by_rows (λ row. true) (ap faultless same ∙ calm) (λ v. and-true (is_met (of_spine v)) ∙ ap (λ e. is_met (value e (u ++ v) env [])) same))))
  asked (for_any c tested kind some any) =
      subst (λ t. Holds (both_then (optional_value t env u) rows (sub_value sub.kind)) found) (sym some)
      (subst (λ k. Holds (both_then (value tested u env []) rows (sub_value k)) found) (sym kind)
      (subst (λ o. Holds (both_then o rows (sub_value (Any c))) found) (sym x.1)
      (any-holds c x.0 rows found (by_rows (λ row. is_true (compare_values c x.0 (cell row))) (parts spine.test with_test).0 same)))) where
        item : Item
        item = any.item

        other : Expr
        other = compared c tested item.expr

        with_test : faultless (tests_with spine.test other) ≡ true
        with_test = ap faultless (sym any.test) ∙ calm

        parts : (test : Option Expr) → faultless (tests_with test other) ≡ true → (faultless (condition_or_true test) ≡ true) × (faultless other ≡ true)
        parts None h = (refl, h)
        parts (Some test) h =
            let all = sym (faultless-Op op.And (test ∷ other ∷ [])) ∙ h in
            (left-true (faultless test) (all_parts_faultless (other ∷ [])) all, left-true (faultless other) true (right-true (faultless test) (all_parts_faultless (other ∷ [])) all))

        x : (w : Value) × (value tested u env [] ≡ Good w)
        x = good-is (value tested u env []) (good-value tested (calm-compared c tested item.expr (parts spine.test with_test).1) u env [])

        on_pair : (v : Row) → value tested (u ++ v) env [] ≡ Good x.0
        on_pair v =
            (λ i. optional_value (sym some i) env (u ++ v))
            ∙ sym (tested-same (kinds ∷ outer) u (u ++ v) env env (columns-added kinds outer u v env begins) sub.kind sub.tested below fitting)
            ∙ (λ i. optional_value (some i) env u) ∙ x.1

        first-of : (o : Outcome Value) (row : Row) → both (λ v vs. v ∷ vs) o (Good []) ≡ Good row → o ≡ Good (cell row)
        first-of (Good v) row e = let same : v ∷ [] ≡ row = cc in ap (λ (r : Row). Good (cell r)) same
        first-of (Bad faults) row e = absurd (cc e)

        made : (v : Row) → value item.expr (u ++ v) env [] ≡ Good (cell (row_by spine.items env (u ++ v)))
        made v =
            first-of (value item.expr (u ++ v) env []) (row_by spine.items env (u ++ v))
            ((λ i. items_on (sym any.one i) env no_subs (u ++ v)) ∙ items-good spine.items env (u ++ v) items)

        same : (v : Row) → (is_met (of_spine v) && is_true (compare_values c x.0 (cell (row_by spine.items env (u ++ v))))) ≡ is_met (value on (u ++ v) env [])
        same v =
            let z = cell (row_by spine.items env (u ++ v)) in
            let w = is_true (truth_of (value_of (compare_values c x.0 z))) in
            let still = good-is (of_spine v) (good-value (condition_or_true spine.test) (parts spine.test with_test).0 (u ++ v) env []) in
            ap (λ b. is_met (of_spine v) && b) (sym (holds-boolean w ∙ holds-truth (compare_values c x.0 z)))
            ∙ sym (with-met spine.test other (u ++ v) env (Boolean w) still.0 still.1 (compared-is c tested item.expr (u ++ v) env x.0 z (on_pair v) (made v)))
            ∙ ap (λ e. is_met (value e (u ++ v) env [])) (sym any.test)

  pub is-asked : Holds (both_then (optional_value sub.tested env u) rows (sub_value sub.kind)) found
  is-asked = asked asks
