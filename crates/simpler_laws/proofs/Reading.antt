-- An expression has one value on rows that agree at the places that it reads, and the kinds that it has over kinds that do.
use Rattle.std.proofs.Common.{◌≡◌, ℕ, zero, suc, Bool, true, false, ◌&&◌, List, ◌∷◌, refl, sym, ap, ◌∙◌, true≢false}
use Rattle.std.specs.Prelude.{slice_get}
use Rattle.perm_values.specs.Rows.{value_at}
use Rattle.perm_values.specs.Values.{same_value, is_null}
use Rattle.perm_values.specs.declared.kind.Kind.{Kind}
use Rattle.perm_values.specs.declared.kind.Kind.TheVariants as kind
use Rattle.perm_values.specs.declared.value.Value.{Value}
use Rattle.perm_values.specs.declared.value.Value.TheVariants.{Boolean}
use Rattle.bag_algebra.proofs.Forms.{alike-kept, op_form-kept}
use Rattle.bag_algebra.proofs.Truths.{left-true, right-true}
use Rattle.bag_algebra.specs.Bags.{Row}
use Rattle.bag_algebra.specs.Expressions.{value, values, arm_value, operate, has_truth, chosen_arm}
use Rattle.bag_algebra.specs.Outcome.{Outcome, Good, and_then, mapped, both}
use Rattle.bag_algebra.specs.WellFormed.{HasKind, PartsHave, ArmsHave, number_of_parts}
use Rattle.bag_algebra.specs.built.Patterns.{OpOf, ChainOf, CaseOf, IsNullOf, IsTruthOf, SameOf}
use Rattle.bag_algebra.specs.declared.expr.Expr.{Expr, Row_of-Expr, Row_of-Arm, more_of-Expr, end_of-Expr, more_of-Arm, end_of-Arm}
use Rattle.bag_algebra.specs.declared.expr.Expr.TheVariants.{Col, Lit, Sub}
use Rattle.simpler_laws.specs.Reads.{is_between, reads_only, parts_read_only, arms_read_only}

module _ (may : Bool) (from to : ℕ) where
  -- ---- values

  module _ (u v : Row) (same : (place : ℕ) → is_between from to place ≡ true → value_at u place ≡ value_at v place) (env : List Row) (subs answers : List Value) where
    mutual
      pub value-read : (e : Expr) → reads_only may from to e ≡ true → value e u env subs ≡ value e v env answers
      value-read (Col zero place) w = ap Good (same place w)
      value-read (Col (suc level) place) w = refl
      value-read (Lit x k) w = refl
      value-read (OpOf op _ parts) w = ap (λ vs. and_then vs (operate op)) (values-read parts w)
      value-read (ChainOf first _ steps) w = absurd (true≢false (sym w))
      value-read (CaseOf _ arms otherwise) w =
          arms-read arms (left-true (arms_read_only may from to arms) (reads_only may from to otherwise) w) _ _
          (value-read otherwise (right-true (arms_read_only may from to arms) (reads_only may from to otherwise) w))
      value-read (Sub number) w = absurd (true≢false (sym w))
      value-read (IsNullOf part) w = ap (mapped (λ x. Boolean (is_null x))) (value-read part w)
      value-read (IsTruthOf truth part) w = ap (mapped (λ x. Boolean (has_truth truth x))) (value-read part w)
      value-read (SameOf first second) w =
          let here = value-read first (left-true (reads_only may from to first) (reads_only may from to second) w) in
          let there = value-read second (right-true (reads_only may from to first) (reads_only may from to second) w) in
          λ i. both (λ x y. Boolean (same_value x y)) (here i) (there i)

      values-read : {m : _} (parts : Row_of-Expr m) → parts_read_only may from to parts ≡ true → values parts u env subs ≡ values parts v env answers
      values-read end_of-Expr w = refl
      values-read (more_of-Expr part parts) w =
          let here = value-read part (left-true (reads_only may from to part) (parts_read_only may from to parts) w) in
          let rest = values-read parts (right-true (reads_only may from to part) (parts_read_only may from to parts) w) in
          λ i. both (λ x xs. x ∷ xs) (here i) (rest i)

      arms-read : {m : _} (arms : Row_of-Arm m) → arms_read_only may from to arms ≡ true → (o p : Outcome Value) → o ≡ p →
          arm_value arms u env subs o ≡ arm_value arms v env answers p
      arms-read end_of-Arm w o p e = e
      arms-read (more_of-Arm condition arm arms) w o p e =
          let own = left-true (reads_only may from to condition && reads_only may from to arm) (arms_read_only may from to arms) w in
          let test = value-read condition (left-true (reads_only may from to condition) (reads_only may from to arm) own) in
          let here = value-read arm (right-true (reads_only may from to condition) (reads_only may from to arm) own) in
          let rest = arms-read arms (right-true (reads_only may from to condition && reads_only may from to arm) (arms_read_only may from to arms) w) o p e in
          λ i. chosen_arm (test i) (here i) (rest i)

  -- ---- kinds

  module _ (kinds others : List Kind) (same : (place : ℕ) → is_between from to place ≡ true → slice_get kinds place ≡ slice_get others place)
      (outer : List (List Kind)) (subs more : List Kind) where
    mutual
      pub kind-read : (e : Expr) (k : Kind) → reads_only may from to e ≡ true → HasKind (kinds ∷ outer) subs e k → HasKind (others ∷ outer) more e k
      kind-read (Col zero place) k w h = sym (same place w) ∙ h
      kind-read (Col (suc level) place) k w h = h
      kind-read (Lit x own) k w h = h
      kind-read (OpOf op _ parts) k w h = op_form-kept (λ l g. parts-read parts l w g) op (number_of_parts parts) k h
      kind-read (ChainOf first _ steps) k w h = absurd (true≢false (sym w))
      kind-read (CaseOf _ arms otherwise) k w h = record {
        number = h.number;
        arms = arm_kinds-read arms k (left-true (arms_read_only may from to arms) (reads_only may from to otherwise) w) h.arms;
        otherwise = kind-read otherwise k (right-true (arms_read_only may from to arms) (reads_only may from to otherwise) w) h.otherwise;
      }
      kind-read (Sub number) k w h = absurd (true≢false (sym w))
      kind-read (IsNullOf part) k w h = record { parts = alike-kept (λ l g. kind-read part l w g) h.parts; gives = h.gives }
      kind-read (IsTruthOf truth part) k w h = record { parts = kind-read part kind.Boolean w h.parts; gives = h.gives }
      kind-read (SameOf first second) k w h = record {
        parts = alike-kept (λ l g. (
          kind-read first l (left-true (reads_only may from to first) (reads_only may from to second) w) g.0,
          kind-read second l (right-true (reads_only may from to first) (reads_only may from to second) w) g.1,
        )) h.parts;
        gives = h.gives;
      }

      parts-read : {m : _} (parts : Row_of-Expr m) (k : Kind) → parts_read_only may from to parts ≡ true → PartsHave (kinds ∷ outer) subs parts k →
          PartsHave (others ∷ outer) more parts k
      parts-read end_of-Expr k w h = tt
      parts-read (more_of-Expr part parts) k w h = (
        kind-read part k (left-true (reads_only may from to part) (parts_read_only may from to parts) w) h.0,
        parts-read parts k (right-true (reads_only may from to part) (parts_read_only may from to parts) w) h.1,
      )

      arm_kinds-read : {m : _} (arms : Row_of-Arm m) (k : Kind) → arms_read_only may from to arms ≡ true → ArmsHave (kinds ∷ outer) subs arms k →
          ArmsHave (others ∷ outer) more arms k
      arm_kinds-read end_of-Arm k w h = tt
      arm_kinds-read (more_of-Arm condition arm arms) k w h =
          let own = left-true (reads_only may from to condition && reads_only may from to arm) (arms_read_only may from to arms) w in
          record {
            condition = kind-read condition kind.Boolean (left-true (reads_only may from to condition) (reads_only may from to arm) own) h.condition;
            arm = kind-read arm k (right-true (reads_only may from to condition) (reads_only may from to arm) own) h.arm;
            others = arm_kinds-read arms k (right-true (reads_only may from to condition && reads_only may from to arm) (arms_read_only may from to arms) w) h.others;
          }
