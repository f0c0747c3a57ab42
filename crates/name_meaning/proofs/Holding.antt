-- The kinds of expressions that the constructors of code make, in words on plain lists of parts.
use Rattle.std.specs.Prelude.{◌≡◌, ℕ, zero, suc, ◌≤◌, Bool, true, false, ◌&&◌, List, [], ◌∷◌, map, length}
use Rattle.std.proofs.Common.{refl, ap, sym, subst, arith}
use Rattle.std.specs.List.{AllByRecursion as Every}
use mathlib.Core.Bool.{beq}
use Rattle.null_logic.specs.declared.operator.Operator.{Operator}
use Rattle.null_logic.specs.declared.operator.Operator.TheVariants as x
use Rattle.null_logic.specs.declared.truth.Truth.{Truth}
use Rattle.perm_values.specs.declared.kind.Kind.{Kind}
use Rattle.perm_values.specs.declared.kind.Kind.TheVariants.{Integer, Boolean}
use Rattle.bag_algebra.specs.built.Openings.{row_of_steps, Chain-is, Case-is, IsNull-is, IsTruth-is, Same-is}
use Rattle.bag_algebra.specs.built.Forms.{AllHave, AllStepsHave, AllArmsHave, parts_have-built, steps_have-built, arms_have-built, number_of_parts-built, number_of_steps-built, number_of_arms-built}
use Rattle.bag_algebra.specs.WellFormed.{HasKind, op_form, is_additive, steps_are}
use Rattle.bag_algebra.specs.declared.expr.Arm.{Arm}
use Rattle.bag_algebra.specs.declared.expr.ChainStep.{ChainStep}
use Rattle.bag_algebra.specs.declared.expr.Expr.{Expr}
use Rattle.bag_algebra.specs.declared.expr.Expr.TheBlock.{shape-the_row-ChainStep-2, hidden-the_row-ChainStep-2}
use Rattle.bag_algebra.specs.declared.expr.Expr.TheVariants.{Op, Chain, Case, IsNull, IsTruth, Same}
use Rattle.bag_algebra.proofs.Forms.{op_form-kept}
use Rattle.name_meaning.specs.Expressions.{first_of, second_of, negated_if, times}
use Rattle.name_meaning.specs.Operands.{operand}
use Rattle.name_meaning.specs.Meanings.{Surroundings, Part}
use Rattle.name_meaning.specs.declared.need.Need.{Need}
use Rattle.name_meaning.proofs.Needs.{taken, taken_kinds}
use Rattle.name_meaning.proofs.GoodMeant.{HaveKinds}

-- the operators of all steps are of one level
abbrev pub AreOfLevel : Bool → List ChainStep → Type 0
AreOfLevel additive steps = Every (λ (step : ChainStep). beq (is_additive step.op) additive ≡ true) steps

steps_are-built : (steps : List ChainStep) (additive : Bool) → AreOfLevel additive steps → steps_are (row_of_steps steps) additive ≡ true
unfolding shape-the_row-ChainStep-2 hidden-the_row-ChainStep-2 package.denote.Hole.Carrier.hidden
steps_are-built [] additive h = refl
steps_are-built (step ∷ steps) additive h = both (beq (is_additive step.op) additive) _ h.0 (steps_are-built steps additive h.1) where
  both : (a b : Bool) → a ≡ true → b ≡ true → (a && b) ≡ true
  both a b e f = λ i. e i && f i

module _ (rows : List (List Kind)) (subs : List Kind) where
  pub op-holds : (op : Operator) (es : List Expr) (kind : Kind) → op_form op (length es) (AllHave rows subs es) kind → HasKind rows subs (Op op es) kind
  op-holds op es kind h =
      op_form-kept (λ k all. parts_have-built rows subs es k all) op _ kind
      (subst (λ n. op_form op n (AllHave rows subs es) kind) (sym (number_of_parts-built es)) h)

  pub not-holds : (e : Expr) → HasKind rows subs e Boolean → HasKind rows subs (Op x.Not (e ∷ [])) Boolean
  not-holds e h = op-holds x.Not (e ∷ []) Boolean (record { number = refl; parts = (h, tt); gives = refl })

  pub negate-holds : (e : Expr) → HasKind rows subs e Integer → HasKind rows subs (Op x.Negate (e ∷ [])) Integer
  negate-holds e h = op-holds x.Negate (e ∷ []) Integer (record { number = refl; parts = (h, tt); gives = refl })

  pub negated-holds : (negated : Bool) (e : Expr) → HasKind rows subs e Boolean → HasKind rows subs (negated_if negated e) Boolean
  negated-holds true e h = not-holds e h
  negated-holds false e h = h

  pub times-holds : (op : Operator) (kind : Kind) → ((e : Expr) → HasKind rows subs e kind → HasKind rows subs (Op op (e ∷ [])) kind)
      → (count : ℕ) (e : Expr) → HasKind rows subs e kind → HasKind rows subs (times op count e) kind
  times-holds op kind once zero e h = h
  times-holds op kind once (suc zero) e h = once e h
  times-holds op kind once (suc (suc zero)) e h = once (Op op (e ∷ [])) (once e h)
  times-holds op kind once (suc (suc (suc n))) e h = times-holds op kind once (suc n) e h

  pub is_null-holds : (e : Expr) (kind : Kind) → HasKind rows subs e kind → HasKind rows subs (IsNull e) Boolean
  is_null-holds e kind h = subst (λ made. HasKind rows subs made Boolean) (sym (IsNull-is e))
      (record { parts = record { shared = kind; parts = h }; gives = refl })

  pub is_truth-holds : (truth : Truth) (e : Expr) → HasKind rows subs e Boolean → HasKind rows subs (IsTruth truth e) Boolean
  is_truth-holds truth e h = subst (λ made. HasKind rows subs made Boolean) (sym (IsTruth-is truth e)) (record { parts = h; gives = refl })

  pub same-holds : (first second : Expr) (kind : Kind) → HasKind rows subs first kind → HasKind rows subs second kind
      → HasKind rows subs (Same first second) Boolean
  same-holds first second kind f s = subst (λ made. HasKind rows subs made Boolean) (sym (Same-is first second))
      (record { parts = record { shared = kind; parts = (f, s) }; gives = refl })

  pub chain-holds : (first : Expr) (steps : List ChainStep) (additive : Bool) → 1 ≤ length steps → AreOfLevel additive steps
      → HasKind rows subs first Integer → AllStepsHave rows subs steps → HasKind rows subs (Chain first steps) Integer
  chain-holds first steps additive number level f s = subst (λ made. HasKind rows subs made Integer) (sym (Chain-is first steps)) (record {
    number = subst (λ n. 1 ≤ n) (sym (number_of_steps-built steps)) number;
    level = record { additive = additive; all = steps_are-built steps additive level };
    first = f;
    steps = steps_have-built rows subs steps s;
    gives = refl;
  })

  pub case-holds : (arms : List Arm) (otherwise : Expr) (kind : Kind) → 1 ≤ length arms → AllArmsHave rows subs arms kind
      → HasKind rows subs otherwise kind → HasKind rows subs (Case arms otherwise) kind
  case-holds arms otherwise kind number a o = subst (λ made. HasKind rows subs made kind) (sym (Case-is arms otherwise)) (record {
    number = subst (λ n. 1 ≤ n) (sym (number_of_arms-built arms)) number;
    arms = arms_have-built rows subs arms kind a;
    otherwise = o;
  })

  -- ---- lists of parts

  pub first-has : (n : ℕ) (es : List Expr) (kind : Kind) → length es ≡ suc n → AllHave rows subs es kind → HasKind rows subs (first_of es) kind
  first-has n [] kind l h = absurd (omega (arith, l))
  first-has n (e ∷ es) kind l h = h.0

  pub second-has : (n : ℕ) (es : List Expr) (kind : Kind) → length es ≡ suc (suc n) → AllHave rows subs es kind → HasKind rows subs (second_of es) kind
  second-has n [] kind l h = absurd (omega (arith, l))
  second-has n (e ∷ es) kind l h = first-has n es kind (omega (arith, l)) h.1

  -- operands with one need take one kind
  pub all-taken : (here : Surroundings) (need : Need) (alike_kind kind : Kind) (parts : List Part) (es : List Expr)
      → ((own : _) → taken alike_kind need own ≡ kind) → HaveKinds rows subs es (taken_kinds alike_kind (map (operand here need) parts))
      → AllHave rows subs es kind × (length es ≡ length parts)
  all-taken here need alike_kind kind [] [] same h = (tt, refl)
  all-taken here need alike_kind kind [] (e ∷ es) same h = absurd h
  all-taken here need alike_kind kind (part ∷ parts) [] same h = absurd h
  all-taken here need alike_kind kind (part ∷ parts) (e ∷ es) same h =
      let rest = all-taken here need alike_kind kind parts es same h.1 in
      ((subst (HasKind rows subs e) (same (part.means here).kind) h.0, rest.0), ap suc rest.1)
