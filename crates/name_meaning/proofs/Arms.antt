-- Chains and CASE, over parts that are made well formed.
use Rattle.std.specs.Prelude.{◌≡◌, ⊤, ℕ, suc, Bool, true, false, ◌||◌, List, [], ◌∷◌, ◌++◌, map, flat_map, length, Option, Some, None}
use Rattle.std.proofs.Common.{refl, ap, sym, ◌∙◌, subst, arith}
use Rattle.std.specs.List.{AllByRecursion as Every}
use mathlib.Core.Bool.{beq}
use Rattle.null_logic.specs.declared.operator.Operator.TheVariants as x
use Rattle.perm_values.specs.declared.kind.Kind.{Kind}
use Rattle.perm_values.specs.declared.kind.Kind.TheVariants.{Integer, Text, Boolean}
use Rattle.bag_algebra.specs.built.Forms.{AllStepsHave, AllArmsHave}
use Rattle.bag_algebra.specs.WellFormed.{HasKind, is_additive}
use Rattle.bag_algebra.specs.declared.expr.Expr.{Expr}
use Rattle.sql_tree.specs.Regular.{IsFilled, level_of}
use Rattle.bag_algebra.proofs.Truths.{left-false, right-false}
use Rattle.name_meaning.specs.Expressions.{StepPart, ArmPart, first_of, steps_made, chain_made, arms_made, rest_made, null_meant, step_operand, first_need, chain_gives, arm_operands, else_operand, case_made, case_meant, arm_parts, optional_part}
use Rattle.name_meaning.specs.Meanings.{Surroundings, Part}
use Rattle.name_meaning.specs.Operands.{Operand, operand, node, need_of}
use Rattle.name_meaning.specs.Sublinks.{null_at}
use Rattle.name_meaning.specs.declared.need.Gives.TheVariants.{Always as always, Common as common}
use Rattle.name_meaning.proofs.FormedParts.{formed-none}
use Rattle.name_meaning.proofs.ExpressionForms.{need-arith, gives-arith, is_sum_level, level-additive, at_least_one, any_aggregating}
use Rattle.name_meaning.proofs.GoodMeant.{GoodMeant, GoodPart, GoodOperand, IsPlain, PlainOperand, HaveKinds, good-node, plain-node}
use Rattle.name_meaning.proofs.Holding.{AreOfLevel, chain-holds, case-holds}
use Rattle.name_meaning.proofs.Needs.{taken, taken_kinds}

-- ---- literals

pub null-holds : (rows : List (List Kind)) (subs : List Kind) (kind : Kind) → HasKind rows subs (null_at kind) kind
null-holds rows subs Integer = record { fitting = refl; gives = refl }
null-holds rows subs Text = record { fitting = refl; gives = refl }
null-holds rows subs Boolean = record { fitting = refl; gives = refl }

pub good-null : (here : Surroundings) → GoodMeant here null_meant
good-null here whole wanted n = formed-none here n _ (λ rows subs hold. null-holds rows subs wanted)

pub plain-null : IsPlain null_meant
plain-null wanted n = refl

-- ---- chains

abbrev pub GoodStep : ℕ → StepPart → Type 0
GoodStep level step = GoodPart step.part × (level_of step.op ≡ Some level)

steps-good : (here : Surroundings) (level : ℕ) (steps : List StepPart) → Every (GoodStep level) steps → Every (GoodOperand here) (map (step_operand here) steps)
steps-good here level [] h = tt
steps-good here level (step ∷ steps) h = (h.0.0.formed here, steps-good here level steps h.1)

beq-same : (b : Bool) → beq b b ≡ true
beq-same true = refl
beq-same false = refl

steps-hold : (rows : List (List Kind)) (subs : List Kind) (here : Surroundings) (level : ℕ) (kind : Kind) (steps : List StepPart) (es : List Expr)
    → Every (GoodStep level) steps → HaveKinds rows subs es (taken_kinds kind (map (step_operand here) steps))
    → AllStepsHave rows subs (steps_made steps es) × AreOfLevel (is_sum_level (Some level)) (steps_made steps es)
    × (length (steps_made steps es) ≡ length steps)
steps-hold rows subs here level kind [] [] good h = (tt, tt, refl)
steps-hold rows subs here level kind [] (e ∷ es) good h = absurd h
steps-hold rows subs here level kind (step ∷ steps) [] good h = absurd h
steps-hold rows subs here level kind (step ∷ steps) (e ∷ es) good h =
    let rest = steps-hold rows subs here level kind steps es good.1 h.1 in
    let needed : taken kind (need_of (x.Arith step.op) false) (step.part.means here).kind ≡ Integer =
    ap (λ need. taken kind need (step.part.means here).kind) (need-arith step.op) in
    let additive : is_additive step.op ≡ is_sum_level (Some level) = level-additive step.op ∙ ap is_sum_level good.0.1 in (
      (subst (HasKind rows subs e) needed h.0, rest.0),
      (ap (λ b. beq b (is_sum_level (Some level))) additive ∙ beq-same (is_sum_level (Some level)), rest.1),
      ap suc rest.2,
    )

pub good-chain : (here : Surroundings) (level : ℕ) (first : Part) (steps : List StepPart) → GoodPart first → IsFilled steps → Every (GoodStep level) steps
    → GoodMeant here (node (chain_gives steps) (chain_made steps) (operand here (first_need steps) first ∷ map (step_operand here) steps))
good-chain here level first [] f filled good = absurd filled
good-chain here level first (step ∷ steps) f filled good =
    subst (λ gives. GoodMeant here (node gives (chain_made (step ∷ steps)) operands)) (sym (gives-arith step.op))
    (good-node here (always Integer) (chain_made (step ∷ steps)) operands (f.formed here, steps-good here level (step ∷ steps) good) made) where
      operands : List Operand
      operands = operand here (need_of (x.Arith step.op) false) first ∷ map (step_operand here) (step ∷ steps)

      made : (kind : Kind) (rows : List (List Kind)) (subs : List Kind) (es : List Expr)
          → HaveKinds rows subs es (taken kind (need_of (x.Arith step.op) false) (first.means here).kind ∷ taken_kinds kind (map (step_operand here) (step ∷ steps)))
          → HasKind rows subs (chain_made (step ∷ steps) es) Integer
      made kind rows subs [] h = absurd h
      made kind rows subs (e ∷ es) h =
          let rest = steps-hold rows subs here level kind (step ∷ steps) es good h.1 in
          let needed : taken kind (need_of (x.Arith step.op) false) (first.means here).kind ≡ Integer =
          ap (λ need. taken kind need (first.means here).kind) (need-arith step.op) in
          let l = rest.2 in
          chain-holds rows subs e (steps_made (step ∷ steps) es) (is_sum_level (Some level)) (omega (arith, l)) rest.1
          (subst (HasKind rows subs e) needed h.0) rest.0

abbrev pub step_parts : List StepPart → List Part
step_parts steps = map (λ (step : StepPart). step.part) steps

steps-plain : (here : Surroundings) (level : ℕ) (steps : List StepPart) → Every (GoodStep level) steps → any_aggregating (step_parts steps) ≡ false
    → Every PlainOperand (map (step_operand here) steps)
steps-plain here level [] h e = tt
steps-plain here level (step ∷ steps) h e = (
  h.0.0.plain (left-false step.part.aggregating (any_aggregating (step_parts steps)) e) here,
  steps-plain here level steps h.1 (right-false step.part.aggregating (any_aggregating (step_parts steps)) e),
)

pub plain-chain : (here : Surroundings) (level : ℕ) (first : Part) (steps : List StepPart) → GoodPart first → Every (GoodStep level) steps
    → any_aggregating (first ∷ step_parts steps) ≡ false
    → IsPlain (node (chain_gives steps) (chain_made steps) (operand here (first_need steps) first ∷ map (step_operand here) steps))
plain-chain here level first steps f good e =
    plain-node (chain_gives steps) (chain_made steps) (operand here (first_need steps) first ∷ map (step_operand here) steps) (
      f.plain (left-false first.aggregating (any_aggregating (step_parts steps)) e) here,
      steps-plain here level steps good (right-false first.aggregating (any_aggregating (step_parts steps)) e),
    )

-- ---- CASE

abbrev pub GoodArm : ArmPart → Type 0
GoodArm arm = GoodPart arm.condition × GoodPart arm.value

abbrev pub GoodOptional : Option Part → Type 0
GoodOptional None = ⊤
GoodOptional (Some part) = GoodPart part

arms-good : (here : Surroundings) (arms : List ArmPart) (others : List Operand) → Every GoodArm arms → Every (GoodOperand here) others
    → Every (GoodOperand here) (flat_map (arm_operands here) arms ++ others)
arms-good here [] others h o = o
arms-good here (arm ∷ arms) others h o = (h.0.0.formed here, (h.0.1.formed here, arms-good here arms others h.1 o))

else-good : (here : Surroundings) (otherwise : Option Part) → GoodOptional otherwise → GoodOperand here (else_operand here otherwise)
else-good here None h = good-null here
else-good here (Some part) h = h.formed here

arms-hold : (rows : List (List Kind)) (subs : List Kind) (here : Surroundings) (kind : Kind) (arms : List ArmPart) (others : List Operand) (es : List Expr)
    → HaveKinds rows subs es (taken_kinds kind (flat_map (arm_operands here) arms ++ others))
    → AllArmsHave rows subs (arms_made arms es) kind × (length (arms_made arms es) ≡ length arms)
    × HaveKinds rows subs (rest_made arms es) (taken_kinds kind others)
arms-hold rows subs here kind [] others es h = (tt, refl, h)
arms-hold rows subs here kind (arm ∷ arms) others [] h = absurd h
arms-hold rows subs here kind (arm ∷ arms) others (c ∷ []) h = absurd h.1
arms-hold rows subs here kind (arm ∷ arms) others (c ∷ e ∷ es) h =
    let rest = arms-hold rows subs here kind arms others es h.1.1 in
    (record { condition = h.0; arm = h.1.0; others = rest.0 }, ap suc rest.1, rest.2)

pub good-case : (here : Surroundings) (arms : List ArmPart) (otherwise : Option Part) → IsFilled arms → Every GoodArm arms → GoodOptional otherwise
    → GoodMeant here (case_meant here arms otherwise)
good-case here arms otherwise filled good o =
    good-node here common (case_made arms) (flat_map (arm_operands here) arms ++ else_operand here otherwise ∷ [])
    (arms-good here arms (else_operand here otherwise ∷ []) good (else-good here otherwise o, tt)) made where
      last : (rows : List (List Kind)) (subs : List Kind) (kind : Kind) (branch : Option Part) (es : List Expr)
          → HaveKinds rows subs es (taken_kinds kind (else_operand here branch ∷ [])) → HasKind rows subs (first_of es) kind
      last rows subs kind None [] h = absurd h
      last rows subs kind None (e ∷ es) h = h.0
      last rows subs kind (Some part) [] h = absurd h
      last rows subs kind (Some part) (e ∷ es) h = h.0

      made : (kind : Kind) (rows : List (List Kind)) (subs : List Kind) (es : List Expr)
          → HaveKinds rows subs es (taken_kinds kind (flat_map (arm_operands here) arms ++ else_operand here otherwise ∷ []))
          → HasKind rows subs (case_made arms es) kind
      made kind rows subs es h =
          let parts = arms-hold rows subs here kind arms (else_operand here otherwise ∷ []) es h in
          let one = at_least_one arms filled in
          let l = parts.1 in
          case-holds rows subs (arms_made arms es) (first_of (rest_made arms es)) kind (omega (arith, l, one)) parts.0
          (last rows subs kind otherwise (rest_made arms es) parts.2)

arms-plain : (here : Surroundings) (arms : List ArmPart) (otherwise : Option Part) → Every GoodArm arms → GoodOptional otherwise
    → any_aggregating (flat_map arm_parts arms ++ optional_part otherwise) ≡ false
    → Every PlainOperand (flat_map (arm_operands here) arms ++ else_operand here otherwise ∷ [])
arms-plain here [] None h o e = (plain-null, tt)
arms-plain here [] (Some part) h o e = (o.plain (left-false part.aggregating false e) here, tt)
arms-plain here (arm ∷ arms) otherwise h o e =
    let more = any_aggregating (flat_map arm_parts arms ++ optional_part otherwise) in
    let rest = right-false arm.condition.aggregating (arm.value.aggregating || more) e in (
      h.0.0.plain (left-false arm.condition.aggregating (arm.value.aggregating || more) e) here,
      (
        h.0.1.plain (left-false arm.value.aggregating more rest) here,
        arms-plain here arms otherwise h.1 o (right-false arm.value.aggregating more rest),
      ),
    )

pub plain-case : (here : Surroundings) (arms : List ArmPart) (otherwise : Option Part) → Every GoodArm arms → GoodOptional otherwise
    → any_aggregating (flat_map arm_parts arms ++ optional_part otherwise) ≡ false → IsPlain (case_meant here arms otherwise)
plain-case here arms otherwise h o e =
    plain-node common (case_made arms) (flat_map (arm_operands here) arms ++ else_operand here otherwise ∷ []) (arms-plain here arms otherwise h o e)
