-- What the form of an expression says is its text.
use Rattle.std.proofs.Common.{◌≡◌, ◌∙◌, ℕ, zero, suc, Bool, true, false, List, [], ◌∷◌, ◌++◌, map, refl, sym, ap, ap₂, append_assoc, append-nil}
use Rattle.std.specs.Prelude.{codes, slice_index_or}
use Rattle.null_logic.specs.declared.truth.Truth.{Truth}
use Rattle.null_logic.specs.declared.truth.Truth.TheVariants.{True, False, Unknown}
use Rattle.bag_algebra.specs.WellFormed.{is_additive}
use Rattle.bag_algebra.specs.built.Patterns.{OpOf, ChainOf, CaseOf, IsNullOf, IsTruthOf, SameOf}
use Rattle.bag_algebra.specs.declared.expr.Expr.{Expr, Row_of-Expr, Row_of-Arm, Row_of-ChainStep, more_of-Expr, end_of-Expr, more_of-Arm, end_of-Arm, more_of-ChainStep, end_of-ChainStep}
use Rattle.bag_algebra.specs.declared.expr.Expr.TheVariants.{Col, Lit, Sub}
use Rattle.tree_texts.specs.FormPlans as plan
use Rattle.tree_texts.specs.Forms.{ExprForm}
use Rattle.query_texts.specs.forms.ShownExpressions.{StepForm, ArmForm, chained, chain_of, terms, factors, cases, arms_of, truth_tested, unsaid, shown_expr, shown_parts, shown_steps, shown_arms}
use Rattle.tree_texts.specs.expressions.ExpressionTexts.{StepText, ArmText, chained_text, steps_text, cases_text, arm_text, arms_text, operated_text, truth_front, truth_back, expr_bytes, part_texts, step_texts, arm_texts}
use Rattle.query_texts.specs.forms.Pieces.{said, expr_said}
use Rattle.tree_texts.specs.expressions.Words.{unsaid_text}
use Rattle.query_texts.proofs.SaidOperators.{additive_said, multiplicative_said, literal_said, operated_said}

abbrev pub step_said : StepForm → StepText
step_said step = record { op = step.op; part = expr_said step.part }

abbrev pub arm_said : ArmForm → ArmText
arm_said arm = record { condition = expr_said arm.condition; value = expr_said arm.value }

-- ---- chains

terms_said : (steps : List StepForm) → said (plan.terms (terms steps)) ≡ steps_text true (map step_said steps)
terms_said [] = refl
terms_said (step ∷ steps) = ap₂ (λ word rest. (word ++ expr_said step.part) ++ rest) (additive_said step.op) (terms_said steps)

factors_said : (steps : List StepForm) → said (plan.factors (factors steps)) ≡ steps_text false (map step_said steps)
factors_said [] = refl
factors_said (step ∷ steps) = ap₂ (λ word rest. (word ++ expr_said step.part) ++ rest) (multiplicative_said step.op) (factors_said steps)

chain_said : (additive : Bool) (a : ExprForm) (step : StepForm) (steps : List StepForm)
    → expr_said (chain_of additive a step steps) ≡ codes "( " ++ (expr_said a ++ (steps_text additive (map step_said (step ∷ steps)) ++ codes ") "))
chain_said true a step steps =
    ap (λ t. codes "( " ++ ((expr_said a ++ t) ++ codes ") ")) (terms_said (step ∷ steps))
    ∙ ap (λ t. codes "( " ++ t) (append_assoc (expr_said a) (steps_text true (map step_said (step ∷ steps))) (codes ") "))
chain_said false a step steps =
    ap (λ t. codes "( " ++ ((expr_said a ++ t) ++ codes ") ")) (factors_said (step ∷ steps))
    ∙ ap (λ t. codes "( " ++ t) (append_assoc (expr_said a) (steps_text false (map step_said (step ∷ steps))) (codes ") "))

chained_said : (a : ExprForm) (steps : List StepForm) → expr_said (chained a steps) ≡ chained_text (expr_said a) (map step_said steps)
chained_said a [] = sym (append-nil (expr_said a))
chained_said a (step ∷ steps) = chain_said (is_additive step.op) a step steps

-- ---- cases

pub arms_said : (arms : List ArmForm) → said (plan.arms (arms_of arms)) ≡ arms_text (map arm_said arms)
arms_said [] = refl
arms_said (arm ∷ arms) = ap (λ rest. arm_text (arm_said arm) ++ rest) (arms_said arms)

pub cases_said : (arms : List ArmForm) (otherwise : ExprForm) → expr_said (cases arms otherwise) ≡ cases_text (map arm_said arms) (expr_said otherwise)
cases_said [] otherwise = sym (append-nil (expr_said otherwise))
cases_said (arm ∷ arms) otherwise =
    ap (λ rest. codes "CASE " ++ (arm_text (arm_said arm) ++ (rest ++ (codes "ELSE " ++ (expr_said otherwise ++ codes "END "))))) (arms_said arms)
    ∙ ap (λ t. codes "CASE " ++ t)
    (sym (append_assoc (arm_text (arm_said arm)) (arms_text (map arm_said arms)) (codes "ELSE " ++ (expr_said otherwise ++ codes "END "))))

-- ---- tests

truth_said : (truth : Truth) (a : ExprForm) → expr_said (truth_tested truth a) ≡ truth_front truth ++ (expr_said a ++ truth_back truth)
truth_said True a = ap (λ t. codes "( " ++ t) (append_assoc (expr_said a) (codes "IS TRUE ") (codes ") "))
truth_said False a = ap (λ t. codes "( " ++ t) (append_assoc (expr_said a) (codes "IS FALSE ") (codes ") "))
truth_said Unknown a =
    ap (λ t. codes "( ( NOT " ++ (t ++ codes ") ")) (append_assoc (expr_said a) (codes ") ") (codes "IS NULL "))
    ∙ ap (λ t. codes "( ( NOT " ++ t) (append_assoc (expr_said a) (codes ") IS NULL ") (codes ") "))

same_said : (a b : List ℕ) → codes "( " ++ ((a ++ (codes "IS NOT DISTINCT FROM " ++ b)) ++ codes ") ")
    ≡ codes "( " ++ (a ++ (codes "IS NOT DISTINCT FROM " ++ (b ++ codes ") ")))
same_said a b = ap (λ t. codes "( " ++ t) (append_assoc a (codes "IS NOT DISTINCT FROM " ++ b) (codes ") "))

-- ---- expressions

sub_said : (subs : List ExprForm) (number : ℕ) → expr_said (slice_index_or subs number unsaid) ≡ slice_index_or (map expr_said subs) number unsaid_text
sub_said [] number = refl
sub_said (sub ∷ subs) zero = refl
sub_said (sub ∷ subs) (suc number) = sub_said subs number

module _ (prefix : List ℕ) (subs : List ExprForm) where
  mutual
    pub expression_said : (e : Expr) → expr_said (shown_expr prefix subs e) ≡ expr_bytes prefix (map expr_said subs) e
    expression_said (Col level place) = refl
    expression_said (Lit v kind) = literal_said v kind
    expression_said (OpOf op _ parts) = operated_said op (shown_parts prefix subs parts) ∙ ap (operated_text op) (parts_said parts)
    expression_said (ChainOf first _ steps) =
        chained_said (shown_expr prefix subs first) (shown_steps prefix subs steps) ∙ ap₂ chained_text (expression_said first) (steps_said steps)
    expression_said (CaseOf _ arms otherwise) =
        cases_said (shown_arms prefix subs arms) (shown_expr prefix subs otherwise) ∙ ap₂ cases_text (case_arms_said arms) (expression_said otherwise)
    expression_said (Sub number) = sub_said subs number
    expression_said (IsNullOf part) =
        ap (λ t. codes "( " ++ t) (append_assoc (expr_said (shown_expr prefix subs part)) (codes "IS NULL ") (codes ") "))
        ∙ ap (λ t. codes "( " ++ (t ++ codes "IS NULL ) ")) (expression_said part)
    expression_said (IsTruthOf truth part) =
        truth_said truth (shown_expr prefix subs part) ∙ ap (λ t. truth_front truth ++ (t ++ truth_back truth)) (expression_said part)
    expression_said (SameOf first second) =
        same_said (expr_said (shown_expr prefix subs first)) (expr_said (shown_expr prefix subs second))
        ∙ ap₂ (λ a b. codes "( " ++ (a ++ (codes "IS NOT DISTINCT FROM " ++ (b ++ codes ") ")))) (expression_said first) (expression_said second)

    parts_said : {m : _} (parts : Row_of-Expr m) → map expr_said (shown_parts prefix subs parts) ≡ part_texts prefix (map expr_said subs) parts
    parts_said end_of-Expr = refl
    parts_said (more_of-Expr part parts) = ap₂ (λ a more. a ∷ more) (expression_said part) (parts_said parts)

    steps_said : {m : _} (steps : Row_of-ChainStep m) → map step_said (shown_steps prefix subs steps) ≡ step_texts prefix (map expr_said subs) steps
    steps_said end_of-ChainStep = refl
    steps_said (more_of-ChainStep op part steps) =
        ap₂ (λ a more. record { op = op; part = a } ∷ more) (expression_said part) (steps_said steps)

    case_arms_said : {m : _} (arms : Row_of-Arm m) → map arm_said (shown_arms prefix subs arms) ≡ arm_texts prefix (map expr_said subs) arms
    case_arms_said end_of-Arm = refl
    case_arms_said (more_of-Arm condition arm arms) =
        ap₂ (λ (a : ArmText) more. a ∷ more) (ap₂ (λ c v. record { condition = c; value = v }) (expression_said condition) (expression_said arm)) (case_arms_said arms)
