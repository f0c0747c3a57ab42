-- The form of an expression has no aggregate of its own core.
use Rattle.std.proofs.Common.{ℕ, zero, suc, Bool, true, false, if◌then◌else◌, List, [], ◌∷◌, Option, Some, None}
use Rattle.std.specs.Int.{is_negative}
use Rattle.std.specs.Prelude.{◌==◌, slice_index_or, unsigned_abs}
use Rattle.null_logic.specs.declared.compare.Compare.TheVariants as compare
use Rattle.null_logic.specs.declared.operator.Operator.{Operator}
use Rattle.null_logic.specs.declared.operator.Operator.TheVariants as op
use Rattle.null_logic.specs.declared.truth.Truth.{Truth}
use Rattle.null_logic.specs.declared.truth.Truth.TheVariants.{True, False, Unknown}
use Rattle.perm_values.specs.declared.kind.Kind.{Kind}
use Rattle.perm_values.specs.declared.value.Value.{Value}
use Rattle.perm_values.specs.declared.value.Value.TheVariants.{Null, Integer, Text, Boolean}
use Rattle.bag_algebra.specs.WellFormed.{is_additive}
use Rattle.bag_algebra.specs.built.Patterns.{OpOf, ChainOf, CaseOf, IsNullOf, IsTruthOf, SameOf}
use Rattle.bag_algebra.specs.declared.expr.Expr.{Expr, Row_of-Expr, Row_of-Arm, Row_of-ChainStep, more_of-Expr, end_of-Expr, more_of-Arm, end_of-Arm, more_of-ChainStep, end_of-ChainStep}
use Rattle.bag_algebra.specs.declared.expr.Expr.TheVariants.{Col, Lit, Sub}
use Rattle.bag_algebra.specs.declared.query.SubKind.{SubKind}
use Rattle.bag_algebra.specs.declared.query.SubKind.TheVariants as ask
use Rattle.tree_texts.specs.Forms as f
use Rattle.tree_texts.specs.Forms.{ExprForm, QueryForm, enclosed}
use Rattle.query_texts.specs.forms.ShownExpressions.{ArmForm, StepForm, arms_of, beside, cases, chain_of, chained, factors, least, literal, never_arms, operated, others, shown_arms, shown_expr, shown_parts, shown_steps, signed, terms, truth_tested, unsaid}
use Rattle.query_texts.specs.forms.ShownQueries.{asked, tested_part}
use Rattle.sql_printer.proofs.expressions.PlainTrees.{Plain, PlainArms, PlainExprs, PlainFactors, PlainTerms}

abbrev pub AllPlain : List ExprForm → Type 0
AllPlain [] = Unit {0}
AllPlain (form ∷ forms) = Plain form × AllPlain forms

plain-others : (forms : List ExprForm) → AllPlain forms → PlainExprs (others forms)
plain-others [] p = tt
plain-others (form ∷ forms) p = (p.0, plain-others forms p.1)

plain-operated : (o : Operator) (parts : List ExprForm) → AllPlain parts → Plain (operated o parts)
plain-operated op.And [] p = tt
plain-operated op.And (a ∷ []) p = tt
plain-operated op.And (a ∷ b ∷ more) p = (p.0, p.1.0, plain-others more p.1.1)
plain-operated op.Or [] p = tt
plain-operated op.Or (a ∷ []) p = tt
plain-operated op.Or (a ∷ b ∷ more) p = (p.0, p.1.0, plain-others more p.1.1)
plain-operated op.Not [] p = tt
plain-operated op.Not (a ∷ []) p = p.0
plain-operated op.Not (a ∷ b ∷ more) p = tt
plain-operated op.Negate [] p = tt
plain-operated op.Negate (a ∷ []) p = p.0
plain-operated op.Negate (a ∷ b ∷ more) p = tt
plain-operated (op.Compare c) [] p = tt
plain-operated (op.Compare c) (a ∷ []) p = tt
plain-operated (op.Compare c) (a ∷ b ∷ []) p = (p.0, p.1.0)
plain-operated (op.Compare c) (a ∷ b ∷ d ∷ more) p = tt
plain-operated (op.Arith c) parts p = tt
plain-operated op.Like [] p = tt
plain-operated op.Like (a ∷ []) p = tt
plain-operated op.Like (a ∷ b ∷ []) p = (p.0, p.1.0)
plain-operated op.Like (a ∷ b ∷ d ∷ more) p = tt
plain-operated op.Between [] p = tt
plain-operated op.Between (a ∷ []) p = tt
plain-operated op.Between (a ∷ b ∷ []) p = tt
plain-operated op.Between (a ∷ b ∷ d ∷ []) p = (p.0, p.1.0, p.1.1.0)
plain-operated op.Between (a ∷ b ∷ d ∷ e ∷ more) p = tt
plain-operated op.InList [] p = tt
plain-operated op.InList (a ∷ []) p = tt
plain-operated op.InList (a ∷ b ∷ []) p = (p.0, p.1.0)
plain-operated op.InList (a ∷ b ∷ d ∷ more) p = (p.0, p.1.0, plain-others (d ∷ more) p.1.1)
plain-operated op.Coalesce [] p = tt
plain-operated op.Coalesce (a ∷ []) p = p.0
plain-operated op.Coalesce (a ∷ b ∷ more) p = (p.0, plain-others (b ∷ more) p.1)
plain-operated op.NullIf [] p = tt
plain-operated op.NullIf (a ∷ []) p = tt
plain-operated op.NullIf (a ∷ b ∷ []) p = (p.0, p.1.0)
plain-operated op.NullIf (a ∷ b ∷ d ∷ more) p = tt

plain-signed : (below : Bool) (amount : ℕ) → Plain (signed below amount)
plain-signed false amount = tt
plain-signed true amount = by (amount == 9223372036854775808)
  where
    by : (b : Bool) → Plain (if b then least else enclosed (f.negative (f.integer amount)))
    by true = (tt, tt, tt)
    by false = tt

plain-literal : (v : Value) (kind : Kind) → Plain (literal v kind)
plain-literal Null kind = tt
plain-literal (Integer number) kind = plain-signed (is_negative number) (unsigned_abs number)
plain-literal (Text spelled) kind = tt
plain-literal (Boolean truth) kind = tt

plain-truth : (truth : Truth) (a : ExprForm) → Plain a → Plain (truth_tested truth a)
plain-truth True a p = p
plain-truth False a p = p
plain-truth Unknown a p = p

abbrev AllSteps : List StepForm → Type 0
AllSteps [] = Unit {0}
AllSteps (step ∷ steps) = Plain step.part × AllSteps steps

plain-terms : (steps : List StepForm) → AllSteps steps → PlainTerms (terms steps)
plain-terms [] p = tt
plain-terms (step ∷ steps) p = (p.0, plain-terms steps p.1)

plain-factors : (steps : List StepForm) → AllSteps steps → PlainFactors (factors steps)
plain-factors [] p = tt
plain-factors (step ∷ steps) p = (p.0, plain-factors steps p.1)

plain-chain : (additive : Bool) (a : ExprForm) (step : StepForm) (steps : List StepForm) → Plain a → Plain step.part → AllSteps steps → Plain (chain_of additive a step steps)
plain-chain true a step steps p q r = (p, q, plain-terms steps r)
plain-chain false a step steps p q r = (p, q, plain-factors steps r)

plain-chained : (a : ExprForm) (steps : List StepForm) → Plain a → AllSteps steps → Plain (chained a steps)
plain-chained a [] p q = p
plain-chained a (step ∷ steps) p q = plain-chain (is_additive step.op) a step steps p q.0 q.1

abbrev AllArms : List ArmForm → Type 0
AllArms [] = Unit {0}
AllArms (arm ∷ arms) = Plain arm.condition × Plain arm.value × AllArms arms

plain-arms_of : (arms : List ArmForm) → AllArms arms → PlainArms (arms_of arms)
plain-arms_of [] p = tt
plain-arms_of (arm ∷ arms) p = (p.0, p.1, plain-arms_of arms p.2)

plain-cases : (arms : List ArmForm) (otherwise : ExprForm) → AllArms arms → Plain otherwise → Plain (cases arms otherwise)
plain-cases [] otherwise p q = q
plain-cases (arm ∷ arms) otherwise p q = (p.0, p.1, plain-arms_of arms p.2, q)

plain-never_arms : (kind : Kind) (forms : List ExprForm) → AllPlain forms → AllArms (never_arms kind forms)
plain-never_arms kind [] p = tt
plain-never_arms kind (form ∷ forms) p = (p.0, tt, plain-never_arms kind forms p.1)

pub plain-beside : (kind : Kind) (forms : List ExprForm) (a : ExprForm) → AllPlain forms → Plain a → Plain (beside kind forms a)
plain-beside kind forms a p q = plain-cases (never_arms kind forms) a (plain-never_arms kind forms p) q

plain-at : (forms : List ExprForm) (number : ℕ) → AllPlain forms → Plain (slice_index_or forms number unsaid)
plain-at [] number p = tt
plain-at (form ∷ forms) zero p = p.0
plain-at (form ∷ forms) (suc number) p = plain-at forms number p.1

module _ (prefix : List ℕ) (forms : List ExprForm) (all : AllPlain forms) where
  mutual
    pub plain-shown : (e : Expr) → Plain (shown_expr prefix forms e)
    plain-shown (Col level place) = tt
    plain-shown (Lit v kind) = plain-literal v kind
    plain-shown (OpOf o _ parts) = plain-operated o (shown_parts prefix forms parts) (plain-parts parts)
    plain-shown (ChainOf first _ steps) = plain-chained (shown_expr prefix forms first) (shown_steps prefix forms steps) (plain-shown first) (plain-steps steps)
    plain-shown (CaseOf _ arms otherwise) = plain-cases (shown_arms prefix forms arms) (shown_expr prefix forms otherwise) (plain-arms arms) (plain-shown otherwise)
    plain-shown (Sub number) = plain-at forms number all
    plain-shown (IsNullOf part) = plain-shown part
    plain-shown (IsTruthOf truth part) = plain-truth truth (shown_expr prefix forms part) (plain-shown part)
    plain-shown (SameOf first second) = (plain-shown first, plain-shown second)

    plain-parts : {m : _} (parts : Row_of-Expr m) → AllPlain (shown_parts prefix forms parts)
    plain-parts end_of-Expr = tt
    plain-parts (more_of-Expr part parts) = (plain-shown part, plain-parts parts)

    plain-steps : {m : _} (steps : Row_of-ChainStep m) → AllSteps (shown_steps prefix forms steps)
    plain-steps end_of-ChainStep = tt
    plain-steps (more_of-ChainStep operation part steps) = (plain-shown part, plain-steps steps)

    plain-arms : {m : _} (arms : Row_of-Arm m) → AllArms (shown_arms prefix forms arms)
    plain-arms end_of-Arm = tt
    plain-arms (more_of-Arm condition arm arms) = (plain-shown condition, plain-shown arm, plain-arms arms)

-- ---- sublinks

pub plain-tested : (prefix : List ℕ) (tested : Option Expr) → Plain (tested_part prefix tested)
plain-tested prefix None = tt
plain-tested prefix (Some part) = plain-shown prefix [] tt part

pub plain-asked : (kind : SubKind) (a : ExprForm) (q : QueryForm) → Plain a → Plain (asked kind a q)
plain-asked ask.Exists a q p = tt
plain-asked (ask.Any compare.Equal) a q p = p
plain-asked (ask.Any compare.NotEqual) a q p = p
plain-asked (ask.Any compare.Less) a q p = p
plain-asked (ask.Any compare.LessEqual) a q p = p
plain-asked (ask.Any compare.Greater) a q p = p
plain-asked (ask.Any compare.GreaterEqual) a q p = p
plain-asked (ask.All compare.Equal) a q p = p
plain-asked (ask.All compare.NotEqual) a q p = p
plain-asked (ask.All compare.Less) a q p = p
plain-asked (ask.All compare.LessEqual) a q p = p
plain-asked (ask.All compare.Greater) a q p = p
plain-asked (ask.All compare.GreaterEqual) a q p = p
plain-asked ask.Scalar a q p = tt
