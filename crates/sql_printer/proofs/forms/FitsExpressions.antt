-- The form of an expression can be written where its literals can.
use Rattle.std.proofs.Common.{◌≡◌, ℕ, ◌<◌, ◌^◌, ◌+◌, zero, suc, pos, negsuc, Bool, true, false, if◌then◌else◌, List, [], ◌∷◌, drop, Option, Some, None, refl, true≢false, arith}
use Rattle.std.specs.Fmt.{decimal}
use Rattle.std.specs.Int.{is_negative}
use Rattle.std.specs.Prelude.{◌==◌, slice_index_or}
use Rattle.std.specs.Str.{IsAscii, IsUtf8}
use Rattle.std.proofs.lemmas.Bool.Decides.{nat_tests}
use Rattle.std.proofs.lemmas.Str.{IsAscii-drop, IsUtf8-append, IsUtf8-from_ascii}
use Rattle.std.proofs.DigitsParse.{digits-IsUtf8}
use Rattle.null_logic.specs.Arithmetic.{fits_64}
use Rattle.null_logic.specs.declared.compare.Compare.TheVariants as compare
use Rattle.null_logic.specs.declared.operator.Operator.{Operator}
use Rattle.null_logic.specs.declared.operator.Operator.TheVariants as op
use Rattle.null_logic.specs.declared.truth.Truth.{Truth}
use Rattle.null_logic.specs.declared.truth.Truth.TheVariants.{True, False, Unknown}
use Rattle.perm_values.specs.declared.kind.Kind.{Kind}
use Rattle.perm_values.specs.declared.value.Value.{Value}
use Rattle.perm_values.specs.declared.value.Value.TheVariants.{Null, Integer, Text, Boolean}
use Rattle.bag_algebra.specs.WellFormed.{is_additive}
use Rattle.bag_algebra.specs.built.Patterns.{OpOf, ChainOf, CaseOf, IsNullOf, IsTruthOf, SameOf}
use Rattle.bag_algebra.specs.declared.expr.Expr.{Expr, Row_of-Expr, Row_of-Arm, Row_of-ChainStep, more_of-Expr, end_of-Expr, more_of-Arm, end_of-Arm, more_of-ChainStep, end_of-ChainStep}
use Rattle.bag_algebra.specs.declared.expr.Expr.TheVariants.{Col, Lit, Sub}
use Rattle.bag_algebra.specs.declared.query.SubKind.{SubKind}
use Rattle.bag_algebra.specs.declared.query.SubKind.TheVariants as ask
use Rattle.tree_texts.specs.Fits.{FitsArms, FitsExpr, FitsExprs, FitsFactors, FitsQuery, FitsTerms}
use Rattle.tree_texts.specs.Forms as f
use Rattle.tree_texts.specs.Forms.{ExprForm, QueryForm, enclosed}
use Rattle.tree_texts.specs.expressions.Names.{column_name}
use Rattle.query_texts.specs.forms.ShownExpressions.{ArmForm, StepForm, arms_of, beside, cases, chain_of, chained, factors, least, literal, never_arms, operated, others, shown_arms, shown_expr, shown_parts, shown_steps, signed, terms, truth_tested, unsaid}
use Rattle.query_texts.specs.forms.ShownQueries.{asked, tested_part}
use Rattle.sql_printer.specs.rows.Writable.{Writable, WritableArms, WritableOption, WritableParts, WritableSteps, WritableValue}

abbrev pub AllFit : List ExprForm → Type 0
AllFit [] = Unit {0}
AllFit (form ∷ forms) = FitsExpr form × AllFit forms

fits-others : (forms : List ExprForm) → AllFit forms → FitsExprs (others forms)
fits-others [] p = tt
fits-others (form ∷ forms) p = (p.0, fits-others forms p.1)

fits-operated : (o : Operator) (parts : List ExprForm) → AllFit parts → FitsExpr (operated o parts)
fits-operated op.And [] p = tt
fits-operated op.And (a ∷ []) p = tt
fits-operated op.And (a ∷ b ∷ more) p = (p.0, p.1.0, fits-others more p.1.1)
fits-operated op.Or [] p = tt
fits-operated op.Or (a ∷ []) p = tt
fits-operated op.Or (a ∷ b ∷ more) p = (p.0, p.1.0, fits-others more p.1.1)
fits-operated op.Not [] p = tt
fits-operated op.Not (a ∷ []) p = p.0
fits-operated op.Not (a ∷ b ∷ more) p = tt
fits-operated op.Negate [] p = tt
fits-operated op.Negate (a ∷ []) p = p.0
fits-operated op.Negate (a ∷ b ∷ more) p = tt
fits-operated (op.Compare c) [] p = tt
fits-operated (op.Compare c) (a ∷ []) p = tt
fits-operated (op.Compare c) (a ∷ b ∷ []) p = (p.0, p.1.0)
fits-operated (op.Compare c) (a ∷ b ∷ d ∷ more) p = tt
fits-operated (op.Arith c) parts p = tt
fits-operated op.Like [] p = tt
fits-operated op.Like (a ∷ []) p = tt
fits-operated op.Like (a ∷ b ∷ []) p = (p.0, p.1.0)
fits-operated op.Like (a ∷ b ∷ d ∷ more) p = tt
fits-operated op.Between [] p = tt
fits-operated op.Between (a ∷ []) p = tt
fits-operated op.Between (a ∷ b ∷ []) p = tt
fits-operated op.Between (a ∷ b ∷ d ∷ []) p = (p.0, p.1.0, p.1.1.0)
fits-operated op.Between (a ∷ b ∷ d ∷ e ∷ more) p = tt
fits-operated op.InList [] p = tt
fits-operated op.InList (a ∷ []) p = tt
fits-operated op.InList (a ∷ b ∷ []) p = (p.0, p.1.0)
fits-operated op.InList (a ∷ b ∷ d ∷ more) p = (p.0, p.1.0, fits-others (d ∷ more) p.1.1)
fits-operated op.Coalesce [] p = tt
fits-operated op.Coalesce (a ∷ []) p = p.0
fits-operated op.Coalesce (a ∷ b ∷ more) p = (p.0, fits-others (b ∷ more) p.1)
fits-operated op.NullIf [] p = tt
fits-operated op.NullIf (a ∷ []) p = tt
fits-operated op.NullIf (a ∷ b ∷ []) p = (p.0, p.1.0)
fits-operated op.NullIf (a ∷ b ∷ d ∷ more) p = tt

fits-number : (number : ℕ) → fits_64 (pos number) ≡ true → number < 2 ^ 63
fits-number number fits = grind (arith, nat_tests, fits)

-- the amount of the least integer is written as a difference
below : (n : ℕ) (b : Bool) → (suc n == 9223372036854775808) ≡ b → fits_64 (negsuc n) ≡ true
    → FitsExpr (if b then least else enclosed (f.negative (f.integer (suc n))))
below n true e fits = (omega arith, omega arith, tt)
below n false e fits = grind (arith, nat_tests, e, fits)

above : (n : ℕ) (b : Bool) → b ≡ false → fits_64 (pos n) ≡ true → FitsExpr (signed b n)
above n true e fits = absurd (true≢false e)
above n false e fits = fits-number n fits

fits-literal : (v : Value) (kind : Kind) → WritableValue v → FitsExpr (literal v kind)
fits-literal Null kind w = tt
fits-literal (Integer (pos n)) kind w = above n (is_negative (pos n)) (grind (arith, nat_tests)) w
fits-literal (Integer (negsuc n)) kind w = below n (suc n == 9223372036854775808) refl w
fits-literal (Text spelled) kind w = w
fits-literal (Boolean truth) kind w = tt

fits-truth : (truth : Truth) (a : ExprForm) → FitsExpr a → FitsExpr (truth_tested truth a)
fits-truth True a p = p
fits-truth False a p = p
fits-truth Unknown a p = p

abbrev AllSteps : List StepForm → Type 0
AllSteps [] = Unit {0}
AllSteps (step ∷ steps) = FitsExpr step.part × AllSteps steps

fits-terms : (steps : List StepForm) → AllSteps steps → FitsTerms (terms steps)
fits-terms [] p = tt
fits-terms (step ∷ steps) p = (p.0, fits-terms steps p.1)

fits-factors : (steps : List StepForm) → AllSteps steps → FitsFactors (factors steps)
fits-factors [] p = tt
fits-factors (step ∷ steps) p = (p.0, fits-factors steps p.1)

fits-chain : (additive : Bool) (a : ExprForm) (step : StepForm) (steps : List StepForm) → FitsExpr a → FitsExpr step.part → AllSteps steps → FitsExpr (chain_of additive a step steps)
fits-chain true a step steps p q r = (p, q, fits-terms steps r)
fits-chain false a step steps p q r = (p, q, fits-factors steps r)

fits-chained : (a : ExprForm) (steps : List StepForm) → FitsExpr a → AllSteps steps → FitsExpr (chained a steps)
fits-chained a [] p q = p
fits-chained a (step ∷ steps) p q = fits-chain (is_additive step.op) a step steps p q.0 q.1

abbrev AllArms : List ArmForm → Type 0
AllArms [] = Unit {0}
AllArms (arm ∷ arms) = FitsExpr arm.condition × FitsExpr arm.value × AllArms arms

fits-arms_of : (arms : List ArmForm) → AllArms arms → FitsArms (arms_of arms)
fits-arms_of [] p = tt
fits-arms_of (arm ∷ arms) p = (p.0, p.1, fits-arms_of arms p.2)

fits-cases : (arms : List ArmForm) (otherwise : ExprForm) → AllArms arms → FitsExpr otherwise → FitsExpr (cases arms otherwise)
fits-cases [] otherwise p q = q
fits-cases (arm ∷ arms) otherwise p q = (p.0, p.1, fits-arms_of arms p.2, q)

fits-never_arms : (kind : Kind) (forms : List ExprForm) → AllFit forms → AllArms (never_arms kind forms)
fits-never_arms kind [] p = tt
fits-never_arms kind (form ∷ forms) p = (p.0, tt, fits-never_arms kind forms p.1)

pub fits-beside : (kind : Kind) (forms : List ExprForm) (a : ExprForm) → AllFit forms → FitsExpr a → FitsExpr (beside kind forms a)
fits-beside kind forms a p q = fits-cases (never_arms kind forms) a (fits-never_arms kind forms p) q

fits-at : (forms : List ExprForm) (number : ℕ) → AllFit forms → FitsExpr (slice_index_or forms number unsaid)
fits-at [] number p = tt
fits-at (form ∷ forms) zero p = p.0
fits-at (form ∷ forms) (suc number) p = fits-at forms number p.1

-- ---- names

pub fits-name : (prefix : List ℕ) → IsAscii prefix → (level number : ℕ) → IsUtf8 (column_name prefix level number)
fits-name prefix ascii level number =
    IsUtf8-append (drop level prefix) (decimal number) (IsUtf8-from_ascii (drop level prefix) (IsAscii-drop prefix level ascii))
    (digits-IsUtf8 10 false number (omega arith) (omega arith))

-- ---- expressions

module _ (prefix : List ℕ) (ascii : IsAscii prefix) (forms : List ExprForm) (all : AllFit forms) where
  mutual
    pub fits-shown : (e : Expr) → Writable e → FitsExpr (shown_expr prefix forms e)
    fits-shown (Col level place) w = fits-name prefix ascii level (place + 1)
    fits-shown (Lit v kind) w = fits-literal v kind w
    fits-shown (OpOf o _ parts) w = fits-operated o (shown_parts prefix forms parts) (fits-parts parts w)
    fits-shown (ChainOf first _ steps) w =
        fits-chained (shown_expr prefix forms first) (shown_steps prefix forms steps) (fits-shown first w.0) (fits-steps steps w.1)
    fits-shown (CaseOf _ arms otherwise) w =
        fits-cases (shown_arms prefix forms arms) (shown_expr prefix forms otherwise) (fits-arms arms w.0) (fits-shown otherwise w.1)
    fits-shown (Sub number) w = fits-at forms number all
    fits-shown (IsNullOf part) w = fits-shown part w
    fits-shown (IsTruthOf truth part) w = fits-truth truth (shown_expr prefix forms part) (fits-shown part w)
    fits-shown (SameOf first second) w = (fits-shown first w.0, fits-shown second w.1)

    fits-parts : {m : _} (parts : Row_of-Expr m) → WritableParts parts → AllFit (shown_parts prefix forms parts)
    fits-parts end_of-Expr w = tt
    fits-parts (more_of-Expr part parts) w = (fits-shown part w.0, fits-parts parts w.1)

    fits-steps : {m : _} (steps : Row_of-ChainStep m) → WritableSteps steps → AllSteps (shown_steps prefix forms steps)
    fits-steps end_of-ChainStep w = tt
    fits-steps (more_of-ChainStep operation part steps) w = (fits-shown part w.0, fits-steps steps w.1)

    fits-arms : {m : _} (arms : Row_of-Arm m) → WritableArms arms → AllArms (shown_arms prefix forms arms)
    fits-arms end_of-Arm w = tt
    fits-arms (more_of-Arm condition arm arms) w = (fits-shown condition w.0, fits-shown arm w.1, fits-arms arms w.2)

-- ---- sublinks

pub fits-tested : (prefix : List ℕ) → IsAscii prefix → (tested : Option Expr) → WritableOption tested → FitsExpr (tested_part prefix tested)
fits-tested prefix ascii None w = tt
fits-tested prefix ascii (Some part) w = fits-shown prefix ascii [] tt part w

pub fits-asked : (kind : SubKind) (a : ExprForm) (q : QueryForm) → FitsExpr a → FitsQuery q → FitsExpr (asked kind a q)
fits-asked ask.Exists a q p h = h
fits-asked (ask.Any compare.Equal) a q p h = (p, h)
fits-asked (ask.Any compare.NotEqual) a q p h = (p, h)
fits-asked (ask.Any compare.Less) a q p h = (p, h)
fits-asked (ask.Any compare.LessEqual) a q p h = (p, h)
fits-asked (ask.Any compare.Greater) a q p h = (p, h)
fits-asked (ask.Any compare.GreaterEqual) a q p h = (p, h)
fits-asked (ask.All compare.Equal) a q p h = (p, h)
fits-asked (ask.All compare.NotEqual) a q p h = (p, h)
fits-asked (ask.All compare.Less) a q p h = (p, h)
fits-asked (ask.All compare.LessEqual) a q p h = (p, h)
fits-asked (ask.All compare.Greater) a q p h = (p, h)
fits-asked (ask.All compare.GreaterEqual) a q p h = (p, h)
fits-asked ask.Scalar a q p h = h
