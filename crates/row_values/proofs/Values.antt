-- What an expression gives, from what its parts give.
use Rattle.std.proofs.Common.{◌≡◌, List, [], ◌∷◌, ◌++◌, refl, ap, subst, ◌∙◌, Option, Some, None, Ok}
use Rattle.null_logic.specs.declared.operator.Operator.{Operator}
use Rattle.null_logic.specs.declared.truth.Truth.{Truth}
use Rattle.perm_values.specs.declared.value.Value.{Value}
use Rattle.bag_algebra.specs.Bags.{Row}
use Rattle.bag_algebra.specs.built.Openings.{value-Op, value-Chain, value-Case, value-IsNull, value-IsTruth, value-Same}
use Rattle.bag_algebra.specs.Children.{part_values, arms_value}
use Rattle.bag_algebra.specs.Expressions.{value, operate, arith_values, chain, Step}
use Rattle.bag_algebra.specs.Outcome.{Outcome, Good, Bad, and_then, mapped, both}
use Rattle.bag_algebra.specs.declared.expr.Arm.{Arm}
use Rattle.bag_algebra.specs.declared.expr.ChainStep.{ChainStep}
use Rattle.bag_algebra.specs.declared.expr.Expr.{Expr}
use Rattle.bag_algebra.specs.declared.expr.Expr.TheVariants.{Op, Chain, Case, IsNull, IsTruth, Same}
use Rattle.row_values.specs.Parts.{chain_of, gone_on, null_test, truth_test, same_as, Chooses}

module _ (u : Row) (env : List Row) (subs : List Value) where
  module _ (expr : Expr) where
    on : (made : Expr) (o : Outcome Value) → expr ≡ made → value made u env subs ≡ o → value expr u env subs ≡ o
    on made o e e' = ap (λ x. value x u env subs) e ∙ e'

    pub on_op : (op : Operator) (parts : List Expr) → expr ≡ Op op parts → value expr u env subs ≡ and_then (part_values parts u env subs) (operate op)
    on_op op parts e = on _ _ e (value-Op u env subs op parts)

    pub on_chain : (first : Expr) (steps : List ChainStep) → expr ≡ Chain first steps → value expr u env subs ≡ chain_of (value first u env subs) steps u env subs
    on_chain first steps e = on _ _ e (value-Chain u env subs first steps)

    pub on_case : (arms : List Arm) (otherwise : Expr) → expr ≡ Case arms otherwise → value expr u env subs ≡ arms_value arms u env subs (value otherwise u env subs)
    on_case arms otherwise e = on _ _ e (value-Case u env subs arms otherwise)

    pub on_is_null : (part : Expr) → expr ≡ IsNull part → value expr u env subs ≡ mapped null_test (value part u env subs)
    on_is_null part e = on _ _ e (value-IsNull u env subs part)

    pub on_is_truth : (truth : Truth) (part : Expr) → expr ≡ IsTruth truth part → value expr u env subs ≡ mapped (truth_test truth) (value part u env subs)
    on_is_truth truth part e = on _ _ e (value-IsTruth u env subs truth part)

    pub on_same : (first second : Expr) → expr ≡ Same first second → value expr u env subs ≡ both same_as (value first u env subs) (value second u env subs)
    on_same first second e = on _ _ e (value-Same u env subs first second)

further : (o : Outcome Value) (steps : List Step) (step : Step) →
    ((w : Value) → chain w (steps ++ step ∷ []) ≡ gone_on (chain w steps) step.operation step.operand) →
    and_then o (λ w. chain w (steps ++ step ∷ [])) ≡ gone_on (and_then o (λ w. chain w steps)) step.operation step.operand
further (Good w) steps step h = h w
further (Bad f) steps step h = refl

one_step : (o : Outcome Value) → and_then o Good ≡ o
one_step (Good w) = refl
one_step (Bad f) = refl

-- a chain that is longer by one step
pub chain_more : (v : Value) (steps : List Step) (step : Step) → chain v (steps ++ step ∷ []) ≡ gone_on (chain v steps) step.operation step.operand
chain_more v [] step = one_step (arith_values step.operation v step.operand)
chain_more v (first ∷ steps) step = further (arith_values first.operation v first.operand) steps step (λ w. chain_more w steps step)

pub chose_some : (arms : Outcome Value → Outcome Value) (found : Option Value) (v : Value) → found ≡ Some v → Chooses arms (Ok found) →
    (otherwise : Outcome Value) → arms otherwise ≡ Good v
chose_some arms found v e h = let k : Chooses arms (Ok (Some v)) = subst (λ f. Chooses arms (Ok f)) e h in k

pub chose_none : (arms : Outcome Value → Outcome Value) (found : Option Value) → found ≡ None → Chooses arms (Ok found) →
    (otherwise : Outcome Value) → arms otherwise ≡ otherwise
chose_none arms found e h = let k : Chooses arms (Ok None) = subst (λ f. Chooses arms (Ok f)) e h in k
