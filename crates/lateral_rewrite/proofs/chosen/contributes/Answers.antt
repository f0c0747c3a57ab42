use Rattle.std.proofs.Common.{◌≡◌, ◌∙◌, ◌∷◌, [], IfOk, ap, subst}
use Rattle.null_logic.specs.declared.operator.Operator.TheVariants as op
use Rattle.bag_algebra.specs.declared.expr.Expr.{Expr}
use Rattle.bag_algebra.specs.declared.expr.Expr.TheVariants.{Op}
use Rattle.lateral_rewrite.proofs.chosen.contributes.Goals as goal
use Rattle.lateral_rewrite.specs.Dependent.{compared}

pub returns : goal.returns
returns c =
    subst (λ (made : Expr). IfOk c.either.result (λ test. test ≡ made))
    (λ i. Op op.Or (c.in_ok-first.ensures i ∷ (c.in-Ok.ensures ∙ ap (compared c.args.choice) c.in_ok-behind.ensures.total) i ∷ [])) c.either.ensures
