use Rattle.std.proofs.Common.{[], take, ap, ◌∙◌}
use Rattle.perm_values.proofs.Lists.{taken}
use Rattle.bag_algebra.specs.Expressions.{value}
use Rattle.bag_algebra.specs.Outcome.{each}
use Rattle.bag_algebra.specs.declared.expr.Expr.{Expr}
use Rattle.row_values.proofs.Outcomes.{passed, each_item, each_good}
use Rattle.statement_steps.proofs.changes.inserting.row_value.Goals as goal

pub returns-in_err-value_alone : goal.returns-in_err-value_alone
returns-in_err-value_alone c =
    passed _ _ c.from_residual-in_err-value_alone.result c.from_residual-in_err-value_alone.ensures.1
    (each_item (λ (expr : Expr). value expr [] [] []) c.args.exprs.now c.loop-expr.expr-index c.expr-item.result _ c.loop-expr-test.true c.expr-item.is c.in_err-value_alone.ensures)

pub loop-expr-preserved : goal.loop-expr-preserved
loop-expr-preserved c =
    rw c.in_ok-push.ensures.ok
    (ap (each (λ (expr : Expr). value expr [] [] [])) (taken c.args.exprs.now c.loop-expr.expr-index c.expr-item.result c.loop-expr-test.true c.expr-item.is)
    ∙ each_good (λ (expr : Expr). value expr [] [] []) (take c.loop-expr.expr-index c.args.exprs.now) c.expr-item.result _ _ c.loop-expr.invariant c.in_ok-value_alone.ensures)
