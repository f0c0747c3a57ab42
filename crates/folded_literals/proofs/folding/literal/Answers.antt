use Rattle.std.proofs.Common.{[], sym, subst}
use Rattle.bag_algebra.specs.Expressions.{value}
use Rattle.row_values.specs.Answers.{Refuses}
use Rattle.row_values.specs.declared.error.ExecError.{ExecError}
use Rattle.folded_literals.proofs.OverLiterals.{constant-literal}
use Rattle.folded_literals.proofs.Settling.{meets-fault, no_constant}
use Rattle.folded_literals.proofs.folding.literal.Goals as goal

pub returns-in-None-clause-none : goal.returns-in-None-clause-none
returns-in-None-clause-none c = no_constant c.args.expr.now (sym c.in-None.ensures)

pub returns-in-Ok-clause-same : goal.returns-in-Ok-clause-same
returns-in-Ok-clause-same c = constant-literal c.args.expr.now _ _ (sym c.in-Some.ensures) c.in-Ok.ensures

pub returns-in-Err-Fault-clause-none : goal.returns-in-Err-Fault-clause-none
returns-in-Err-Fault-clause-none c =
    meets-fault c.args.expr.now _
    (subst (λ (error : ExecError). Refuses (value c.args.expr.now [] [] []) error) c.in-Err-Fault.field-0-is c.in-Err-Fault.ensures)
