use Rattle.std.specs.Prelude.{IfNone, IfSome}
use Rattle.std.proofs.Common.{◌≡◌, true, false, Option, subst}
use Rattle.bag_algebra.specs.declared.expr.Expr.{Expr}
use Rattle.query_laws.proofs.SameExpressions.{same-itself}
use Rattle.folded_literals.proofs.Settling.{settled-itself}
use Rattle.folded_literals.specs.Settled.{is_foldable, is_settled}
use Rattle.folded_literals.proofs.folding.settled.Goals as goal

pub returns-in-Ok-Some-clause-settled : goal.returns-in-Ok-Some-clause-settled
returns-in-Ok-Some-clause-settled c parts by all =
    subst (λ (found : Option Expr). IfSome found (λ made. is_settled made ≡ true)) c.in-Ok-Some.field-0-is c.in-Ok-Some.ensures.settled

pub returns-in-Ok-None-clause-same : goal.returns-in-Ok-None-clause-same
returns-in-Ok-None-clause-same c = same-itself c.args.expr

pub returns-in-Ok-None-clause-settled : goal.returns-in-Ok-None-clause-settled
returns-in-Ok-None-clause-settled c parts by all =
    settled-itself c.args.expr parts by all
    (subst (λ (found : Option Expr). IfNone found (is_foldable c.args.expr ≡ false)) c.in-Ok-None.field-0-is c.in-Ok-None.ensures.none)
