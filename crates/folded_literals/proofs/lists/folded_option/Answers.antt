use Rattle.std.proofs.Common.{Some, None, sym, subst}
use Rattle.query_laws.specs.SameExpressions.{SameOptional}
use Rattle.folded_literals.proofs.lists.folded_option.Goals as goal

pub returns-in-None-clause-same : goal.returns-in-None-clause-same
returns-in-None-clause-same c = subst (λ o. SameOptional o None) (sym c.in-None.is) tt

pub returns-in_ok-folded-in-Some-clause-same : goal.returns-in_ok-folded-in-Some-clause-same
returns-in_ok-folded-in-Some-clause-same c =
    subst (λ o. SameOptional o (Some c.in_ok-folded-in-Some.field-0)) (sym c.in-Some.is) c.in_ok-folded-in-Some.ensures.same
