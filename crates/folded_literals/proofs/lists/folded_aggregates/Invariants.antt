use Rattle.std.proofs.Common.{◌≡◌, true, take}
use Rattle.contribution.specs.MovedColumns.{Along}
use Rattle.query_laws.specs.EveryExpression.{arguments_pass}
use Rattle.query_laws.specs.SameExpressions.{SameAggregate}
use Rattle.folded_literals.specs.Settled.{is_settled}
use Rattle.folded_literals.proofs.lists.folded_aggregates.Given as goal

abbrev pub invariant-loop-aggregate : goal.invariant-loop-aggregate
invariant-loop-aggregate l = record { same : Along SameAggregate (take l.aggregate-index l.aggregates) l.made; settled : arguments_pass is_settled l.made ≡ true }
