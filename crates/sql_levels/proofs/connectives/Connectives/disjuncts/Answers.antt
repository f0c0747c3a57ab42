use Rattle.std.proofs.Common.{rules}
use Rattle.sql_tree.specs.grammar.Cursors.{reading}
use Rattle.sql_tree.specs.grammar.Symbols as n
use Rattle.sql_tree.proofs.Steps.{reading-keeps}
use Rattle.sql_levels.proofs.connectives.Connectives.disjuncts.Goals as goal

pub returns-clause-given : goal.returns-clause-given
returns-clause-given g c =
    rw c.into_inner.ensures at (c.list_from.ensures.given (reading n.Both) (record { reads = λ old new r met. search rules; fewer = reading-keeps n.Both }))
