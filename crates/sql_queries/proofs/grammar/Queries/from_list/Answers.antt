use Rattle.std.proofs.Common.{rules}
use Rattle.sql_tree.specs.grammar.Cursors.{reading}
use Rattle.sql_tree.specs.grammar.Symbols as n
use Rattle.sql_tree.proofs.Steps.{reading-keeps}
use Rattle.sql_queries.proofs.grammar.Queries.from_list.Goals as goal

pub returns-clause-given : goal.returns-clause-given
returns-clause-given g c = c.list_of.ensures.given (reading n.From) (record { reads = λ old new r met. search rules; fewer = reading-keeps n.From })
