use Rattle.std.proofs.Common.{rules}
use Rattle.sql_tree.specs.grammar.Cursors.{reading}
use Rattle.sql_tree.specs.grammar.Symbols as n
use Rattle.sql_tree.proofs.Steps.{reading-keeps}
use Rattle.sql_tree.proofs.grammar.cursor.Cursor.keys.Goals as goal

pub list_of-requires : goal.list_of-requires
list_of-requires c = record { callable = λ old within. tt; fewer = λ old new x met. reading-keeps n.Key old.now x new.now (search rules) }

pub returns-clause-given : goal.returns-clause-given
returns-clause-given c = c.list_of.ensures.given (reading n.Key) (record { reads = λ old new r met. search rules; fewer = reading-keeps n.Key })
