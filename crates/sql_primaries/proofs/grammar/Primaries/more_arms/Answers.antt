use Rattle.std.proofs.Common.{rules, refl}
use Rattle.sql_tree.specs.grammar.Cursors.{reading}
use Rattle.sql_tree.specs.grammar.Symbols as n
use Rattle.sql_tree.proofs.Steps.{reading-takes}
use Rattle.sql_primaries.proofs.grammar.Primaries.more_arms.Goals as goal

pub returns-clause-given : goal.returns-clause-given
returns-clause-given g c =
    c.all_items.ensures.given (reading n.Arm) (record { reads = λ old new r met. search rules; fewer = reading-takes n.Arm refl })
