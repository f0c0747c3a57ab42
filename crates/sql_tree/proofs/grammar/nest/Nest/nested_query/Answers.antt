use Rattle.std.proofs.Common.{rules}
use Rattle.sql_tree.specs.grammar.Cursors.{reading}
use Rattle.sql_tree.specs.grammar.Symbols as n
use Rattle.sql_tree.proofs.Fewer.{fewer_of}
use Rattle.sql_tree.proofs.Nested.{query_takes}
use Rattle.sql_tree.proofs.grammar.nest.Nest.nested_query.Goals as goal

pub returns-clause-given : goal.returns-clause-given
returns-clause-given g c = search rules

pub returns-clause-fewer : goal.returns-clause-fewer
returns-clause-fewer g c =
    fewer_of c.query.result (reading n.Query c.args.cursor.now) c.args.cursor.now c.query.new.arg2 (λ x e. query_takes c.args.cursor.now x c.query.new.arg2 e)
    (returns-clause-given g c)
