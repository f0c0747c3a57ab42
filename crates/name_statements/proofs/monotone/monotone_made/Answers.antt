use Rattle.std.specs.Prelude.{[]}
use Rattle.name_meaning.specs.nodes.Makes.{MakesQuery}
use Rattle.perm_values.proofs.Taken.{opened}
use Rattle.name_statements.proofs.Impacts.{monotone-so}
use Rattle.name_statements.proofs.monotone.monotone_made.Goals as goal

pub returns : goal.returns
returns c = λ m none makes.
    monotone-so c.args.at m c.in_ok-query.query c.monotone_break-monotone.result c.query_within.result none
    (opened (MakesQuery m []) c.args.made _ c.in_ok-query.was makes)
    c.monotone_break-monotone.ensures c.query_within.ensures.kept c.query_within.ensures.broken
