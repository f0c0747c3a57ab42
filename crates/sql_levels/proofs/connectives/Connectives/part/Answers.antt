use Rattle.std.proofs.Common.{arith}
use Rattle.sql_levels.proofs.Parts.{test_takes}
use Rattle.sql_levels.proofs.connectives.Connectives.part.Goals as goal

pub returns-clause-fewer : goal.returns-clause-fewer
returns-clause-fewer g c = grind (arith, test_takes)
