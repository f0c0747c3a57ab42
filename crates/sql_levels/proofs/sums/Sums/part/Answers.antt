use Rattle.std.proofs.Common.{arith}
use Rattle.sql_levels.proofs.Parts.{primary_takes}
use Rattle.sql_levels.proofs.sums.Sums.part.Goals as goal

pub returns-clause-fewer : goal.returns-clause-fewer
returns-clause-fewer g c = grind (arith, primary_takes)
