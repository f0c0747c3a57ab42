use Rattle.rewrite_core.proofs.DistinctRows.{rewrite-Distinct}
use Rattle.rewrite_core.proofs.nodes.distinct.Goals as goal

pub returns-clause-rewrites : goal.returns-clause-rewrites
returns-clause-rewrites c = rewrite-Distinct _ _ c.requires
