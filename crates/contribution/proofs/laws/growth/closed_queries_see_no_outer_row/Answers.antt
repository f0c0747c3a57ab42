use Rattle.contribution.proofs.Growth.{denote-closed}
use Rattle.contribution.proofs.laws.growth.closed_queries_see_no_outer_row.Goals as goal

pub returns : goal.returns
returns c = denote-closed
