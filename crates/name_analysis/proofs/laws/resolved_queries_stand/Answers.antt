use Rattle.name_analysis.proofs.Standing.{statement-stands}
use Rattle.name_analysis.proofs.laws.resolved_queries_stand.Goals as goal

pub returns : goal.returns
returns c = statement-stands
