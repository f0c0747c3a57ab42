use Rattle.delete_impact.proofs.VanishingRows.{fewer-rows}
use Rattle.delete_impact.proofs.vanishing.a_monotone_query_gains_no_row_by_a_deletion.Goals as goal

pub returns : goal.returns
returns c = fewer-rows
