use Rattle.delete_impact.proofs.VanishingRows.{vanishing-rows}
use Rattle.delete_impact.proofs.vanishing.a_row_vanishes_where_each_of_its_lists_has_a_doomed_row.Goals as goal

pub returns : goal.returns
returns c = vanishing-rows
