use Rattle.delete_impact.proofs.Unread.{nothing-vanishes}
use Rattle.delete_impact.proofs.vanishing.where_a_table_is_not_read_nothing_changes.Goals as goal

pub returns : goal.returns
returns c = nothing-vanishes
