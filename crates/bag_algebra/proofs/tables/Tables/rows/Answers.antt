use Rattle.std.proofs.Common.{sym, ◌∙◌}
use Rattle.bag_algebra.proofs.FiniteMap.{get-view}
use Rattle.bag_algebra.proofs.tables.Tables.rows.Goals as goal

pub returns : goal.returns
returns c = rw (← c.self.view_is) (c.get.ensures.value ∙ sym (get-view c.self.inside.rows.entries c.args.id))
