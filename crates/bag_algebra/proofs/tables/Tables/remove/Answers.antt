use Rattle.std.proofs.Common.{sym, ◌∙◌}
use Rattle.bag_algebra.proofs.FiniteMap.{remove-view, get-view}
use Rattle.bag_algebra.proofs.tables.Tables.remove.Goals as goal

pub returns-clause-rows : goal.returns-clause-rows
returns-clause-rows c = rw (← c.self.view_is) (c.remove.ensures.value ∙ sym (get-view c.self.inside.rows.entries c.args.id))

pub returns-clause-removed : goal.returns-clause-removed
returns-clause-removed c = rw (← c.self.view_is) (remove-view _ _ _ (λ q. c.remove.ensures.updates.0 q))
