use Rattle.bag_algebra.proofs.FiniteMap.{insert-view}
use Rattle.bag_algebra.proofs.tables.Tables.put.Goals as goal

pub returns-clause-ok : goal.returns-clause-ok
returns-clause-ok c = rw (← c.self.view_is) (insert-view _ _ _ _ (λ q. c.in_ok-insert.ensures.updates.0 q))
