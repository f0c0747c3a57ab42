use Rattle.std.proofs.Common.{subst}
use Rattle.perm_values.proofs.Results.{where_made}
use Rattle.bag_algebra.specs.Rewriting.{Stands}
use Rattle.rewrite_core.specs.rewritings.OpenSublinks.{NoOpenSublink}
use Rattle.rewrite_driver.proofs.NoRowLost.{keeps-rows}
use Rattle.rewrite_driver.proofs.driver.eliminate.Goals as goal
use Rattle.rewrite_driver.specs.FirstColumns.{KeepsRows}
use Rattle.rewrite_driver.specs.KeptClosed.{StandsClosed}

pub returns-clause-stands : goal.returns-clause-stands
returns-clause-stands c =
    where_made (λ plain. StandsClosed c.args.query.now plain) (λ plain. Stands c.args.query.now plain) c.stand.result (λ plain s. s.stands) c.stand.ensures

pub returns-clause-no_row_lost : goal.returns-clause-no_row_lost
returns-clause-no_row_lost c q is =
    where_made (λ plain. StandsClosed c.args.query.now plain) (λ plain. KeepsRows q plain) c.stand.result
    (λ plain s. keeps-rows q plain (subst (λ n. Stands n plain) is s.stands)) c.stand.ensures

pub returns-clause-none_open : goal.returns-clause-none_open
returns-clause-none_open c =
    where_made (λ plain. StandsClosed c.args.query.now plain) (λ plain. NoOpenSublink c.args.query.now → NoOpenSublink plain) c.stand.result
    (λ plain s. s.none_open) c.stand.ensures
