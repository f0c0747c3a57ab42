use Rattle.null_logic.proofs.Keys.{row_of-found, row_of-absent, row_of-own}
use Rattle.null_logic.proofs.laws.look_up_is_exact.Goals as goal

pub returns-clause-found : goal.returns-clause-found
returns-clause-found c rows spelling prefix = row_of-found spelling prefix rows

pub returns-clause-absent : goal.returns-clause-absent
returns-clause-absent c rows spelling prefix = row_of-absent spelling prefix rows

pub returns-clause-each : goal.returns-clause-each
returns-clause-each c = row_of-own
