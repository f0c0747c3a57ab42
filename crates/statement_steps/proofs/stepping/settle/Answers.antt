use Rattle.statement_steps.proofs.Unfiled.{asks-unfiled, settled-carried}
use Rattle.statement_steps.proofs.stepping.settle.Goals as goal

pub returns-clause-done : goal.returns-clause-done
returns-clause-done c = settled-carried _ _ _ _ (asks-unfiled c.args.catalog.now c.args.at c.args.statement.now) c.settled.ensures.turn
