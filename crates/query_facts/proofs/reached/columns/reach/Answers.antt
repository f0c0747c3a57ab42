use Rattle.std.proofs.Common.{refl}
use Rattle.query_facts.specs.reached.Reach.{reach_of}
use Rattle.query_facts.proofs.Greatest.{is_held, is_too_great}
use Rattle.query_facts.proofs.reached.columns.reach.Goals as goal

pub returns-clause-value : goal.returns-clause-value
returns-clause-value c = is_held (reach_of c.args.query.now) c.query_reach.result (c.query_reach.ensures 1 refl)

pub returns-clause-none : goal.returns-clause-none
returns-clause-none c = is_too_great (reach_of c.args.query.now) c.query_reach.result (c.query_reach.ensures 1 refl)
