use Rattle.std.proofs.Common.{refl}
use Rattle.query_facts.specs.reached.Reach.{expr_reach}
use Rattle.query_facts.proofs.Greatest.{is_some, is_great}
use Rattle.query_facts.proofs.reached.columns.reads_own_row.Goals as goal

pub returns-in-Some : goal.returns-in-Some
returns-in-Some c = is_some (expr_reach c.args.expr.now 0) c.in-Some.reach (c.in-Some.ensures 0 refl)

pub returns-in-None : goal.returns-in-None
returns-in-None c = is_great (expr_reach c.args.expr.now 0) (c.in-None.ensures 0 refl)
