use Rattle.std.proofs.Common.{◌∙◌, sym}
use Rattle.rewrite_driver.proofs.joins.join_traced.Goals as goal
use Rattle.rewrite_move.proofs.DecidingValues.{rewritten-dependent}

pub join_lateral-requires-clause-rewritten : goal.join_lateral-requires-clause-rewritten
join_lateral-requires-clause-rewritten c =
    rewritten-dependent c.args.condition.now c.args.subs.now c.as_slice.result.now c.args.rewritings (sym c.in_ok-dependent.ensures ∙ c.if-dependent.true) c.requires.subs_rewritten
