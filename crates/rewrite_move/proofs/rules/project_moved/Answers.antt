use Rattle.rewrite_move.proofs.MovedRows.{from-rewritten}
use Rattle.rewrite_move.proofs.rules.project_moved.Goals as goal

pub project_from-requires-clause-given : goal.project_from-requires-clause-given
project_from-requires-clause-given c = from-rewritten c.args.subs.now c.args.sub_rewritings c.requires.rewritten
