use Rattle.rewrite_move.proofs.MovedRows.{from-rewritten}
use Rattle.rewrite_move.proofs.rules.filter_moved.Goals as goal

pub filter_from-requires-clause-given : goal.filter_from-requires-clause-given
filter_from-requires-clause-given c = from-rewritten c.args.subs.now c.args.sub_rewritings c.requires.rewritten
