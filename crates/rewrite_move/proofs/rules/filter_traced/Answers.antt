use Rattle.rewrite_move.proofs.rules.filter_traced.Goals as goal

pub filter_from-requires-clause-given : goal.filter_from-requires-clause-given
filter_from-requires-clause-given c = c.requires.traced
