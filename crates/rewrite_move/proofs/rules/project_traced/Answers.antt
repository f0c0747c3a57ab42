use Rattle.rewrite_move.proofs.rules.project_traced.Goals as goal

pub project_from-requires-clause-given : goal.project_from-requires-clause-given
project_from-requires-clause-given c = c.requires.traced
