use Rattle.rewrite_core.proofs.BesideLists.{rewritten-from_same, same-from_rewritten}
use Rattle.rewrite_core.proofs.rewritings.beside.rewritings_stand_beside_lists.Goals as goal

pub returns-clause-beside : goal.returns-clause-beside
returns-clause-beside c = rewritten-from_same

pub returns-clause-same : goal.returns-clause-same
returns-clause-same c = same-from_rewritten
