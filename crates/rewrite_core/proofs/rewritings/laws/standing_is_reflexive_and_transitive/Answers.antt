use Rattle.rewrite_core.proofs.Itself.{stands-itself, stands-onward}
use Rattle.rewrite_core.proofs.rewritings.laws.standing_is_reflexive_and_transitive.Goals as goal

pub returns-clause-itself : goal.returns-clause-itself
returns-clause-itself c q plain = stands-itself q plain

pub returns-clause-onward : goal.returns-clause-onward
returns-clause-onward c q b d s t = stands-onward q b d s t
