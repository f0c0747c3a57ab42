use Rattle.rewrite_core.proofs.Provenance.{stands-Prov, rewrite-Prov}
use Rattle.rewrite_core.proofs.rewritings.laws.distinct_rows_of_rewritings_stand_for_provenance.Goals as goal

pub returns-clause-stand : goal.returns-clause-stand
returns-clause-stand c q p rewrite = stands-Prov q p rewrite

pub returns-clause-rewrite : goal.returns-clause-rewrite
returns-clause-rewrite c q p rewrite = rewrite-Prov q p rewrite
