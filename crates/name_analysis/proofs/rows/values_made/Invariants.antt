use Rattle.name_statements.proofs.Values.{RowSoFar}
use Rattle.name_analysis.proofs.rows.values_made.Given as goal

-- the values so far
abbrev pub invariant-loop-at : goal.invariant-loop-at
invariant-loop-at l = RowSoFar l.here.catalog.now l.columns l.values l.at l.made
