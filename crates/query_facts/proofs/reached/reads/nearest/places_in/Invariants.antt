use Rattle.std.proofs.Common.{take}
use Rattle.query_facts.specs.reached.reads.Columns.{AreNearest}
use Rattle.query_facts.proofs.reached.reads.nearest.places_in.Given as goal

abbrev pub invariant-loop-column : goal.invariant-loop-column
invariant-loop-column l = AreNearest (take l.column-index l.columns) l.places
