use Rattle.std.proofs.Common.{◌≡◌, drop}
use Rattle.query_facts.specs.reached.reads.Columns.{is_among}
use Rattle.query_facts.proofs.reached.reads.nearest.is_among.Given as goal

abbrev pub invariant-loop-other : goal.invariant-loop-other
invariant-loop-other l = is_among l.places l.place ≡ is_among (drop l.other-index l.places) l.place
