-- What is traced has no more operators.
use Rattle.std.proofs.Common.{◌≤◌}
use Rattle.bag_algebra.specs.Measures.{size_of}
use Rattle.bag_algebra.specs.declared.query.Query.{Query}
use Rattle.rewrite_move.proofs.BelowGroups.{size-below}
use Rattle.rewrite_move.specs.Traced.{below_groups}

pub below_is_no_larger : (q : Query) → size_of (below_groups q) ≤ size_of q
below_is_no_larger q = size-below q
