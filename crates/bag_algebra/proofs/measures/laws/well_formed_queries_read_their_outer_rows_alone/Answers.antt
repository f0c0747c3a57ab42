use Rattle.std.proofs.Common.{length, refl}
use Rattle.bag_algebra.proofs.Closing.{query_within}
use Rattle.bag_algebra.proofs.measures.laws.well_formed_queries_read_their_outer_rows_alone.Goals as goal

pub returns : goal.returns
returns c = λ outer q w. query_within outer q (length outer) refl w
