-- The rows that EXCEPT leaves.
use Rattle.std.specs.Prelude.{ℕ}
use Rattle.bag_algebra.specs.declared.query.JoinKind.TheVariants.{Inner}
use Rattle.bag_algebra.specs.declared.query.Query.{Query}
use Rattle.rewrite_core.specs.rewritings.KeptColumns.{same_as_first, pairs_of}

-- the rows of the left rewriting, whose columns before the provenance are so many, that begin with one of the plain rows;
-- behind each of them the plain row
abbrev pub remaining : (plain left : Query) (columns width : ℕ) → Query
remaining plain left columns width = pairs_of Inner left plain (same_as_first columns width)
