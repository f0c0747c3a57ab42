-- Which joins stand in one FROM with others.
use Rattle.std.specs.Prelude.{Bool, true, false}
use Rattle.bag_algebra.specs.declared.query.JoinKind.{JoinKind}
use Rattle.bag_algebra.specs.declared.query.JoinKind.TheVariants as join

-- a join that keeps its right side's rows stands over one source, and by itself: SQLite reads some others wrongly, or not at all
abbrev pub is_chained : JoinKind → Bool
is_chained join.Inner = true
is_chained join.Left = true
is_chained join.Right = false
is_chained join.Full = false
