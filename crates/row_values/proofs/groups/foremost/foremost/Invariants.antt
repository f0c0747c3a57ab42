use Rattle.std.proofs.Common.{◌-◌, length}
use Rattle.row_values.proofs.Least.{IsForemost}
use Rattle.row_values.proofs.groups.foremost.foremost.Given as goal

abbrev pub invariant-loop-behind : goal.invariant-loop-behind
invariant-loop-behind l = IsForemost l.greatest l.values (length l.values - l.behind) l.best
