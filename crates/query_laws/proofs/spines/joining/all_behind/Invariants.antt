use Rattle.std.proofs.Common.{◌≡◌, drop}
use Rattle.query_laws.specs.spines.Spines.{all_behind}
use Rattle.query_laws.proofs.spines.joining.all_behind.Given as goal

abbrev pub invariant-loop-item : goal.invariant-loop-item
invariant-loop-item l = all_behind l.before l.items ≡ all_behind l.before (drop l.item-index l.items)
