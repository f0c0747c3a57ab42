use Rattle.std.proofs.Common.{◌≡◌, ◌++◌, drop}
use Rattle.query_laws.specs.spines.Spines.{items_behind}
use Rattle.query_laws.proofs.spines.spine.items_behind.Given as goal

-- what is made, and the columns that are left
abbrev pub invariant-loop-kind : goal.invariant-loop-kind
invariant-loop-kind l = l.items ++ items_behind l.place (drop l.kind-index l.kinds) ≡ items_behind l.before l.kinds
