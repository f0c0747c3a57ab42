-- The columns of groups.
use Rattle.std.specs.Prelude.{ℕ, List, ◌++◌}
use Rattle.perm_values.specs.declared.kind.Kind.{Kind}
use Rattle.bag_algebra.specs.Kinds.{kinds_in, aggregate_kinds}
use Rattle.bag_algebra.specs.declared.query.Aggr.{Aggr}

-- the kinds of columns at these places, and of these aggregates
abbrev pub kinds_of_groups : List Kind → List ℕ → List Aggr → List Kind
kinds_of_groups own groups aggregates = kinds_in own groups ++ aggregate_kinds aggregates
