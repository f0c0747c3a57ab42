use Rattle.std.proofs.Common.{◌≡◌, drop}
use Rattle.std.specs.List.{list_any}
use Rattle.perm_values.specs.Values.{is_null}
use Rattle.bag_algebra.specs.Means.{cell}
use Rattle.row_joins.proofs.cells.has_null.Given as goal

abbrev pub invariant-loop-row : goal.invariant-loop-row
invariant-loop-row l = list_any (λ v. is_null (cell v)) l.rows ≡ list_any (λ v. is_null (cell v)) (drop l.row-index l.rows)
