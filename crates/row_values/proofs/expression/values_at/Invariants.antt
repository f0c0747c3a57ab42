use Rattle.std.proofs.Common.{◌≡◌, take}
use Rattle.perm_values.specs.Rows.{picked}
use Rattle.row_values.proofs.expression.values_at.Given as goal

abbrev pub invariant-loop-place : goal.invariant-loop-place
invariant-loop-place l = l.values ≡ picked (take l.place-index l.places) l.row
