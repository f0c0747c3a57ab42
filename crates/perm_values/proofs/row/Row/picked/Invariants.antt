use Rattle.std.proofs.Common.{◌≡◌, take}
use Rattle.perm_values.specs.Rows.{picked}
use Rattle.perm_values.proofs.row.Row.picked.Given as goal

abbrev pub invariant-loop-place : goal.invariant-loop-place
invariant-loop-place l = l.values.items ≡ picked (take l.place-index l.places) l.self
