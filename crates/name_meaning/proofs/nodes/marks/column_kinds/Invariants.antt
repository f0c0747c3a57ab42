use Rattle.std.proofs.Common.{◌≡◌, take}
use Rattle.perm_catalog.specs.Columns.{column_kinds}
use Rattle.name_meaning.proofs.nodes.marks.column_kinds.Given as goal

abbrev pub invariant-loop-column : goal.invariant-loop-column
invariant-loop-column l = l.kinds ≡ column_kinds (take l.column-index l.columns)
