use Rattle.std.proofs.Common.{◌≡◌, take}
use Rattle.std.specs.Prelude.{map}
use Rattle.name_meaning.specs.Queries.{key_of}
use Rattle.name_seen_parts.specs.Columns.{columns_of}
use Rattle.name_made_parts.proofs.keys.keys_of.Given as goal

abbrev pub invariant-loop-tree : goal.invariant-loop-tree
invariant-loop-tree l = l.keys ≡ map (key_of (columns_of l.columns)) (take l.tree-index l.order)
