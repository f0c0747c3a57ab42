use Rattle.std.proofs.Common.{◌≡◌, drop}
use Rattle.std.specs.Prelude.{Some, flat_map}
use Rattle.name_meaning.specs.Queries.{key_break, keys_breaks}
use Rattle.name_seen_parts.specs.Columns.{columns_of}
use Rattle.name_seen_parts.proofs.clauses.keys.keys_break.Given as goal

-- the keys so far break nothing
abbrev pub invariant-loop-tree : goal.invariant-loop-tree
invariant-loop-tree l = keys_breaks (Some (columns_of l.columns)) l.order ≡ flat_map (key_break (columns_of l.columns)) (drop l.tree-index l.order)
