use Rattle.std.proofs.Common.{◌≡◌, ◌++◌, take}
use Rattle.std.specs.Prelude.{map, filter}
use Rattle.name_meaning.specs.Items.{column_item}
use Rattle.name_meaning.specs.Scopes.{placed}
use Rattle.name_seen_parts.specs.Stars.{is_in_item}
use Rattle.name_made_parts.proofs.stars.add_columns.Given as goal

-- the columns so far stand behind the items before
abbrev pub invariant-loop-place : goal.invariant-loop-place
invariant-loop-place l = l.items ≡ l.initial.items ++ map (column_item l.scope) (filter (is_in_item l.item) (take l.place (placed l.scope)))
