use Rattle.std.proofs.Common.{◌≡◌, take}
use Rattle.std.specs.Prelude.{filter}
use Rattle.std.specs.List.{list_any}
use Rattle.name_meaning.specs.Items.{is_ungrouped}
use Rattle.name_meaning.specs.Scopes.{placed}
use Rattle.name_seen_parts.specs.Stars.{is_in_item}
use Rattle.name_seen_parts.proofs.stars.is_any_left_out.Given as goal

-- whether one so far is left out
abbrev pub invariant-loop-place : goal.invariant-loop-place
invariant-loop-place l = l.left_out ≡ list_any (is_ungrouped l.scope) (filter (is_in_item l.item) (take l.place (placed l.scope)))
