use Rattle.std.proofs.Common.{◌≡◌, take}
use Rattle.std.specs.Prelude.{filter_map}
use Rattle.name_meaning.specs.Cores.{group_place}
use Rattle.name_seen_parts.proofs.clauses.breaks.group_places.Given as goal

abbrev pub invariant-loop-group : goal.invariant-loop-group
invariant-loop-group l = l.places ≡ filter_map (group_place l.scope) (take l.group-index l.groups)
