use Rattle.std.proofs.Common.{◌≡◌, drop}
use Rattle.std.specs.Prelude.{flat_map}
use Rattle.name_meaning.specs.Cores.{group_break}
use Rattle.name_seen_parts.proofs.clauses.breaks.groups_break.Given as goal

-- the groups so far break nothing
abbrev pub invariant-loop-group : goal.invariant-loop-group
invariant-loop-group l = flat_map (group_break l.scope) l.groups ≡ flat_map (group_break l.scope) (drop l.group-index l.groups)
