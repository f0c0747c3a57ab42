use Rattle.std.proofs.Common.{◌≡◌, take}
use Rattle.name_meaning.specs.Cores.{settle}
use Rattle.name_seen_parts.specs.Columns.{columns_of}
use Rattle.name_made_parts.proofs.asked.queries.settled_kinds.Given as goal

-- the kinds of the columns so far
abbrev pub invariant-loop-place : goal.invariant-loop-place
invariant-loop-place l = l.kinds ≡ settle (columns_of (take l.place l.columns)) l.wanted
