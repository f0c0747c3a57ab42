use Rattle.std.proofs.Common.{◌≡◌, drop}
use Rattle.name_meaning.specs.Statements.{width_limit}
use Rattle.name_inside.proofs.wide.first_wide.Given as goal

-- none of those so far is too wide
abbrev pub invariant-loop-place : goal.invariant-loop-place
invariant-loop-place l = width_limit l.queries ≡ width_limit (drop l.place l.queries)
