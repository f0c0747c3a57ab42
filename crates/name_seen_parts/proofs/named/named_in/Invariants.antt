use Rattle.std.proofs.Common.{◌≡◌, ◌≤◌, take}
use Rattle.std.specs.List.{filter}
use Rattle.name_meaning.specs.Scopes.{is_meant, placed}
use Rattle.name_seen_parts.specs.Named.{named_of}
use Rattle.name_seen_parts.proofs.named.named_in.Given as goal

-- what the columns so far are meant as
abbrev pub invariant-loop-place : goal.invariant-loop-place
invariant-loop-place l = (l.place ≤ l.end) × (l.named ≡ named_of (filter (is_meant l.item l.name) (take l.place (placed l.scope))))
