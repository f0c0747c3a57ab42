use Rattle.std.proofs.Common.{◌≡◌, ◌++◌, take}
use Rattle.contribution.proofs.places.add_all.Given as goal

abbrev pub invariant-loop-kind : goal.invariant-loop-kind
invariant-loop-kind l = l.found ≡ l.initial.found ++ take l.kind-index l.kinds
