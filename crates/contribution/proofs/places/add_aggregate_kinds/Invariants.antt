use Rattle.std.proofs.Common.{◌≡◌, ◌++◌, map, take}
use Rattle.bag_algebra.specs.declared.query.Aggr.{Aggr}
use Rattle.contribution.proofs.places.add_aggregate_kinds.Given as goal

abbrev pub invariant-loop-aggregate : goal.invariant-loop-aggregate
invariant-loop-aggregate l = l.found ≡ l.initial.found ++ map (λ (aggregate : Aggr). aggregate.kind) (take l.aggregate-index l.aggregates)
