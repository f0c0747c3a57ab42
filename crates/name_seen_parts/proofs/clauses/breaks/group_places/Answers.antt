use Rattle.std.proofs.Common.{◌∙◌}
use Rattle.name_meaning.specs.Cores.{group_place}
use Rattle.name_seen_parts.proofs.Placed.{found-behind, found-passed}
use Rattle.name_seen_parts.proofs.clauses.breaks.group_places.Goals as goal
use Rattle.name_seen_parts.proofs.clauses.breaks.group_places.Goals.{in-Some+in_ok-push-in-Some, in-None}

pub loop-group-preserved : goal.loop-group-preserved
loop-group-preserved c =
    elim c.match-group_place.branch [
      | in-Some+in_ok-push-in-Some w ↦
          (w.places-is ∙ w.in_ok-push-in-Some.ensures.ok)
          ∙ found-behind (group_place c.args.scope.now) c.args.groups.now c.loop-group.group-index c.group-item.result c.loop-group.places c.group_place.result w.in-Some.place
          c.loop-group-test.true c.group-item.is c.loop-group.invariant c.group_place.ensures w.in-Some.is
      | in-None w ↦
          w.places-is
          ∙ found-passed (group_place c.args.scope.now) c.args.groups.now c.loop-group.group-index c.group-item.result c.loop-group.places c.group_place.result
          c.loop-group-test.true c.group-item.is c.loop-group.invariant c.group_place.ensures w.in-None.is
    ]
