use Rattle.std.specs.Prelude.{List, ◌++◌}
use Rattle.std.proofs.Common.{ap, ◌∙◌}
use Rattle.perm_values.specs.declared.kind.Kind.{Kind}
use Rattle.contribution.proofs.Added.{place_kinds-more}
use Rattle.name_seen_cores.proofs.places.kinds_of_places.Goals as goal

pub loop-place-preserved : goal.loop-place-preserved
loop-place-preserved c =
    c.in_ok-add_kinds.ensures ∙ ap (λ (kinds : List Kind). kinds ++ c.place-item.result.kinds) c.loop-place.invariant
    ∙ place_kinds-more c.args.places.now c.loop-place.place-index c.place-item.result c.loop-place-test.true c.place-item.is
