use Rattle.std.proofs.Common.{◌∙◌, ◌++◌, ap, take}
use Rattle.bag_algebra.specs.Kinds.{place_kinds}
use Rattle.contribution.proofs.Added.{added-joined, place_kinds-more}
use Rattle.contribution.proofs.places.add_place_kinds.Goals as goal

pub loop-place-preserved : goal.loop-place-preserved
loop-place-preserved c =
    let so_far = place_kinds (take c.loop-place.place-index c.args.places.now) in
    added-joined _ _ _ so_far _ c.loop-place.invariant c.in_ok-add_all.ensures
    ∙ ap (λ kinds. c.args.found.now ++ (so_far ++ kinds)) c.as_slice.ensures
    ∙ ap (λ kinds. c.args.found.now ++ kinds)
    (place_kinds-more c.args.places.now c.loop-place.place-index c.place-item.result c.loop-place-test.true c.place-item.is)
