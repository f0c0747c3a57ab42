use Rattle.std.proofs.Common.{◌≡◌, ◌+◌, ◌-◌, ◌*◌, ◌^◌, ◌≤◌, suc, min, drop}
use Rattle.bag_algebra.specs.built.Measures.{inputs_size, subs_size}
use Rattle.bag_algebra.specs.Children.{subs_shape}
use Rattle.bag_algebra.specs.Inputs.{given}
use Rattle.bag_algebra.specs.Measures.{size_of}
use Rattle.bag_algebra.proofs.Widths.{places_width}
use Rattle.bag_algebra.proofs.measures.kinds.+places_width.Given as goal

abbrev pub decreases-places_width : goal.decreases-places_width
decreases-places_width l = 2 * size_of l.query.now

abbrev pub decreases-inputs_places_width : goal.decreases-inputs_places_width
decreases-inputs_places_width l = suc (2 * inputs_size (given l.inputs))

abbrev pub decreases-subs_places_width : goal.decreases-subs_places_width
decreases-subs_places_width l = suc (2 * subs_size l.subs.now)

-- the columns so far and those of the sublinks that are left
abbrev pub invariant-subs_places_width-loop-sub : goal.invariant-subs_places_width-loop-sub
invariant-subs_places_width-loop-sub l =
    (min (l.total + places_width (subs_shape (drop l.sub-index l.subs))) (2 ^ 64 - 1) ≡ min (places_width (subs_shape l.subs)) (2 ^ 64 - 1))
    × (l.total ≤ 2 ^ 64 - 1)
