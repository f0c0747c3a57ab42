use Rattle.std.proofs.Common.{◌≡◌, ◌-◌, ◌*◌, ◌^◌, suc, min, max, drop}
use Rattle.bag_algebra.specs.built.Measures.{subs_height, inputs_size, subs_size}
use Rattle.bag_algebra.specs.Inputs.{given}
use Rattle.bag_algebra.specs.Measures.{size_of}
use Rattle.bag_algebra.proofs.measures.sizes.+height.Given as goal

abbrev pub decreases-height : goal.decreases-height
decreases-height l = 2 * size_of l.query.now

abbrev pub decreases-inputs_height : goal.decreases-inputs_height
decreases-inputs_height l = suc (2 * inputs_size (given l.inputs))

abbrev pub decreases-subs_height : goal.decreases-subs_height
decreases-subs_height l = suc (2 * subs_size l.subs.now)

-- the highest so far beside the sublinks that are left
abbrev pub invariant-subs_height-loop-sub : goal.invariant-subs_height-loop-sub
invariant-subs_height-loop-sub l =
    max l.highest (min (subs_height (drop l.sub-index l.subs)) (2 ^ 64 - 1)) ≡ min (subs_height l.subs) (2 ^ 64 - 1)
