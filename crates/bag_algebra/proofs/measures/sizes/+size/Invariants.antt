use Rattle.std.proofs.Common.{◌≡◌, ◌+◌, ◌-◌, ◌*◌, ◌^◌, ◌≤◌, suc, min, drop}
use Rattle.bag_algebra.specs.built.Measures.{inputs_size, subs_size}
use Rattle.bag_algebra.specs.Inputs.{given}
use Rattle.bag_algebra.specs.Measures.{size_of}
use Rattle.bag_algebra.proofs.measures.sizes.+size.Given as goal

abbrev pub decreases-size : goal.decreases-size
decreases-size l = 2 * size_of l.query.now

abbrev pub decreases-inputs_size : goal.decreases-inputs_size
decreases-inputs_size l = suc (2 * inputs_size (given l.inputs))

abbrev pub decreases-subs_size : goal.decreases-subs_size
decreases-subs_size l = suc (2 * subs_size l.subs.now)

-- the operators so far and those of the sublinks that are left
abbrev pub invariant-subs_size-loop-sub : goal.invariant-subs_size-loop-sub
invariant-subs_size-loop-sub l =
    (min (l.total + subs_size (drop l.sub-index l.subs)) (2 ^ 64 - 1) ≡ min (subs_size l.subs) (2 ^ 64 - 1))
    × (l.total ≤ 2 ^ 64 - 1)
