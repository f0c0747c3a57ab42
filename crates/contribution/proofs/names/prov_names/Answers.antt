use Rattle.std.proofs.Common.{arith}
use Rattle.contribution.proofs.RelationNumbers.{at_most}
use Rattle.contribution.proofs.names.prov_names.Goals as goal

pub overflow_add-number : goal.overflow_add-number
overflow_add-number c =
    let n = at_most _ c.loop-place.place-index _ _ (c.number-number.ensures _ c.loop-place.invariant.1) in
    omega arith
