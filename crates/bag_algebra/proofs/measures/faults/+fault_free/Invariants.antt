use Rattle.std.proofs.Common.{◌≡◌, ◌*◌, suc, drop}
use Rattle.bag_algebra.specs.built.Measures.{inputs_size, subs_size}
use Rattle.bag_algebra.specs.built.FaultFree.{all_fault_free}
use Rattle.bag_algebra.specs.Inputs.{given}
use Rattle.bag_algebra.specs.Measures.{size_of}
use Rattle.bag_algebra.proofs.measures.faults.+fault_free.Given as goal

abbrev pub decreases-fault_free : goal.decreases-fault_free
decreases-fault_free l = 2 * size_of l.query.now

abbrev pub decreases-inputs_fault_free : goal.decreases-inputs_fault_free
decreases-inputs_fault_free l = suc (2 * inputs_size (given l.inputs))

abbrev pub decreases-all_fault_free : goal.decreases-all_fault_free
decreases-all_fault_free l = suc (2 * subs_size l.subs.now)

abbrev pub invariant-all_fault_free-loop-sub : goal.invariant-all_fault_free-loop-sub
invariant-all_fault_free-loop-sub l = all_fault_free l.subs ≡ all_fault_free (drop l.sub-index l.subs)
