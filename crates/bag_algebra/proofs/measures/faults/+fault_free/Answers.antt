use Rattle.std.proofs.Common.{◌≡◌, ◌&&◌, refl, ap, ◌∙◌}
use Rattle.std.specs.List.{list_all}
use Rattle.bag_algebra.specs.built.FaultFree.{all_fault_free}
use Rattle.bag_algebra.specs.Inputs.{inputs_of}
use Rattle.bag_algebra.specs.FaultFree.{own_faultless, fault_free}
use Rattle.bag_algebra.proofs.ByChildren.{fault_free-node}
use Rattle.bag_algebra.proofs.Truths.{second-decides, first-decides}
use Rattle.bag_algebra.proofs.measures.faults.+fault_free.Goals as goal
use Rattle.bag_algebra.proofs.measures.faults.+fault_free.Goals.{fault_free-then-inputs_fault_free, fault_free-else-inputs_fault_free}

pub fault_free-returns-then-own_faultless : goal.fault_free-returns-then-own_faultless
fault_free-returns-then-own_faultless t c =
    let inputs = c.inputs_fault_free.ensures ∙ ap (list_all fault_free) c.inputs.ensures in
    let own : c.if-inputs_fault_free.value ≡ (list_all fault_free (inputs_of c.args.query.now) && own_faultless c.args.query.now) =
    elim c.if-inputs_fault_free.branch [
      | fault_free-then-inputs_fault_free w ↦ w.value-is ∙ second-decides _ _ _ _ refl inputs _ w.if-inputs_fault_free.true w.own_faultless.ensures
      | fault_free-else-inputs_fault_free w ↦ w.value-is ∙ first-decides _ _ _ _ refl inputs w.if-inputs_fault_free.false
    ] in
    second-decides _ _ _ _ (fault_free-node c.args.query.now) own _ c.if-own_faultless.true (c.all_fault_free.ensures ∙ ap all_fault_free c.sublinks.ensures)

pub fault_free-returns-else-own_faultless : goal.fault_free-returns-else-own_faultless
fault_free-returns-else-own_faultless t c =
    let inputs = c.inputs_fault_free.ensures ∙ ap (list_all fault_free) c.inputs.ensures in
    let own : c.if-inputs_fault_free.value ≡ (list_all fault_free (inputs_of c.args.query.now) && own_faultless c.args.query.now) =
    elim c.if-inputs_fault_free.branch [
      | fault_free-then-inputs_fault_free w ↦ w.value-is ∙ second-decides _ _ _ _ refl inputs _ w.if-inputs_fault_free.true w.own_faultless.ensures
      | fault_free-else-inputs_fault_free w ↦ w.value-is ∙ first-decides _ _ _ _ refl inputs w.if-inputs_fault_free.false
    ] in
    first-decides _ _ _ _ (fault_free-node c.args.query.now) own c.if-own_faultless.false
