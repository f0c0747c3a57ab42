use Rattle.std.proofs.Common.{ap, ◌∙◌}
use Rattle.std.specs.List.{list_all}
use Rattle.bag_algebra.proofs.Truths.{second-decides, first-decides}
use Rattle.delete_impact.specs.reduced.Hiding.{hides_none}
use Rattle.delete_impact.proofs.reduced.NoneHidden.{hides_none-node}
use Rattle.delete_impact.proofs.reduced.hiding.+hides_none.Goals as goal

pub hides_none-returns-then-own_hides_none : goal.hides_none-returns-then-own_hides_none
hides_none-returns-then-own_hides_none t c =
    second-decides _ _ _ _ (hides_none-node c.args.query.now) c.own_hides_none.ensures _ c.if-own_hides_none.true
    (c.inputs_hide_none.ensures ∙ ap (list_all hides_none) c.inputs.ensures)

pub hides_none-returns-else-own_hides_none : goal.hides_none-returns-else-own_hides_none
hides_none-returns-else-own_hides_none t c =
    first-decides _ _ _ _ (hides_none-node c.args.query.now) c.own_hides_none.ensures c.if-own_hides_none.false
