use Rattle.std.proofs.Common.{ap, ◌∙◌}
use Rattle.std.specs.List.{list_all}
use Rattle.bag_algebra.proofs.Truths.{second-decides, first-decides}
use Rattle.delete_impact.specs.reduced.Splitting.{splits}
use Rattle.delete_impact.proofs.reduced.OnOneSide.{splits-node}
use Rattle.delete_impact.proofs.reduced.splitting.+splits.Goals as goal

pub splits-returns-then-own_splits : goal.splits-returns-then-own_splits
splits-returns-then-own_splits t c =
    second-decides _ _ _ _ (splits-node c.args.id c.args.query.now) c.own_splits.ensures _ c.if-own_splits.true
    (c.inputs_split.ensures ∙ ap (list_all (splits c.args.id)) c.inputs.ensures)

pub splits-returns-else-own_splits : goal.splits-returns-else-own_splits
splits-returns-else-own_splits t c =
    first-decides _ _ _ _ (splits-node c.args.id c.args.query.now) c.own_splits.ensures c.if-own_splits.false
