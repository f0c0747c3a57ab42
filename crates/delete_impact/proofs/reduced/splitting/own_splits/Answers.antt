use Rattle.std.proofs.Common.{◌||◌, sym, ap, ◌∙◌}
use Rattle.delete_impact.specs.reduced.Splitting.{lacks, own_splits}
use Rattle.delete_impact.proofs.reduced.OnOneSide.{own-Join}
use Rattle.delete_impact.proofs.reduced.splitting.own_splits.Goals as goal

pub returns-in-Join : goal.returns-in-Join
returns-in-Join c =
    c.some_lacks.ensures ∙ (λ i. lacks c.args.id (c.get.ensures i) || lacks c.args.id (c.get-in-Join.ensures i))
    ∙ sym (ap (own_splits c.args.id) c.in-Join.is ∙ own-Join c.args.id c.in-Join.kind c.in-Join.left c.in-Join.right c.in-Join.condition c.in-Join.subs)
