use Rattle.std.proofs.Common.{sym, subst}
use Rattle.bag_algebra.specs.Rewriting.{Stands}
use Rattle.perm_values.proofs.Taken.{opened}
use Rattle.simplifier.proofs.projections.WholeProjects.{whole-dropped}
use Rattle.simplifier.proofs.projections.whole.whole_dropped.Goals as goal

pub returns-then-is_whole : goal.returns-then-is_whole
returns-then-is_whole c q h =
    let whole = c.is_whole.ensures c.if-is_whole.true in
    subst (Stands q) (sym (c.input_of.ensures whole.under whole.items _ whole.is))
    (whole-dropped q c.in_ok-query.query whole (opened (λ b. Stands q b) c.args.query _ c.in_ok-query.was h))

pub returns : goal.returns
returns c q h = opened (λ b. Stands q b) c.args.query _ c.in_ok-query.was h
