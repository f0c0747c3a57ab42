use Rattle.std.proofs.Common.{sym, ap, subst, ◌∙◌, ◌∷◌, ◌++◌, [], take, IsSorted}
use Rattle.perm_values.specs.Rows.{printed_cmp}
use Rattle.perm_values.proofs.Lists.{taken}
use Rattle.bag_algebra.specs.Bags.{sorted}
use Rattle.bag_algebra.proofs.SortedBags.{printed_exact}
use Rattle.row_nodes.proofs.Foremost.{kept_more, take-again}
use Rattle.row_nodes.proofs.limit.foremost.Goals as goal
use Rattle.row_nodes.proofs.limit.foremost.Goals.{then-not-is_behind+in_ok-copy+in_ok-push+in_ok-kept, else-not-is_behind}

pub loop-row-preserved : goal.loop-row-preserved
loop-row-preserved c =
    let cmp = printed_cmp c.args.keys.now in
    let most = c.args.count in
    let seen = take c.loop-row.row-index c.args.rows.now in
    let so_far = c.loop-row.invariant in
    let more = kept_more cmp (printed_exact c.args.keys.now) most seen c.loop-row.kept c.row-item.result so_far.0 so_far.1 in
    rw (taken c.args.rows.now c.loop-row.row-index c.row-item.result c.loop-row-test.true c.row-item.is)
    (elim c.if-not-is_behind.branch [
      | then-not-is_behind+in_ok-copy+in_ok-push+in_ok-kept w ↦ (
        w.kept-is ∙ w.in_ok-kept.ensures.is ∙ ap (λ rows. take most (sorted cmp rows)) (w.in_ok-push.ensures.ok ∙ ap (λ row. c.loop-row.kept ++ row ∷ []) w.in_ok-copy.ensures) ∙ more,
        subst (IsSorted cmp) (sym w.kept-is) w.in_ok-kept.ensures.rises,
      )
      | else-not-is_behind w ↦ (
        w.kept-is ∙ so_far.0 ∙ sym (take-again most (sorted cmp seen)) ∙ ap (take most) (sym so_far.0)
            ∙ sym (rw c.as_slice.ensures at c.is_behind.ensures w.if-not-is_behind.false) ∙ more,
        subst (IsSorted cmp) (sym w.kept-is) so_far.1,
      )
    ])
