use Rattle.std.proofs.Common.{sym, subst₂}
use Rattle.bag_algebra.specs.Rewriting.{IsRewrite}
use Rattle.bag_algebra.specs.declared.query.JoinKind.TheVariants.{Inner}
use Rattle.bag_algebra.specs.declared.query.Query.TheVariants.{Intersect}
use Rattle.rewrite_core.specs.rewritings.KeptColumns.{same_as_first, pairs_of, columns_kept}
use Rattle.rewrite_core.specs.rewritings.OpenSublinks.{NoOpenSublink}
use Rattle.contribution.proofs.NodeQueries.{of_made}
use Rattle.rewrite_core.proofs.IntersectRows.{intersect-made}
use Rattle.rewrite_core.proofs.sets.rules.intersect.Goals as goal

pub returns-clause-rewrites : goal.returns-clause-rewrites
returns-clause-rewrites c =
    of_made (λ p. IsRewrite c.args.left.now c.args.left_rewriting → IsRewrite c.args.right.now c.args.right_rewriting →
    IsRewrite (Intersect c.args.all c.args.left.now c.args.right.now) p) c.join_on_first_columns.result _ c.join_on_first_columns.ensures
    (λ l r.
    subst₂ (λ n k. IsRewrite (Intersect c.args.all c.args.left.now c.args.right.now)
    (columns_kept (pairs_of Inner c.args.left_rewriting c.args.right_rewriting (same_as_first n k)) k n))
    (sym c.in-Ok.ensures.own) (sym c.in-Ok.ensures.kept)
    (intersect-made c.args.all c.args.left.now c.args.right.now c.args.left_rewriting c.args.right_rewriting l r))

pub returns-clause-none_open : goal.returns-clause-none_open
returns-clause-none_open c =
    of_made (λ p. NoOpenSublink c.args.left_rewriting → NoOpenSublink c.args.right_rewriting → NoOpenSublink p) c.join_on_first_columns.result _
    c.join_on_first_columns.ensures (λ g h. ((g, h, tt), tt))
