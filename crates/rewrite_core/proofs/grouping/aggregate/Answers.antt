use Rattle.std.proofs.Common.{sym, ◌∙◌, subst}
use Rattle.bag_algebra.proofs.Widths.{width-Aggregate}
use Rattle.bag_algebra.specs.built.Openings.{Aggregate-is}
use Rattle.bag_algebra.specs.Rewriting.{IsRewrite, Stands}
use Rattle.bag_algebra.specs.declared.query.JoinKind.TheVariants.{Left}
use Rattle.bag_algebra.specs.declared.query.Query.{Query}
use Rattle.bag_algebra.specs.declared.query.Query.TheVariants.{Aggregate}
use Rattle.rewrite_core.specs.rewritings.KeptColumns.{pairs_of, columns_kept}
use Rattle.rewrite_core.specs.rewritings.OpenSublinks.{NoOpenSublink}
use Rattle.contribution.proofs.NodeQueries.{of_made}
use Rattle.rewrite_core.proofs.AggregateRows.{aggregate-made}
use Rattle.rewrite_core.specs.SameGroups.{same_groups}
use Rattle.rewrite_core.proofs.grouping.aggregate.Goals as goal

pub returns-clause-rewrites : goal.returns-clause-rewrites
returns-clause-rewrites c =
    let given = c.in-Ok.ensures in
    let kept = width-Aggregate c.args.input c.args.groups.now c.args.aggregates.now ∙ sym given.kept in
    of_made (λ p. (q : Query) → Stands q c.args.input → IsRewrite q c.args.rewriting → IsRewrite (Aggregate q c.args.groups.now c.args.aggregates.now) p) c.beside_class.result _ c.beside_class.ensures
    (λ q s r.
    subst (IsRewrite (Aggregate q c.args.groups.now c.args.aggregates.now))
    (λ i. columns_kept (pairs_of Left (sym given.rows i) c.args.rewriting (same_groups c.args.groups.now (kept i))) (kept i) (sym given.columns i))
    (aggregate-made q c.args.input c.args.rewriting c.args.groups.now c.args.aggregates.now s r))

pub returns-clause-none_open : goal.returns-clause-none_open
returns-clause-none_open c =
    of_made (λ p. NoOpenSublink c.args.input → NoOpenSublink c.args.rewriting → NoOpenSublink p) c.beside_class.result _ c.beside_class.ensures
    (λ g h. (
      (subst (λ (q : Query). NoOpenSublink q) (sym (c.in-Ok.ensures.rows ∙ Aggregate-is c.args.input c.args.groups.now c.args.aggregates.now)) g, h, tt),
      tt,
    ))
