use Rattle.std.proofs.Common.{sym, ◌∙◌, subst, subst₂}
use Rattle.bag_algebra.specs.built.Openings.{Limit-is}
use Rattle.bag_algebra.specs.Rewriting.{IsRewrite, Stands}
use Rattle.bag_algebra.specs.declared.query.JoinKind.TheVariants.{Inner}
use Rattle.bag_algebra.specs.declared.query.Query.{Query}
use Rattle.bag_algebra.specs.declared.query.Query.TheVariants.{Limit}
use Rattle.rewrite_core.specs.rewritings.KeptColumns.{same_as_first, pairs_of, columns_kept}
use Rattle.rewrite_core.specs.rewritings.OpenSublinks.{NoOpenSublink}
use Rattle.contribution.proofs.NodeQueries.{of_made}
use Rattle.rewrite_core.proofs.LimitRows.{limit-made}
use Rattle.rewrite_core.proofs.sets.rules.limit.Goals as goal

pub returns-clause-rewrites : goal.returns-clause-rewrites
returns-clause-rewrites c =
    of_made (λ p. (q : Query) → Stands q c.args.input → IsRewrite q c.args.rewriting → IsRewrite (Limit q c.args.keys.now c.args.count) p) c.join_on_first_columns.result _ c.join_on_first_columns.ensures
    (λ q s r.
    subst₂ (λ plain n. IsRewrite (Limit q c.args.keys.now c.args.count) (columns_kept (pairs_of Inner plain c.args.rewriting (same_as_first n n)) n n))
    (sym c.in-Ok.ensures.rows) (sym c.in-Ok.ensures.columns) (limit-made q c.args.input c.args.rewriting c.args.keys.now c.args.count s r))

pub returns-clause-none_open : goal.returns-clause-none_open
returns-clause-none_open c =
    of_made (λ p. NoOpenSublink c.args.input → NoOpenSublink c.args.rewriting → NoOpenSublink p) c.join_on_first_columns.result _ c.join_on_first_columns.ensures
    (λ g h. (
      (subst (λ (q : Query). NoOpenSublink q) (sym (c.in-Ok.ensures.rows ∙ Limit-is c.args.input c.args.keys.now c.args.count)) g, h, tt),
      tt,
    ))
