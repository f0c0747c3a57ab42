use Rattle.std.proofs.Common.{[], subst}
use Rattle.bag_algebra.specs.ColumnItems.{column_items}
use Rattle.bag_algebra.specs.Kinds.{kinds_of}
use Rattle.bag_algebra.specs.built.Patterns.{ProjectOf}
use Rattle.bag_algebra.specs.Rewriting.{IsRewrite}
use Rattle.bag_algebra.specs.declared.query.Query.{Query, end_of-Sublink}
use Rattle.contribution.proofs.NodeQueries.{of_made}
use Rattle.rewrite_core.specs.rewritings.OpenSublinks.{NoOpenSublink}
use Rattle.rewrite_core.proofs.Unprojected.{rewrite-unprojected}
use Rattle.rewrite_core.proofs.columns.with_columns.Goals as goal

pub returns-then-all-clause-laid : goal.returns-then-all-clause-laid
returns-then-all-clause-laid c = λ q given.
    rewrite-unprojected q c.args.query
    (subst (λ order. IsRewrite q (ProjectOf c.args.query (column_items (kinds_of c.args.query) order) [] end_of-Sublink))
    (c.in-Ok.ensures c.if-all.true) given)

pub returns-then-all-clause-none_open : goal.returns-then-all-clause-none_open
returns-then-all-clause-none_open c = λ h. h

pub returns-clause-laid : goal.returns-clause-laid
returns-clause-laid c =
    of_made (λ p. (q : Query) → IsRewrite q (ProjectOf c.args.query (column_items (kinds_of c.args.query) c.args.order.now) [] end_of-Sublink) → IsRewrite q p)
    c.regroup.result _ c.regroup.ensures.made (λ q given. given)

pub returns-clause-none_open : goal.returns-clause-none_open
returns-clause-none_open c =
    of_made (λ p. NoOpenSublink c.args.query → NoOpenSublink p) c.regroup.result _ c.regroup.ensures.made (λ h. (h, tt))
