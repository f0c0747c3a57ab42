use Rattle.std.proofs.Common.{[], List}
use Rattle.bag_algebra.specs.Rewriting.{IsRewrite}
use Rattle.bag_algebra.specs.declared.expr.Expr.{Expr}
use Rattle.bag_algebra.specs.declared.query.JoinKind.{JoinKind}
use Rattle.bag_algebra.specs.declared.query.JoinKind.TheVariants.{Inner, Left, Right, Full}
use Rattle.bag_algebra.specs.declared.query.Query.{Query}
use Rattle.bag_algebra.specs.declared.query.Query.TheVariants.{Filter, Join}
use Rattle.bag_algebra.specs.declared.query.Sublink.{Sublink}
use Rattle.contribution.proofs.NodeQueries.{of_made}
use Rattle.contribution.specs.Conjunctions.{always}
use Rattle.rewrite_core.specs.rewritings.OpenSublinks.{NoOpenSublink}
use Rattle.rewrite_sublink.proofs.joins.ByPartsRows.{rewrite-by_parts}
use Rattle.rewrite_sublink.specs.joins.ByParts.{by_parts}
use Rattle.rewrite_sublink.proofs.joins.parts.join_by_parts.Goals as goal

by_parts-closed : (kind : JoinKind) (left left_rewriting right right_rewriting pairs : Query) → NoOpenSublink left_rewriting → NoOpenSublink right_rewriting →
    NoOpenSublink pairs → NoOpenSublink (by_parts kind left left_rewriting right right_rewriting pairs)
by_parts-closed Inner left left_rewriting right right_rewriting pairs g h k = k
by_parts-closed Left left left_rewriting right right_rewriting pairs g h k = ((g, k, tt), tt)
by_parts-closed Right left left_rewriting right right_rewriting pairs g h k = ((h, k, tt), tt)
by_parts-closed Full left left_rewriting right right_rewriting pairs g h k = (((g, k, tt), tt), ((h, k, tt), tt))

pub returns-clause-rewrites : goal.returns-clause-rewrites
returns-clause-rewrites c =
    let left = c.args.left.now in
    let right = c.args.right.now in
    of_made (λ (p : Query). (condition : Expr) (subs : List Sublink) → IsRewrite (Filter (Join Inner left right always []) condition subs) c.args.pairs →
    IsRewrite (Join c.args.kind left right condition subs) p) c.by_parts.result _ c.by_parts.ensures
    (λ condition subs given.
    rewrite-by_parts c.args.kind left c.args.left_rewriting right c.args.right_rewriting condition subs c.args.pairs c.requires.left c.requires.right given)

pub returns-clause-none_open : goal.returns-clause-none_open
returns-clause-none_open c =
    of_made (λ (p : Query). NoOpenSublink c.args.left_rewriting → NoOpenSublink c.args.right_rewriting → NoOpenSublink c.args.pairs → NoOpenSublink p)
    c.by_parts.result _ c.by_parts.ensures
    (λ g h k. by_parts-closed c.args.kind c.args.left.now c.args.left_rewriting c.args.right.now c.args.right_rewriting c.args.pairs g h k)
