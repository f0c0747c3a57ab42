use Rattle.std.proofs.Common.{◌≡◌, [], refl, sym, subst, List, ℕ, Result, Ok, Err, IfOk}
use Rattle.perm_values.specs.declared.no_memory.NoMemory.{NoMemory}
use Rattle.bag_algebra.specs.ColumnItems.{column_items}
use Rattle.bag_algebra.specs.Kinds.{kinds_of}
use Rattle.bag_algebra.specs.built.Patterns.{JoinOf, ProjectOf}
use Rattle.bag_algebra.specs.Rewriting.{IsRewrite}
use Rattle.bag_algebra.specs.declared.expr.Expr.{Expr}
use Rattle.bag_algebra.specs.declared.query.JoinKind.{JoinKind}
use Rattle.bag_algebra.specs.declared.query.Query.{Query, end_of-Sublink}
use Rattle.rewrite_core.specs.rewritings.OpenSublinks.{NoOpenSublink}
use Rattle.rewrite_core.specs.JoinColumns.{IsPaired, IsLaidOut}
use Rattle.rewrite_core.proofs.joins.laid_out.Goals as goal

rewrite-pairs : (kind : JoinKind) (left left_rewriting right right_rewriting pairs : Query) (condition : Expr) (order : List ℕ) (result : Result Query NoMemory) →
    IsPaired kind left left_rewriting right right_rewriting condition pairs →
    IfOk result (λ p. (q : Query) → IsRewrite q (ProjectOf pairs (column_items (kinds_of pairs) order) [] end_of-Sublink) → IsRewrite q p) →
    IfOk result (λ p. (q : Query) → ((whole : Query) → IsLaidOut kind left left_rewriting right right_rewriting condition order whole → IsRewrite q whole) → IsRewrite q p)
rewrite-pairs kind left left_rewriting right right_rewriting pairs condition order (Ok p) paired laid = λ q whole.
    laid q (whole (ProjectOf pairs (column_items (kinds_of pairs) order) [] end_of-Sublink) (record { pairs = pairs; paired = paired; columns = refl }))
rewrite-pairs kind left left_rewriting right right_rewriting pairs condition order (Err error) paired laid = tt

-- the join of the rewritings has no open sublink where these have none
pairs-closed : (kind : JoinKind) (left_rewriting right_rewriting pairs : Query) (on : Expr) (result : Result Query NoMemory) →
    pairs ≡ JoinOf kind left_rewriting right_rewriting on [] end_of-Sublink → IfOk result (λ p. NoOpenSublink pairs → NoOpenSublink p) →
    IfOk result (λ p. NoOpenSublink left_rewriting → NoOpenSublink right_rewriting → NoOpenSublink p)
pairs-closed kind left_rewriting right_rewriting pairs on (Ok p) whole kept = λ g h. kept (subst (λ (q : Query). NoOpenSublink q) (sym whole) (g, h, tt))
pairs-closed kind left_rewriting right_rewriting pairs on (Err error) whole kept = tt

pub returns-clause-laid : goal.returns-clause-laid
returns-clause-laid c =
    rewrite-pairs c.args.kind c.args.left.now c.args.left_rewriting c.args.right.now c.args.right_rewriting _ c.args.condition.now c.args.order.now c.with_columns.result
    c.in_ok-pairs.ensures c.with_columns.ensures.laid

pub returns-clause-none_open : goal.returns-clause-none_open
returns-clause-none_open c =
    pairs-closed c.args.kind c.args.left_rewriting c.args.right_rewriting _ c.in_ok-pairs.ensures.on c.with_columns.result c.in_ok-pairs.ensures.whole
    c.with_columns.ensures.none_open
