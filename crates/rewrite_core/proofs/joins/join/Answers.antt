use Rattle.std.proofs.Common.{◌≡◌, ◌++◌, [], List, ℕ, Result, Ok, Err, IfOk, ◌∙◌, subst}
use Rattle.perm_values.specs.declared.no_memory.NoMemory.{NoMemory}
use Rattle.bag_algebra.specs.Kinds.{width_of}
use Rattle.bag_algebra.specs.Rewriting.{IsRewrite}
use Rattle.bag_algebra.specs.declared.expr.Expr.{Expr}
use Rattle.bag_algebra.specs.declared.query.JoinKind.{JoinKind}
use Rattle.bag_algebra.specs.declared.query.Query.{Query}
use Rattle.bag_algebra.specs.declared.query.Query.TheVariants.{Join}
use Rattle.rewrite_core.proofs.JoinRows.{rewrite-laid_out}
use Rattle.rewrite_core.specs.JoinColumns.{own_places, added_places, IsLaidOut}
use Rattle.rewrite_core.proofs.joins.join.Goals as goal

rewrite-laid : (kind : JoinKind) (left left_rewriting right right_rewriting : Query) (condition : Expr) (order : List ℕ) (result : Result Query NoMemory) →
    IsRewrite left left_rewriting → IsRewrite right right_rewriting →
    order ≡ own_places (width_of left) (width_of left_rewriting) (width_of right) ++ added_places (width_of left) (width_of left_rewriting) (width_of right) (width_of right_rewriting) →
    IfOk result (λ p. (q : Query) → ((whole : Query) → IsLaidOut kind left left_rewriting right right_rewriting condition order whole → IsRewrite q whole) → IsRewrite q p) →
    IfOk result (λ p. IsRewrite (Join kind left right condition []) p)
rewrite-laid kind left left_rewriting right right_rewriting condition order (Ok p) left_given right_given e laid =
    laid (Join kind left right condition [])
    (λ whole made. rewrite-laid_out kind left left_rewriting right right_rewriting condition whole left_given right_given
    (subst (λ order. IsLaidOut kind left left_rewriting right right_rewriting condition order whole) e made))
rewrite-laid kind left left_rewriting right right_rewriting condition order (Err error) left_given right_given e laid = tt

pub returns-clause-rewrites : goal.returns-clause-rewrites
returns-clause-rewrites c =
    rewrite-laid c.args.kind c.args.left.now c.args.left_rewriting c.args.right.now c.args.right_rewriting c.args.condition.now _ c.laid_out.result
    c.requires.left c.requires.right (c.as_slice.ensures ∙ c.in-Ok.ensures) c.laid_out.ensures.laid

pub returns-clause-none_open : goal.returns-clause-none_open
returns-clause-none_open c = c.laid_out.ensures.none_open
