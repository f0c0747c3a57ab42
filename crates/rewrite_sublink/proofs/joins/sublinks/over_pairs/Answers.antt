use Rattle.std.proofs.Common.{◌≡◌, [], List, Result, Ok, Err, IfOk}
use Rattle.perm_values.specs.declared.no_memory.NoMemory.{NoMemory}
use Rattle.bag_algebra.specs.Rewriting.{IsRewrite}
use Rattle.bag_algebra.specs.declared.expr.Expr.{Expr}
use Rattle.bag_algebra.specs.declared.query.JoinKind.{JoinKind}
use Rattle.bag_algebra.specs.declared.query.JoinKind.TheVariants.{Inner}
use Rattle.bag_algebra.specs.declared.query.Query.{Query}
use Rattle.bag_algebra.specs.declared.query.Query.TheVariants.{Filter, Join}
use Rattle.bag_algebra.specs.declared.query.Sublink.{Sublink}
use Rattle.contribution.specs.Conjunctions.{always}
use Rattle.perm_values.proofs.Taken.{opened}
use Rattle.rewrite_core.specs.rewritings.OpenSublinks.{NoOpenSublink}
use Rattle.rewrite_sublink.proofs.joins.sublinks.over_pairs.Goals as goal

-- what holds for the pairs that could be rewritten
of_pairs : (kind : JoinKind) (left right pairs : Query) (met result : Result Query NoMemory) → met ≡ Ok pairs →
    IfOk result (λ p. (condition : Expr) (subs : List Sublink) → IsRewrite (Filter (Join Inner left right always []) condition subs) pairs →
    IsRewrite (Join kind left right condition subs) p) →
    IfOk result (λ p. (condition : Expr) (subs : List Sublink) → IfOk met (λ pairs. IsRewrite (Filter (Join Inner left right always []) condition subs) pairs) →
    IsRewrite (Join kind left right condition subs) p)
of_pairs kind left right pairs met (Ok p) is made = λ condition subs given.
    made condition subs (opened (λ pairs. IsRewrite (Filter (Join Inner left right always []) condition subs) pairs) met pairs is given)
of_pairs kind left right pairs met (Err error) is made = tt

closed-of_pairs : (left_rewriting right_rewriting pairs : Query) (met result : Result Query NoMemory) → met ≡ Ok pairs →
    IfOk result (λ p. NoOpenSublink left_rewriting → NoOpenSublink right_rewriting → NoOpenSublink pairs → NoOpenSublink p) →
    IfOk result (λ p. NoOpenSublink left_rewriting → NoOpenSublink right_rewriting → IfOk met (λ pairs. NoOpenSublink pairs) → NoOpenSublink p)
closed-of_pairs left_rewriting right_rewriting pairs met (Ok p) is made = λ g h k. made g h (opened (λ (q : Query). NoOpenSublink q) met pairs is k)
closed-of_pairs left_rewriting right_rewriting pairs met (Err error) is made = tt

pub returns-clause-rewrites : goal.returns-clause-rewrites
returns-clause-rewrites c =
    of_pairs c.args.kind c.args.left.now c.args.right.now c.in-Ok.pairs c.args.met c.join_by_parts.result c.in-Ok.is c.join_by_parts.ensures.rewrites

pub returns-clause-none_open : goal.returns-clause-none_open
returns-clause-none_open c =
    closed-of_pairs c.args.left_rewriting c.args.right_rewriting c.in-Ok.pairs c.args.met c.join_by_parts.result c.in-Ok.is c.join_by_parts.ensures.none_open
