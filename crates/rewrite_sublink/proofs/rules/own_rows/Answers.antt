use Rattle.std.proofs.Common.{◌≡◌, List, IfOk, subst}
use Rattle.perm_values.proofs.Taken.{opened}
use Rattle.bag_algebra.specs.declared.expr.Expr.{Expr}
use Rattle.bag_algebra.specs.declared.query.Query.{Query}
use Rattle.bag_algebra.specs.declared.query.Query.TheVariants.{Filter}
use Rattle.bag_algebra.specs.declared.query.Sublink.{Sublink}
use Rattle.rewrite_sublink.proofs.rules.own_rows.Goals as goal

pub returns : goal.returns
returns c =
    let condition = opened (λ (made : Expr). made ≡ c.args.condition.now) c.copy.result _ c.in-Ok.ensures.first_was c.copy.ensures in
    let subs = opened (λ (made : List Sublink). made ≡ c.args.standing.now) c.copy_of.result _ c.in-Ok.ensures.second_was c.copy_of.ensures in
    subst (λ (made : Query). IfOk c.filter.result (λ p. p ≡ made)) (λ i. Filter c.args.rewriting (condition i) (subs i)) c.filter.ensures
