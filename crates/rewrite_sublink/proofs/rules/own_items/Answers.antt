use Rattle.std.proofs.Common.{◌≡◌, List, IfOk, subst}
use Rattle.perm_values.proofs.Taken.{opened}
use Rattle.bag_algebra.specs.declared.expr.Item.{Item}
use Rattle.bag_algebra.specs.declared.query.Query.{Query}
use Rattle.bag_algebra.specs.declared.query.Query.TheVariants.{Project}
use Rattle.bag_algebra.specs.declared.query.Sublink.{Sublink}
use Rattle.rewrite_sublink.proofs.rules.own_items.Goals as goal
use Rattle.rewrite_sublink.specs.Candidates.{beside_row}

pub returns : goal.returns
returns c =
    let items = opened (λ (made : List Item). made ≡ beside_row c.args.rewriting c.args.items.now) c.beside_row.result _ c.in-Ok.ensures.first_was c.beside_row.ensures in
    let subs = opened (λ (made : List Sublink). made ≡ c.args.standing.now) c.copy_of.result _ c.in-Ok.ensures.second_was c.copy_of.ensures in
    subst (λ (made : Query). IfOk c.project.result (λ p. p ≡ made)) (λ i. Project c.args.rewriting (items i) (subs i)) c.project.ensures
