use Rattle.std.proofs.Common.{◌≡◌, List, IfOk, [], ◌∷◌, subst}
use Rattle.perm_values.proofs.Taken.{opened}
use Rattle.bag_algebra.specs.declared.expr.Item.{Item}
use Rattle.bag_algebra.specs.declared.query.Query.{Query}
use Rattle.bag_algebra.specs.declared.query.Query.TheVariants.{Project}
use Rattle.bag_algebra.specs.declared.query.Sublink.{Sublink}
use Rattle.rewrite_sublink.specs.Candidates.{beside_row}
use Rattle.lateral_rewrite.proofs.sides.valued.Goals as goal
use Rattle.lateral_rewrite.specs.Dependent.{value_items}

pub returns : goal.returns
returns c =
    let items = opened (λ (made : List Item). made ≡ beside_row c.args.rows (value_items c.args.standing.now c.args.operand.now)) c.valued_items.result _
    c.in-Ok.ensures.first_was c.valued_items.ensures in
    let subs = opened (λ (made : List Sublink). made ≡ c.args.standing.now ∷ []) c.alone.result _ c.in-Ok.ensures.second_was c.alone.ensures in
    subst (λ (made : Query). IfOk c.project.result (λ p. p ≡ made)) (λ i. Project c.args.rows (items i) (subs i)) c.project.ensures
