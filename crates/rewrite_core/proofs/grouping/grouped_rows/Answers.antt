use Rattle.std.proofs.Common.{◌≡◌, List, IfOk, subst}
use Rattle.perm_values.proofs.Taken.{opened}
use Rattle.bag_algebra.specs.declared.query.Aggr.{Aggr}
use Rattle.bag_algebra.specs.declared.query.Query.{Query}
use Rattle.bag_algebra.specs.declared.query.Query.TheVariants.{Aggregate}
use Rattle.rewrite_core.proofs.grouping.grouped_rows.Goals as goal

pub returns : goal.returns
returns c =
    let groups = opened (λ places. places ≡ c.args.groups.now) c.copy_of.result _ c.in-Ok.ensures.first_was c.copy_of.ensures in
    let aggregates = opened (λ (made : List Aggr). made ≡ c.args.aggregates.now) c.copy_of-2.result _ c.in-Ok.ensures.second_was c.copy_of-2.ensures in
    subst (λ (made : Query). IfOk c.aggregate.result (λ p. p ≡ made)) (λ i. Aggregate c.args.input (groups i) (aggregates i)) c.aggregate.ensures
