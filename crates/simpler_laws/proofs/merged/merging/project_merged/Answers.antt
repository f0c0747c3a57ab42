use Rattle.std.proofs.Common.{◌≡◌, List, IfOk, subst}
use Rattle.bag_algebra.specs.Rewriting.{Stands}
use Rattle.bag_algebra.specs.declared.expr.Item.{Item}
use Rattle.bag_algebra.specs.declared.query.Query.TheVariants.{Project}
use Rattle.perm_values.proofs.Taken.{opened}
use Rattle.query_laws.specs.Standing.{SubsStand}
use Rattle.simpler_laws.proofs.merged.merging.project_merged.Goals as goal

pub returns : goal.returns
returns c q originals h k =
    let given = c.in_ok-input.ensures in
    subst (λ (items : List Item). IfOk c.over.result (λ p. Stands (Project q items originals) p))
    (opened (λ (items : List Item). items ≡ c.args.items.now) c.copy.result _ given.second_was c.copy.ensures)
    (c.over.ensures q originals (opened (λ b. Stands q b) c.args.input _ given.first_was h) (opened (λ others. SubsStand originals others) c.args.subs _ given.third_was k))
