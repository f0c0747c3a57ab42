use Rattle.std.proofs.Common.{◌≡◌, true}
use Rattle.bag_algebra.specs.Rewriting.{Stands}
use Rattle.bag_algebra.specs.declared.query.Query.TheVariants.{Project}
use Rattle.contribution.proofs.NodeQueries.{of_made}
use Rattle.contribution.specs.MovedColumns.{Along}
use Rattle.perm_values.proofs.Taken.{opened}
use Rattle.query_laws.proofs.StandingNodes.{stands-Project}
use Rattle.query_laws.specs.EveryExpression.{items_pass}
use Rattle.query_laws.specs.SameExpressions.{SameItem}
use Rattle.query_laws.specs.Standing.{SubsStand}
use Rattle.folded_literals.proofs.Rebuilt.{items-along}
use Rattle.folded_literals.proofs.SimpleNodes.{project-simple}
use Rattle.folded_literals.specs.Settled.{is_settled}
use Rattle.folded_literals.specs.Simple.{is_simple}
use Rattle.folded_literals.specs.built.Simple.{all_simple}
use Rattle.folded_literals.proofs.nodes.project_folded.Goals as goal

pub returns-clause-stands : goal.returns-clause-stands
returns-clause-stands c q originals h k =
    let given = c.in_ok-input.ensures in
    of_made (λ p. Stands (Project q c.args.items.now originals) p) c.project.result _ c.project.ensures
    (stands-Project q _ (opened (λ b. Stands q b) c.args.input _ given.first_was h) _ _
    (items-along _ _ (rw c.as_slice.ensures at (opened (λ made. Along SameItem c.as_slice.result.now made) c.folded_items-made.result _ given.second_was c.folded_items-made.ensures.same))) originals _
    (opened (λ others. SubsStand originals others) c.args.subs _ given.third_was k))

pub returns-clause-simple : goal.returns-clause-simple
returns-clause-simple c h k =
    let given = c.in_ok-input.ensures in
    of_made (λ p. is_simple p ≡ true) c.project.result _ c.project.ensures
    (project-simple c.in_ok-input.input c.in_ok-input.made c.in_ok-input.subs (opened (λ b. is_simple b ≡ true) c.args.input _ given.first_was h)
    (opened (λ made. items_pass is_settled made ≡ true) c.folded_items-made.result _ given.second_was c.folded_items-made.ensures.settled)
    (opened (λ others. all_simple others ≡ true) c.args.subs _ given.third_was k))
