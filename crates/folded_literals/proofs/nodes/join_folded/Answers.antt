use Rattle.std.proofs.Common.{◌≡◌, true}
use Rattle.bag_algebra.specs.Rewriting.{Stands}
use Rattle.bag_algebra.specs.declared.query.Query.TheVariants.{Join}
use Rattle.contribution.proofs.NodeQueries.{of_made}
use Rattle.perm_values.proofs.Taken.{opened}
use Rattle.query_laws.proofs.StandingNodes.{stands-Join}
use Rattle.query_laws.specs.SameExpressions.{SameExpr}
use Rattle.query_laws.specs.Standing.{SubsStand}
use Rattle.folded_literals.proofs.SimpleNodes.{join-simple}
use Rattle.folded_literals.specs.Settled.{is_settled}
use Rattle.folded_literals.specs.Simple.{is_simple}
use Rattle.folded_literals.specs.built.Simple.{all_simple}
use Rattle.folded_literals.proofs.nodes.join_folded.Goals as goal

pub returns-clause-stands : goal.returns-clause-stands
returns-clause-stands c q r originals h g k =
    let given = c.in_ok-left.ensures in
    of_made (λ p. Stands (Join c.args.kind q r c.args.condition.now originals) p) c.join.result _ c.join.ensures
    (stands-Join q _ (opened (λ b. Stands q b) c.args.left _ given.first_was h) r _ (opened (λ d. Stands r d) c.args.right _ given.second_was g) c.args.kind _ _
    (opened (λ e. SameExpr c.args.condition.now e) c.folded.result _ given.third_was c.folded.ensures.same) originals _
    (opened (λ others. SubsStand originals others) c.args.subs _ given.fourth_was k))

pub returns-clause-simple : goal.returns-clause-simple
returns-clause-simple c h g k =
    let given = c.in_ok-left.ensures in
    of_made (λ p. is_simple p ≡ true) c.join.result _ c.join.ensures
    (join-simple c.args.kind c.in_ok-left.left c.in_ok-left.right c.in_ok-left.condition c.in_ok-left.subs (opened (λ b. is_simple b ≡ true) c.args.left _ given.first_was h) (opened (λ d. is_simple d ≡ true) c.args.right _ given.second_was g)
    (opened (λ e. is_settled e ≡ true) c.folded.result _ given.third_was c.folded.ensures.settled)
    (opened (λ others. all_simple others ≡ true) c.args.subs _ given.fourth_was k))
