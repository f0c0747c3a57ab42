use Rattle.std.proofs.Common.{◌≡◌, true, sym, ◌∙◌}
use Rattle.bag_algebra.specs.Rewriting.{Stands}
use Rattle.bag_algebra.specs.declared.query.Query.TheVariants.{Filter}
use Rattle.contribution.proofs.NodeQueries.{of_made}
use Rattle.perm_values.proofs.Taken.{opened}
use Rattle.query_laws.proofs.StandingNodes.{stands-Filter}
use Rattle.query_laws.specs.SameExpressions.{SameExpr}
use Rattle.query_laws.specs.Standing.{SubsStand}
use Rattle.folded_literals.proofs.SimpleNodes.{kept-all, filter-simple}
use Rattle.folded_literals.specs.Settled.{is_settled}
use Rattle.folded_literals.specs.Simple.{is_simple}
use Rattle.folded_literals.specs.built.Simple.{all_simple}
use Rattle.folded_literals.proofs.nodes.filter_folded.Goals as goal

pub returns-then-keeps_all-clause-stands : goal.returns-then-keeps_all-clause-stands
returns-then-keeps_all-clause-stands c q originals h k =
    let given = c.in_ok-input.ensures in
    kept-all c.in_ok-input.condition c.in_ok-input.subs q c.in_ok-input.input c.args.condition.now originals (opened (λ b. Stands q b) c.args.input _ given.first_was h)
    (opened (λ e. SameExpr c.args.condition.now e) c.folded.result _ given.second_was c.folded.ensures.same)
    (opened (λ others. SubsStand originals others) c.args.subs _ given.third_was k) (sym c.keeps_all.ensures ∙ c.if-keeps_all.true)

pub returns-then-keeps_all-clause-simple : goal.returns-then-keeps_all-clause-simple
returns-then-keeps_all-clause-simple c h k = opened (λ b. is_simple b ≡ true) c.args.input _ c.in_ok-input.ensures.first_was h

pub returns-clause-stands : goal.returns-clause-stands
returns-clause-stands c q originals h k =
    let given = c.in_ok-input.ensures in
    of_made (λ p. Stands (Filter q c.args.condition.now originals) p) c.filter.result _ c.filter.ensures
    (stands-Filter q _ (opened (λ b. Stands q b) c.args.input _ given.first_was h) _ _
    (opened (λ e. SameExpr c.args.condition.now e) c.folded.result _ given.second_was c.folded.ensures.same) originals _
    (opened (λ others. SubsStand originals others) c.args.subs _ given.third_was k))

pub returns-clause-simple : goal.returns-clause-simple
returns-clause-simple c h k =
    let given = c.in_ok-input.ensures in
    of_made (λ p. is_simple p ≡ true) c.filter.result _ c.filter.ensures
    (filter-simple c.in_ok-input.condition c.in_ok-input.subs c.in_ok-input.input (opened (λ b. is_simple b ≡ true) c.args.input _ given.first_was h)
    (opened (λ e. is_settled e ≡ true) c.folded.result _ given.second_was c.folded.ensures.settled)
    (opened (λ others. all_simple others ≡ true) c.args.subs _ given.third_was k) (sym c.keeps_all.ensures ∙ c.if-keeps_all.false))
