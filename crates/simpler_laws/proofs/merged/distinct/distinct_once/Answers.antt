use Rattle.std.proofs.Common.{refl, sym, ◌∙◌}
use Rattle.bag_algebra.specs.Rewriting.{Stands}
use Rattle.bag_algebra.specs.declared.query.Query.TheVariants.{Distinct}
use Rattle.contribution.proofs.NodeQueries.{of_made}
use Rattle.perm_values.proofs.Taken.{opened}
use Rattle.query_laws.proofs.StandingNodes.{stands-Distinct}
use Rattle.simpler_laws.proofs.OnceRows.{stands-once}
use Rattle.simpler_laws.specs.merged.Once.{IsMadeOnce, itself, over}
use Rattle.simpler_laws.proofs.merged.distinct.distinct_once.Goals as goal

pub returns-then-gives_once-clause-stands : goal.returns-then-gives_once-clause-stands
returns-then-gives_once-clause-stands c q h =
    stands-once q c.in_ok-input.input (sym c.gives_once.ensures ∙ c.if-gives_once.true) (opened (λ b. Stands q b) c.args.input _ c.in_ok-input.was h)

pub returns-then-gives_once-clause-made : goal.returns-then-gives_once-clause-made
returns-then-gives_once-clause-made c = itself c.in_ok-input.was

pub returns-clause-stands : goal.returns-clause-stands
returns-clause-stands c q h =
    of_made (λ p. Stands (Distinct q) p) c.distinct.result _ c.distinct.ensures
    (stands-Distinct q c.in_ok-input.input (opened (λ b. Stands q b) c.args.input _ c.in_ok-input.was h))

pub returns-clause-made : goal.returns-clause-made
returns-clause-made c =
    of_made (λ p. IsMadeOnce c.args.input p) c.distinct.result _ c.distinct.ensures
    (over c.in_ok-input.input c.in_ok-input.was (sym c.gives_once.ensures ∙ c.if-gives_once.false) refl)
