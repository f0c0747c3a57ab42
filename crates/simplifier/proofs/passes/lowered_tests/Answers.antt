use Rattle.bag_algebra.specs.Rewriting.{Stands}
use Rattle.perm_values.proofs.Results.{where_made}
use Rattle.perm_values.proofs.Taken.{opened}
use Rattle.rewrite_core.proofs.Itself.{stands-onward}
use Rattle.simplifier.proofs.passes.lowered_tests.Goals as goal

pub returns : goal.returns
returns c q h =
    where_made (λ p. Stands c.in_ok-query.query p) (λ p. Stands q p) c.tests_lowered-simpler.result
    (λ p s. stands-onward q c.in_ok-query.query p (opened (λ b. Stands q b) c.args.query _ c.in_ok-query.was h) s) c.tests_lowered-simpler.ensures
