use Rattle.std.proofs.Common.{◌≡◌, Ok, refl, subst}
use Rattle.bag_algebra.specs.Rewriting.{IsRewrite}
use Rattle.perm_values.proofs.Taken.{opened}
use Rattle.rewrite_driver.proofs.MadeQueries.{both_made}
use Rattle.call_tests.proofs.rewritten.with_rewriting.Goals as goal

pub returns : goal.returns
returns c =
    let query = c.in_ok-query.query in
    both_made _ _ (λ s. IsRewrite s.0 s.1) c.both.result c.both.ensures.first_was c.both.ensures.second_was (λ s e g.
    let is : query ≡ s.0 = opened (λ q. query ≡ q) (Ok query) s.0 e refl in
    subst (λ q. IsRewrite q s.1) is (opened (λ p. IsRewrite query p) c.rewriting_of-rewriting.result s.1 g c.rewriting_of-rewriting.ensures))
