use Rattle.std.proofs.Common.{[], ◌∷◌, sym, subst}
use Rattle.perm_values.proofs.Taken.{opened}
use Rattle.rewrite_driver.proofs.MadeQueries.{both_made}
use Rattle.rewrite_sublink.specs.SubRewritings.{SubsRewritten}
use Rattle.call_tests.proofs.rewritten.inside.Goals as goal

pub returns-clause-rewritten : goal.returns-clause-rewritten
returns-clause-rewritten c =
    both_made _ _ (λ s. SubsRewritten s.0 s.2) c.whole.result c.whole.ensures.own c.whole.ensures.rewritings (λ s own e.
    subst (λ subs. SubsRewritten subs s.2) (sym own) (opened (SubsRewritten (c.in_ok-sub.sub ∷ [])) c.query_rewritten-rewritings.result s.2 e c.query_rewritten-rewritings.ensures))
