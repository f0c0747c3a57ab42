use Rattle.std.proofs.Common.{[], ◌∷◌, ◌∙◌, sym, subst}
use Rattle.std.specs.Bool.{IsTrue}
use Rattle.bag_algebra.specs.built.Scopes.{all_over_tables}
use Rattle.perm_values.proofs.Results.{where_made}
use Rattle.call_tests.proofs.Rewriting.{only-over_tables}
use Rattle.perm_values.proofs.Taken.{opened}
use Rattle.rewrite_driver.proofs.MadeQueries.{both_made}
use Rattle.rewrite_sublink.specs.SubRewritings.{SubsRewritten}
use Rattle.call_tests.proofs.rewritten.inside_tables.Goals as goal

pub returns-clause-rewritten : goal.returns-clause-rewritten
returns-clause-rewritten c =
    both_made _ _ (λ s. SubsRewritten s.0 s.2) c.whole.result c.whole.ensures.own c.whole.ensures.rewritings (λ s own e.
    subst (λ subs. SubsRewritten subs s.2) (sym own) (opened (SubsRewritten (c.in_ok-sub.sub ∷ [])) c.query_rewritten-rewritings.result s.2 e c.query_rewritten-rewritings.ensures))

pub returns-clause-over_tables : goal.returns-clause-over_tables
returns-clause-over_tables c =
    where_made _ (λ s. IsTrue (all_over_tables s.0)) c.whole.result (λ s own. subst (λ subs. IsTrue (all_over_tables subs)) (sym own)
    (only-over_tables c.in_ok-sub.sub (sym c.if-not-over_tables.false ∙ c.over_tables.ensures))) c.whole.ensures.own
