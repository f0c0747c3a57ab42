use Rattle.std.proofs.Common.{[], ◌∷◌, sym, subst}
use Rattle.perm_values.proofs.Results.{where_made}
use Rattle.rewrite_sublink.specs.SubRewritings.{SubsRewritten}
use Rattle.call_tests.proofs.rewritten.query_rewritten.Goals as goal

pub returns : goal.returns
returns c =
    let sub = c.args.sub.now in
    where_made _ (λ rewritings. SubsRewritten (sub ∷ []) rewritings) c.only_item.result (λ rewritings e.
    subst (SubsRewritten (sub ∷ [])) (sym e) (c.in_ok-rewriting.ensures, tt)) c.only_item.ensures
