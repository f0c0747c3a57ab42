use Rattle.std.proofs.Common.{ap, ◌∙◌, subst}
use Rattle.perm_values.proofs.Results.{where_made}
use Rattle.bag_algebra.specs.Rewriting.{IsRewrite, Stands}
use Rattle.bag_algebra.specs.built.Openings.{Prov-is}
use Rattle.bag_algebra.specs.declared.query.Query.TheVariants.{Prov}
use Rattle.call_tests.proofs.Rewriting.{rewrites-where_stands}
use Rattle.call_tests.proofs.rewritten.rewriting_of.Goals as goal

pub returns : goal.returns
returns c =
    let query = c.args.query.now in
    where_made _ (λ p. IsRewrite query p) c.eliminate-plain.result (λ p s.
    rewrites-where_stands query p (subst (λ n. Stands n p) (c.in_ok-asked.ensures ∙ ap Prov c.in_ok-copy.ensures ∙ Prov-is query) s))
    c.eliminate-plain.ensures.stands
