use Rattle.std.proofs.Common.{◌≡◌, [], IfOk, subst}
use Rattle.bag_algebra.specs.built.Patterns.{ProjectOf}
use Rattle.bag_algebra.specs.Rewriting.{IsRewrite}
use Rattle.bag_algebra.specs.declared.query.Query.{end_of-Sublink}
use Rattle.bag_algebra.specs.declared.query.Query.TheVariants.{Project}
use Rattle.contribution.proofs.NodeQueries.{of_made}
use Rattle.rewrite_core.specs.rewritings.OpenSublinks.{NoOpenSublink}
use Rattle.rewrite_core.proofs.ProjectRows.{rewrite-Project}
use Rattle.rewrite_core.proofs.nodes.project.Goals as goal

pub returns-clause-rewrites : goal.returns-clause-rewrites
returns-clause-rewrites c =
    of_made (λ p. IsRewrite (Project c.args.input.now c.args.items.now []) p) c.projection.result _
    (subst (λ items. IfOk c.projection.result (λ p. p ≡ ProjectOf c.args.rewriting items [] end_of-Sublink)) c.in-Ok.ensures c.projection.ensures.made)
    (rewrite-Project c.args.input.now c.args.rewriting c.args.items.now c.requires)

pub returns-clause-none_open : goal.returns-clause-none_open
returns-clause-none_open c =
    of_made (λ p. NoOpenSublink c.args.rewriting → NoOpenSublink p) c.projection.result _ c.projection.ensures.made (λ h. (h, tt))
