use Rattle.std.proofs.Common.{◌≡◌, [], IfOk, subst}
use Rattle.bag_algebra.specs.built.Patterns.{FilterOf}
use Rattle.bag_algebra.specs.Rewriting.{IsRewrite}
use Rattle.bag_algebra.specs.declared.query.Query.{end_of-Sublink}
use Rattle.bag_algebra.specs.declared.query.Query.TheVariants.{Filter}
use Rattle.contribution.proofs.NodeQueries.{of_made}
use Rattle.rewrite_core.specs.rewritings.OpenSublinks.{NoOpenSublink}
use Rattle.rewrite_core.proofs.FilterRows.{rewrite-Filter}
use Rattle.rewrite_core.proofs.nodes.filter.Goals as goal

pub returns-clause-rewrites : goal.returns-clause-rewrites
returns-clause-rewrites c =
    of_made (λ p. IsRewrite (Filter c.args.input.now c.args.condition.now []) p) c.selection.result _
    (subst (λ e. IfOk c.selection.result (λ p. p ≡ FilterOf c.args.rewriting e [] end_of-Sublink)) c.in-Ok.ensures c.selection.ensures.made)
    (rewrite-Filter c.args.input.now c.args.rewriting c.args.condition.now c.requires)

pub returns-clause-none_open : goal.returns-clause-none_open
returns-clause-none_open c =
    of_made (λ p. NoOpenSublink c.args.rewriting → NoOpenSublink p) c.selection.result _ c.selection.ensures.made (λ h. (h, tt))
