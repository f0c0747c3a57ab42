use Rattle.std.proofs.Common.{◌≡◌, [], IfOk, subst}
use Rattle.bag_algebra.specs.built.Patterns.{ProjectOf}
use Rattle.bag_algebra.specs.declared.query.Query.{end_of-Sublink}
use Rattle.rewrite_core.proofs.unions.widened.Goals as goal

pub returns : goal.returns
returns c =
    subst (λ items. IfOk c.projection.result (λ p. p ≡ ProjectOf c.args.query items [] end_of-Sublink)) c.in-Ok.ensures c.projection.ensures.made
