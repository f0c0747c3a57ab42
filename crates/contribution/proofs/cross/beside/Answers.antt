use Rattle.std.proofs.Common.{◌≡◌, [], IfOk, subst}
use Rattle.bag_algebra.specs.built.Patterns.{JoinOf}
use Rattle.bag_algebra.specs.declared.expr.Expr.{Expr}
use Rattle.bag_algebra.specs.declared.query.JoinKind.TheVariants.{Inner}
use Rattle.bag_algebra.specs.declared.query.Query.{Query, end_of-Sublink}
use Rattle.contribution.specs.CrossBase.{source_query}
use Rattle.contribution.proofs.cross.beside.Goals as goal

pub returns : goal.returns
returns c =
    subst (λ (test : Expr). IfOk c.join_on.result (λ p. p ≡ JoinOf Inner (source_query c.args.source.now) c.args.rest test [] end_of-Sublink)) c.always.ensures
    (subst (λ (left : Query). IfOk c.join_on.result (λ p. p ≡ JoinOf Inner left c.args.rest c.always.result [] end_of-Sublink)) c.in-Ok.ensures
    c.join_on.ensures.made)
