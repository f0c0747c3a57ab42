use Rattle.std.proofs.Common.{◌≡◌, IfOk, subst}
use Rattle.lateral_rewrite.proofs.contributions.all_beside.Goals as goal
use Rattle.lateral_rewrite.specs.Dependent.{beside}

pub returns : goal.returns
returns c = subst (λ right. IfOk c.beside.result (λ p. p ≡ beside c.args.rows right)) c.in-Ok.ensures c.beside.ensures
