use Rattle.std.proofs.Common.{◌≡◌, IfOk, subst}
use Rattle.rewrite_core.specs.UnionColumns.{padded_behind}
use Rattle.rewrite_core.proofs.unions.padded.Goals as goal

pub returns : goal.returns
returns c =
    subst (λ first. IfOk c.padded_at.result (λ p. p ≡ padded_behind c.args.rewriting first c.args.added.now)) c.in-Ok.ensures c.padded_at.ensures
