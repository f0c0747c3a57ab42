use Rattle.std.proofs.Common.{◌≡◌, IfOk, subst₂}
use Rattle.rewrite_core.specs.rewritings.KeptColumns.{columns_kept}
use Rattle.lateral_rewrite.proofs.sides.provenance.Goals as goal

pub returns : goal.returns
returns c =
    subst₂ (λ rows own. IfOk c.columns_kept.result (λ p. p ≡ columns_kept rows 0 own)) c.in_ok-rows.ensures c.in_ok-own.ensures.columns c.columns_kept.ensures
