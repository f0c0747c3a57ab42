use Rattle.std.proofs.Common.{◌≡◌, [], IfOk, subst₂}
use Rattle.bag_algebra.specs.built.Patterns.{FilterOf}
use Rattle.bag_algebra.specs.declared.query.Query.{end_of-Sublink}
use Rattle.lateral_rewrite.proofs.sides.chosen_rows.Goals as goal

pub returns : goal.returns
returns c =
    subst₂ (λ rows test. IfOk c.selection.result (λ p. p ≡ FilterOf rows test [] end_of-Sublink)) c.in_ok-rows.ensures c.in-Ok.ensures c.selection.ensures.made
