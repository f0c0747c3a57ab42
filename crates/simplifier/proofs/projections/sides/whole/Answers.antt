use Rattle.std.proofs.Common.{refl, ap, ◌∙◌}
use Rattle.std.specs.List.{range_with_len}
use Rattle.simplifier.specs.projections.Sides.{of_itself}
use Rattle.simplifier.proofs.projections.sides.whole.Goals as goal

pub returns : goal.returns
returns c = of_itself refl (c.in_ok-places.ensures ∙ ap (range_with_len 0) c.in_ok-width.ensures.columns) c.in_ok-width.ensures.columns
