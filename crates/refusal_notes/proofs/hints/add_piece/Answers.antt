use Rattle.std.proofs.Common.{◌∙◌}
use Rattle.refusal_notes.proofs.hints.add_piece.Goals as goal

pub returns : goal.returns
returns c = rw (c.as_slice.ensures ∙ c.in_ok-piece.ensures) at c.add_between.ensures
