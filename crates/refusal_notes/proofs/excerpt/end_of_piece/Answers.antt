use Rattle.std.proofs.Common.{◌∙◌, ◌+◌, ap}
use Rattle.refusal_notes.specs.Excerpts.{continued}
use Rattle.refusal_notes.proofs.excerpt.end_of_piece.Goals as goal

pub returns : goal.returns
returns c = ap (λ n. 80 + n) (c.continued.ensures.value ∙ ap continued c.from.ensures)
