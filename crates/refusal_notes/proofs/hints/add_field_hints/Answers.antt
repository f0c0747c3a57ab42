use Rattle.refusal_notes.proofs.Added.{added-twice}
use Rattle.refusal_notes.specs.Hints.{piece_line}
use Rattle.refusal_notes.proofs.hints.add_field_hints.Goals as goal

pub returns : goal.returns
returns c = added-twice _ _ _ _ (piece_line c.args.field.now) _ c.in_ok-add_piece.ensures (rw c.field_advice.ensures at c.add_hint.ensures)
