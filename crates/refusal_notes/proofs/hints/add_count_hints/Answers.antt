use Rattle.refusal_notes.proofs.Added.{added-twice}
use Rattle.refusal_notes.specs.Hints.{count_line}
use Rattle.refusal_notes.proofs.hints.add_count_hints.Goals as goal

pub returns : goal.returns
returns c = added-twice _ _ _ _ (count_line c.args.count) _ c.in_ok-add_count.ensures (rw c.separator_advice.ensures at c.add_hint.ensures)
