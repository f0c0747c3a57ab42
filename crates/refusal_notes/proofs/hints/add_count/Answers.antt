use Rattle.std.proofs.Common.{codes}
use Rattle.refusal_notes.proofs.Added.{added-thrice}
use Rattle.refusal_notes.proofs.hints.add_count.Goals as goal

pub returns : goal.returns
returns c =
    added-thrice _ _ _ _ _ (codes "hint: fields of this record: ") _ (codes "\n") c.in_ok-add.ensures.ok c.in_ok-add_number.ensures c.add-2.ensures.ok
