use Rattle.csv_tables.proofs.Joining.{joined-next}
use Rattle.csv_tables.specs.AnswerText.{field_text}
use Rattle.csv_tables.proofs.answer.Draft.push_row.Goals as goal

pub loop-place-preserved : goal.loop-place-preserved
loop-place-preserved c =
    joined-next field_text c.args.self.now c.args.row.now c.loop-place.place c.index-row-place.result c.index-row-place.result c.loop-place-test.true c.index-row-place.is
    c.loop-place.invariant c.in_ok-push_separator.ensures c.in_ok-push_field.ensures
