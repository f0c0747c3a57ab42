use Rattle.refusal_notes.proofs.places.Columns.{column-stays}
use Rattle.refusal_notes.proofs.places.place.column_behind.Goals as goal

pub loop-byte-preserved : goal.loop-byte-preserved
loop-byte-preserved c =
    column-stays c.args.before.now c.loop-byte.byte-index c.loop-byte.column c.column_after-column.result _ c.loop-byte-test.true
    c.loop-byte.invariant c.column_after-column.ensures
