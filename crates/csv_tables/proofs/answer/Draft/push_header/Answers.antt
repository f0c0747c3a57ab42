use Rattle.std.proofs.Common.{◌∙◌}
use Rattle.csv_tables.proofs.Joining.{joined-next}
use Rattle.csv_tables.specs.AnswerText.{quoted}
use Rattle.csv_tables.proofs.answer.Draft.push_header.Goals as goal

pub loop-place-preserved : goal.loop-place-preserved
loop-place-preserved c =
    joined-next quoted c.args.self.now c.args.names.now c.loop-place.place c.bytes.result.now c.index-names-place.result c.loop-place-test.true (c.bytes.ensures.value ∙ c.index-names-place.is)
    c.loop-place.invariant c.in_ok-push_separator.ensures c.in_ok-push_quoted.ensures
