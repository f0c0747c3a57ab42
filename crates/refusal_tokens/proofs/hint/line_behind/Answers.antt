use Rattle.refusal_tokens.proofs.Saying.{line_said}
use Rattle.refusal_tokens.proofs.hint.line_behind.Goals as goal

pub returns : goal.returns
returns c =
    line_said c.args.script.now c.args.front.now c.args.at c.requires.front c.requires.short
    c.in_ok-values.values c.in_ok-words.words c.in_ok-operators.operators c.in_ok-marks.marks
    _ _ _ _ c.in_ok-list.list _ c.line.result
    c.in_ok-values.ensures c.in_ok-words.ensures c.in_ok-operators.ensures c.in_ok-marks.ensures
    c.as_slice.ensures c.as_slice-2.ensures c.as_slice-3.ensures c.as_slice-4.ensures
    c.in_ok-list.ensures c.as_slice-5.ensures c.line.ensures
