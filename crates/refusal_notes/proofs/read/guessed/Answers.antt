use Rattle.refusal_notes.proofs.Guesses.{at-arm, script-arm, data-arm, last-arm}
use Rattle.refusal_notes.proofs.read.guessed.Goals as goal

pub returns-then-mark-eq97 : goal.returns-then-mark-eq97
returns-then-mark-eq97 c =
    λ cause fits e. at-arm c.args.line.now cause c.byte_at-mark.result c.at_offset.result fits e
    c.byte_at-mark.ensures.byte c.byte_at-mark.ensures.none c.if-mark-eq97.true c.at_offset.ensures

pub returns-then-mark-eq115 : goal.returns-then-mark-eq115
returns-then-mark-eq115 c =
    λ cause fits e. script-arm c.args.line.now cause c.byte_at-mark.result c.of_script.result fits e
    c.byte_at-mark.ensures.byte c.byte_at-mark.ensures.none c.if-mark-eq115.true c.of_script.ensures.missing c.of_script.ensures.long

pub returns-then-mark-eq114 : goal.returns-then-mark-eq114
returns-then-mark-eq114 c =
    λ cause fits e. data-arm c.args.line.now cause c.byte_at-mark.result c.of_data.result fits e
    c.byte_at-mark.ensures.byte c.byte_at-mark.ensures.none c.if-mark-eq114.true c.of_data.ensures

pub returns-else-mark-eq114 : goal.returns-else-mark-eq114
returns-else-mark-eq114 c =
    λ cause fits e. last-arm c.args.line.now cause c.byte_at-mark.result fits e
    c.byte_at-mark.ensures.byte c.byte_at-mark.ensures.none c.if-mark-eq97.false c.if-mark-eq115.false c.if-mark-eq114.false
