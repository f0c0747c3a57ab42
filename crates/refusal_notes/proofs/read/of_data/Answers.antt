use Rattle.std.proofs.Common.{◌∙◌}
use Rattle.refusal_notes.proofs.Spelt.{width-read, integer-read, text-read}
use Rattle.refusal_notes.proofs.read.of_data.Goals as goal

pub returns-then-mark-eq50 : goal.returns-then-mark-eq50
returns-then-mark-eq50 c =
    λ error fits e. width-read c.args.line.now error c.byte_at-mark.result c.number.result fits e c.byte_at-mark.ensures.byte
    (λ n below d. c.number.ensures n below (c.from-place.ensures ∙ d)) c.if-mark-eq50.true

pub returns-then-mark-eq51 : goal.returns-then-mark-eq51
returns-then-mark-eq51 c =
    λ error fits e. integer-read c.args.line.now error c.byte_at-mark.result c.first_number-row.result c.second_number-field.result fits e
    c.byte_at-mark.ensures.byte (λ row field below d. c.first_number-row.ensures row field below (c.from-place.ensures ∙ d))
    (λ row field below within d. c.second_number-field.ensures row field below within (c.from-place.ensures ∙ d)) c.if-mark-eq51.true

pub returns-else-mark-eq51 : goal.returns-else-mark-eq51
returns-else-mark-eq51 c =
    λ error fits e. text-read c.args.line.now error c.byte_at-mark.result c.first_number-row.result c.second_number-field.result fits e
    c.byte_at-mark.ensures.byte (λ row field below d. c.first_number-row.ensures row field below (c.from-place.ensures ∙ d))
    (λ row field below within d. c.second_number-field.ensures row field below within (c.from-place.ensures ∙ d))
    c.if-mark-eq50.false c.if-mark-eq51.false
