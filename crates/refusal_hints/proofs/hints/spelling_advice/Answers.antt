use Rattle.std.proofs.Common.{refl}
use Rattle.refusal_hints.proofs.hints.spelling_advice.Goals as goal

pub returns : goal.returns
returns c =
    rw (
      c.or_else-2.ensures,
      c.or_else-near.ensures,
      c.or_else.ensures,
      c.or_else-marks.ensures,
      c.or_else-before.ensures,
      c.text_advice.ensures,
      c.text_advice-2.ensures,
      c.text_advice-3.ensures,
      c.text_advice-4.ensures,
      c.text_advice-5.ensures,
      c.first_statement_advice.ensures,
      c.statement_before.ensures,
      c.word_at.ensures,
      c.word_before.ensures,
      c.up_to.ensures,
      c.up_to-2.ensures,
      c.up_to-3.ensures,
      c.from-here.ensures,
      c.from.ensures,
      c.saturating_sub.ensures,
    ) refl
