use Rattle.std.proofs.Common.{refl}
use Rattle.refusal_hints.proofs.Rows.{advice_of_texts}
use Rattle.refusal_hints.proofs.tables.text_advice.Goals as goal

pub returns : goal.returns
returns c =
    rw (
      c.or_else-2.ensures,
      c.or_else.ensures,
      c.or_else-further.ensures,
      c.query_advice.ensures,
      c.column_advice.ensures,
      c.call_advice.ensures,
      c.script_advice.ensures,
      advice_of_texts c.args.text.now,
    ) refl
