use Rattle.std.proofs.Common.{sym, ◌∙◌}
use Rattle.std.proofs.lemmas.Str.{chars_past_char}
use Rattle.null_logic.proofs.pattern.first_char.Goals as goal

pub returns-clause-chars : goal.returns-clause-chars
returns-clause-chars c = rw c.as_str.ensures (chars_past_char _ _ _ c.utf8.text (sym c.chars-rest.ensures.rest ∙ c.in_ok-first.ensures.steps.0))
